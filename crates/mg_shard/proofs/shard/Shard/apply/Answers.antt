use Rattle.std.proofs.Common.{◌≡◌, unwrap_or, sym, ap, ◌∙◌, subst}
use Rattle.mg_shard.specs.Documents.{StandFor}
use Rattle.mg_shard.specs.Edits.{after_edits}
use Rattle.mg_shard.specs.Shard.{ShardView}
use Rattle.mg_shard.proofs.Touched.{new_draft}
use Rattle.mg_shard.proofs.shard.Shard.apply.Goals as goal

pub returns-clause-replies : goal.returns-clause-replies
returns-clause-replies c = λ hs st.
    c.in_ok-replies.ensures.outcomes hs (new_draft c.new-draft.result c.args.self.now hs c.new-draft.ensures.shard c.new-draft.ensures.touched st)

pub returns-clause-stands : goal.returns-clause-stands
returns-clause-stands c = λ hs st.
    let drafted = new_draft c.new-draft.result c.args.self.now hs c.new-draft.ensures.shard c.new-draft.ensures.touched st in
    let after = after_edits hs c.args.edits.now in
    let finished = c.in_ok-next.ensures.stands after (c.in_ok-replies.ensures.stands hs drafted) in
    let same : unwrap_or c.in_ok-next.next c.apply_all.new.self.shard ≡ c.in_ok-or_shared.field-0 =
    ap (unwrap_or c.in_ok-next.next) (c.in_ok-replies.ensures.shard ∙ c.new-draft.ensures.shard) ∙ sym c.in_ok-or_shared.ensures in
    subst (λ (s : ShardView). StandFor s.documents after) same finished

pub returns-clause-indexes : goal.returns-clause-indexes
returns-clause-indexes c =
    let before : c.apply_all.new.self.shard ≡ c.args.self.now = c.in_ok-replies.ensures.shard ∙ c.new-draft.ensures.shard in
    ap (λ (s : ShardView). s.definitions) (c.in_ok-or_shared.ensures ∙ sym (ap (unwrap_or c.in_ok-next.next) before)) ∙ c.in_ok-next.ensures.indexes ∙ ap (λ (s : ShardView). s.definitions) before
