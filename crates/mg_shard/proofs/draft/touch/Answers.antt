use Rattle.std.proofs.Common.{◌≡◌, true, false, is_ok, refl, rules, sym, ap, ◌∙◌, subst, string_bytes}
use Rattle.std.specs.FinMap.{insert}
use Rattle.mg_revtree.specs.Tree.{StandsFor, Tree}
use Rattle.mg_shard.specs.Draft.{touched_of}
use Rattle.mg_shard.specs.Edits.{id_in, outcome_view}
use Rattle.mg_shard.proofs.Touched.{not_touched, now_touched, touched-put}
use Rattle.mg_shard.proofs.draft.touch.Goals as goal

pub apply_ready-requires : goal.apply_ready-requires
apply_ready-requires c = λ h st. c.requires h (subst (λ (t : Tree). StandsFor t h) c.in_ok-tree.ensures st)

pub returns-then-not-is_done-clause-outcome : goal.returns-then-not-is_done-clause-outcome
returns-then-not-is_done-clause-outcome c = λ h st. c.in_ok-reply.ensures.outcome h (subst (λ (t : Tree). StandsFor t h) (sym c.in_ok-tree.ensures) st)

pub returns-then-not-is_done-clause-touched : goal.returns-then-not-is_done-clause-touched
returns-then-not-is_done-clause-touched c = λ h st.
    let ts = touched_of c.args.touched.now.entries in
    let not : is_ok (outcome_view c.in_ok-reply.reply) ≡ false = search rules in
    not_touched h c.args.ready (outcome_view c.in_ok-reply.reply) ts ts not refl

pub returns-clause-outcome : goal.returns-clause-outcome
returns-clause-outcome c = λ h st. c.in_ok-reply.ensures.outcome h (subst (λ (t : Tree). StandsFor t h) (sym c.in_ok-tree.ensures) st)

pub returns-clause-touched : goal.returns-clause-touched
returns-clause-touched c = λ h st.
    let ts = touched_of c.args.touched.now.entries in
    let tree = c.apply_ready.new.tree in
    let did = c.in_ok-reply.ensures.stands h (subst (λ (t : Tree). StandsFor t h) (sym c.in_ok-tree.ensures) st) in
    let done : is_ok (outcome_view c.in_ok-reply.reply) ≡ true = search rules in
    let key : string_bytes c.in_ok-key.key ≡ id_in c.args.ready = c.in_ok-key.ensures.ok ∙ c.id_in.ensures ∙ ap id_in c.edit.ensures in
    let put = touched-put c.args.touched.now c.insert.new.self (string_bytes c.in_ok-key.key) tree c.in_ok-insert.ensures.updates in
    now_touched h c.args.ready (outcome_view c.in_ok-reply.reply) ts (touched_of c.insert.new.self.entries) tree done did (put ∙ ap (λ i. insert ts i tree) key)
