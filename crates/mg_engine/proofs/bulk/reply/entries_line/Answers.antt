use Rattle.std.proofs.Common.{◌≡◌, [], ◌∷◌, ◌++◌, ap, ap₂, ◌∙◌}
use Rattle.json.specs.Print.{print}
use Rattle.json.specs.Token.{begin_array}
use Rattle.mg_value.specs.Held.{items_tokens_of, tokens_of}
use Rattle.mg_value.specs.Value.{list}
use Rattle.mg_engine.specs.Outcomes.{entries_view}
use Rattle.mg_value.proofs.Compact.{printed}
use Rattle.mg_engine.proofs.bulk.reply.entries_line.Goals as goal

pub returns : goal.returns
returns c =
    let shown = entries_view c.args.new_edits c.args.outcomes.now in
    let tokens : c.write_entries.new.out.tokens ≡ tokens_of (list shown) =
    c.in_ok-write_entries.ensures.tokens ∙ ap (λ ts. ts ++ items_tokens_of shown) (c.in_ok-begin_array.ensures.ok ∙ ap (λ ts. ts ++ begin_array ∷ []) c.new-out.ensures.tokens) in
    let before : c.write_entries.new.out.before ≡ [] =
    c.in_ok-write_entries.ensures.before ∙ c.in_ok-begin_array.ensures.room.0 ∙ c.new-out.ensures.before ∙ c.in_ok-with_capacity.ensures.items in
    c.in_ok-with_line_feed.ensures ∙ ap (λ t. t ++ 10 ∷ []) (c.into_inner.ensures.items ∙ ap₂ (λ b ts. b ++ print ts) before tokens ∙ printed (list shown))
