use Rattle.std.proofs.Common.{◌≡◌, ◌==◌, ℕ, List, true, false, length, sym, ap, ◌∙◌}
use Rattle.mg_http.proofs.OutputLemmas.{both_empty}
use Rattle.mg_http.proofs.sessions.output.Output.is_empty.Goals as goal

pub returns-else-is_empty : goal.returns-else-is_empty
returns-else-is_empty c = (
  λ yes. absurd (let e : true ≡ false = sym yes ∙ c.if-is_empty.false in cc),
  λ none. c.is_empty.ensures ∙ ap (λ (xs : List ℕ). length xs == 0) (both_empty c.args.self.now.joined.items _ none).0,
)
