use Rattle.std.proofs.Common.{◌≡◌, ◌++◌, ℕ, List, Option, IfSome, subst}
use Rattle.mg_query.proofs.text.with_kept.Goals as goal

pub returns : goal.returns
returns c =
    subst (λ (o : Option (List ℕ)). IfSome o (λ t. c.extend_from_slice.new.self.items ≡ c.args.out.items ++ t)) c.compact_text.ensures c.in_ok-extend_from_slice.ensures.items
