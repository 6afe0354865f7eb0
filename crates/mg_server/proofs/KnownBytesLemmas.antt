-- One turn after another: what was read and what was written.
use Rattle.std.proofs.Common.{◌∙◌, ℕ, List, ◌++◌, Option, ap, append_assoc}
use Rattle.std.proofs.KnownBytes.{Appends-trans, Consumes-trans}
use Rattle.mg_server.specs.Turns.{HasRead, HasWrote}

pub HasRead-trans : (a b c : Option (List ℕ)) (x y z : List ℕ) → HasRead a b x y → HasRead b c y z → HasRead a c x z
HasRead-trans a b c x y z first second =
    (first.0 ++ second.0, Consumes-trans a b c first.0 second.0 first.1 second.1, second.2 ∙ ap (λ (l : List ℕ). l ++ second.0) first.2 ∙ append_assoc x first.0 second.0)

pub HasWrote-trans : (a b c : Option (List ℕ)) (x y z : List ℕ) → HasWrote a b x y → HasWrote b c y z → HasWrote a c x z
HasWrote-trans a b c x y z first second =
    (first.0 ++ second.0, Appends-trans a b c first.0 second.0 first.1 second.1, second.2 ∙ ap (λ (l : List ℕ). l ++ second.0) first.2 ∙ append_assoc x first.0 second.0)
