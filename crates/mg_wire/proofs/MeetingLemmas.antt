-- Which states of a service a client may meet.
use Rattle.std.proofs.Common.{Bool, true, false, refl, ◌∙◌}
use Rattle.mg_server.specs.Meeting.{Meets}

module _ {S : Type 0} (follows : S → S → Type 0) (same : (a : S) → follows a a) (onward : (a b c : S) → follows a b → follows b c → follows a c) (moves : Bool) where
  pub met_same : (a : S) → Meets follows moves a a
  met_same a = elim moves as (λ m. Meets follows m a a) [ true ↦ same a | false ↦ refl ]

  pub met_then : (a b c : S) → Meets follows moves a b → Meets follows moves b c → Meets follows moves a c
  met_then a b c =
      elim moves as (λ m. Meets follows m a b → Meets follows m b c → Meets follows m a c) [
        | true ↦ onward a b c
        | false ↦ λ x y. y ∙ x
      ]
