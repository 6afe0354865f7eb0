use Rattle.std.proofs.Common.{◌-◌, length, take, refl, sym, ap, ◌∙◌, arith}
use Rattle.mg_pages.proofs.Between.{between_as, between_first, first_between, take_none}
use Rattle.mg_pages.proofs.iter.IterIterator.next.Goals as goal

pub invariant_of-self : goal.invariant_of-self
invariant_of-self g c = let h = c.in_default.ensures.steps in between_as (h.1 ∙ sym h.0) refl refl c.self.invariant

pub returns-in_default : goal.returns-in_default
returns-in_default g c =
    let h = c.in_default.ensures.steps in
    let left = c.self.inside.left in
    record { steps = (sym c.self.view_is ∙ ap (take left) h.0 ∙ take_none left, ap (take left) h.1 ∙ take_none left); goes = record { on = λ _. tt; keeps = tt; rests = λ _. tt } }

pub invariant_of-self-2 : goal.invariant_of-self-2
invariant_of-self-2 g c =
    let it = c.self.inside in
    between_first c.in-Some.element.now c.next.new.self (it.left - 1) it.up it.down it.left c.self.invariant c.in-Some.ensures.steps (omega arith)

pub returns : goal.returns
returns g c =
    let it = c.self.inside in
    let steps = sym c.self.view_is ∙ first_between c.in-Some.element.now c.next.new.self (it.left - 1) it.up it.left c.in-Some.ensures.steps (omega arith) in
    record { steps = steps; goes = record { on = λ _. (tt, tt, omega (arith, ap length steps)); keeps = tt; rests = λ _. tt } }
