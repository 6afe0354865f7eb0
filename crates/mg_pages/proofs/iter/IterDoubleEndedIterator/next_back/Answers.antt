use Rattle.std.proofs.Common.{◌-◌, [], ◌∷◌, length, take, refl, sym, ap, ◌∙◌, arith}
use Rattle.std.proofs.lemmas.List.{length-append}
use Rattle.mg_pages.proofs.Between.{between_as, between_last, last_between, none_between}
use Rattle.mg_pages.proofs.iter.IterDoubleEndedIterator.next_back.Goals as goal

pub invariant_of-self : goal.invariant_of-self
invariant_of-self g c = let h = c.in_default.ensures.steps in between_as refl (h.1 ∙ sym h.0) refl c.self.invariant

pub returns-in_default : goal.returns-in_default
returns-in_default g c =
    let it = c.self.inside in
    let none = none_between it.up it.down it.left c.self.invariant c.in_default.ensures.steps.0 in
    record { steps = (sym c.self.view_is ∙ none, none); goes = record { on = λ _. tt; keeps = tt; rests = λ _. tt } }

pub invariant_of-self-2 : goal.invariant_of-self-2
invariant_of-self-2 g c =
    let it = c.self.inside in
    between_last c.in-Some.last.now c.next.new.self (it.left - 1) it.up it.down it.left c.self.invariant c.in-Some.ensures.steps (omega arith)

pub returns : goal.returns
returns g c =
    let it = c.self.inside in
    let x = c.in-Some.last.now in
    let n = it.left - 1 in
    let steps = sym c.self.view_is ∙ last_between x c.next.new.self n it.up it.down it.left c.self.invariant c.in-Some.ensures.steps (omega arith) in
    record { steps = steps; goes = record { on = λ _. (tt, tt, omega (arith, ap length steps, length-append (take n it.up) (x ∷ []))); keeps = tt; rests = λ _. tt } }
