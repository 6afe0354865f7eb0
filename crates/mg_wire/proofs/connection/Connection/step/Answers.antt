use Rattle.std.proofs.Common.{◌≡◌, [], Option, Some, None, sym, ◌∙◌, subst, arith}
use Rattle.std.proofs.lemmas.Grind.{common_steps}
use Rattle.mg_wire.specs.declared.body.Begun.{Begun}
use Rattle.mg_wire.specs.Connection.{Holds}
use Rattle.mg_wire.proofs.HoldLemmas.{empty_is}
use Rattle.mg_wire.proofs.connection.Connection.step.Goals as goal

pub returns-in-None-clause-rests : goal.returns-in-None-clause-rests
returns-in-None-clause-rests g c = λ h stops. c.start.ensures.rests c.take.ensures.after stops

pub returns-in-Some-clause-rests : goal.returns-in-Some-clause-rests
returns-in-Some-clause-rests g c = λ h stops.
    let is : c.args.self.now.begun ≡ Some c.in-Some.begun = sym c.take.ensures.value ∙ c.in-Some.is in
    let goes_on : c.args.self.now.end ≡ None = grind (arith, common_steps) in
    c.go_on.ensures.rests goes_on (subst (λ (b : Option Begun). Holds (record c.args.self.now { begun = b })) is h) stops

pub returns-in-Some-clause-holds : goal.returns-in-Some-clause-holds
returns-in-Some-clause-holds g c = λ h.
    let is : c.args.self.now.begun ≡ Some c.in-Some.begun = sym c.take.ensures.value ∙ c.in-Some.is in
    let goes_on : c.args.self.now.end ≡ None = grind (arith, common_steps) in
    let bare : c.args.self.now.tail.items ≡ [] = empty_is c.args.self.now.tail.items c.is_empty.result c.is_empty.ensures (grind (arith, common_steps)) in
    c.go_on.ensures.holds bare goes_on c.take.ensures.after (subst (λ (b : Option Begun). Holds (record c.args.self.now { begun = b })) is h)
