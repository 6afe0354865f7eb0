use Rattle.std.proofs.Common.{List, ℕ, ◌≤◌, length, subst, sym, inl, inr}
use Rattle.mg_wire.specs.Body.{HasNoMessage, AwaitsHead, IsFresh}
use Rattle.mg_wire.specs.Connection.{AwaitsRequest}
use Rattle.mg_wire.specs.Refusal.{Refuses}
use Rattle.mg_wire.proofs.connection.Connection.start.Goals as goal

pub returns-in-Ok-Some-clause-works : goal.returns-in-Ok-Some-clause-works
returns-in-Ok-Some-clause-works c = λ t.
    let read = rw c.in-Ok-Some.field-0-is at c.in-Ok-Some.ensures.read in
    (c.in-Ok-Some.begun, (c.accept.ensures.works t).0, (c.accept.ensures.works t).1, read.begun.moved, subst (λ (u : List ℕ). c.in-Ok-Some.begun.at ≤ length u) c.as_slice.ensures read.begun.within)

pub returns-in-Ok-None-clause-holds : goal.returns-in-Ok-None-clause-holds
returns-in-Ok-None-clause-holds c = λ bare first goes_on h.
    let none = rw c.in-Ok-None.field-0-is at c.in-Ok-None.ensures.read in
    c.wait.ensures.holds bare goes_on (subst (λ (u : List ℕ). HasNoMessage c.args.self.now.bounds.limits u) c.as_slice.ensures none.0) h

pub returns-in-Ok-None-clause-rests : goal.returns-in-Ok-None-clause-rests
returns-in-Ok-None-clause-rests c = λ first no later bare room.
    let none = rw c.in-Ok-None.field-0-is at c.in-Ok-None.ensures.read in
    elim c.wait.ensures.waits [
      | inl closed ↦ absurd (closed later)
      | inr same ↦
          let awaits = subst (λ (u : List ℕ). AwaitsHead c.args.self.now.bounds.limits u) c.as_slice.ensures none in
          subst AwaitsRequest (sym same.0) (record { answered = awaits.0; goes_on = same.1; fed = same.2; valid = λ first. awaits })
    ]

pub returns-in-Err-clause-holds : goal.returns-in-Err-clause-holds
returns-in-Err-clause-holds c = λ bare first goes_on h.
    c.refuse.ensures.holds c.args.self.now.begun bare goes_on
    (subst (λ (u : List ℕ). Refuses c.args.self.now.bounds c.args.self.now.has_ended c.args.self.now.is_starved u c.in-Err.refusal) c.as_slice.ensures
    (c.in-Err.ensures.refused c.args.self.now.has_ended c.args.self.now.is_starved)) h

pub returns-in-Ok-Some-clause-holds : goal.returns-in-Ok-Some-clause-holds
returns-in-Ok-Some-clause-holds c = λ bare first goes_on h.
    let fresh = rw c.in-Ok-Some.field-0-is at c.in-Ok-Some.ensures.read in
    c.accept.ensures.holds bare first goes_on (subst (λ (u : List ℕ). IsFresh c.args.self.now.bounds u c.in-Ok-Some.begun) c.as_slice.ensures fresh) h
