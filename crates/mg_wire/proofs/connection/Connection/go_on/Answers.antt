use Rattle.std.proofs.Common.{◌≡◌, List, [], ℕ, Option, None, Some, refl, subst, sym, ap, inl, inr, append-nil}
use Rattle.mg_wire.specs.declared.body.Begun.{Begun}
use Rattle.mg_wire.specs.declared.connection.Connection.{Connection}
use Rattle.mg_wire.specs.declared.connection.Ending.{Ending}
use Rattle.mg_wire.specs.Body.{IsBegun, IsWhole, HasNoMessage}
use Rattle.mg_wire.specs.Connection.{Stands, Holds, AwaitsRequest}
use Rattle.mg_wire.specs.Refusal.{Refuses}
use Rattle.mg_wire.proofs.HoldLemmas.{goes}
use Rattle.mg_wire.proofs.ChainLemmas.{asks_none}
use Rattle.mg_wire.proofs.connection.Connection.go_on.Goals as goal

begun_at : (c : Connection) (b : Begun) → c.end ≡ None → Holds (record c { begun = Some b }) → IsBegun c.bounds c.input.items b
begun_at c b goes_on h = (subst (λ (s : Option Ending). Stands s (record c { begun = Some b }) h.answered h.text h.rest) goes_on h.stands).2.0

pub returns-in-Ok-Waits-clause-holds : goal.returns-in-Ok-Waits-clause-holds
returns-in-Ok-Waits-clause-holds g c = λ bare goes_on none h.
    let before : Connection = record c.args.self.now { begun = Some c.args.begun } in
    let begun = subst (λ (u : List ℕ). IsBegun before.bounds u c.args.begun) (sym c.as_slice.ensures) (begun_at c.args.self.now c.args.begun goes_on h) in
    let step = rw c.in-Ok-Waits.field-0-is at (c.in-Ok-Waits.ensures.read begun) in
    c.wait.ensures.holds bare goes_on (subst (λ (u : List ℕ). HasNoMessage before.bounds.limits u) c.as_slice.ensures step.1)
    (goes before (record c.args.self.now { begun = Some c.step.new.self }) [] (record {
      silent = record { bounds = refl; reads = refl; writes = refl };
      calls = refl;
      ended = refl;
      starved = refl;
      bare = bare;
      tail = bare;
      out = sym (append-nil _);
    }) h goes_on c.args.begun c.step.new.self refl refl refl c.step.ensures.kept goes_on refl (subst (λ (u : List ℕ). IsBegun before.bounds u c.step.new.self) c.as_slice.ensures step.0))

pub returns-in-Ok-Goes-clause-holds : goal.returns-in-Ok-Goes-clause-holds
returns-in-Ok-Goes-clause-holds g c = λ bare goes_on none h.
    let before : Connection = record c.args.self.now { begun = Some c.args.begun } in
    let begun = subst (λ (u : List ℕ). IsBegun before.bounds u c.args.begun) (sym c.as_slice.ensures) (begun_at c.args.self.now c.args.begun goes_on h) in
    let step = rw c.in-Ok-Goes.field-0-is at (c.in-Ok-Goes.ensures.read begun) in
    goes before _ [] (record {
      silent = record { bounds = refl; reads = refl; writes = refl };
      calls = refl;
      ended = refl;
      starved = refl;
      bare = bare;
      tail = bare;
      out = sym (append-nil _);
    }) h goes_on c.args.begun c.step.new.self refl refl refl c.step.ensures.kept goes_on refl (subst (λ (u : List ℕ). IsBegun before.bounds u c.step.new.self) c.as_slice.ensures step.0)

pub returns-in-Ok-Whole-clause-holds : goal.returns-in-Ok-Whole-clause-holds
returns-in-Ok-Whole-clause-holds g c = λ bare goes_on none h.
    let before : Connection = record c.args.self.now { begun = Some c.args.begun } in
    let begun = subst (λ (u : List ℕ). IsBegun before.bounds u c.args.begun) (sym c.as_slice.ensures) (begun_at c.args.self.now c.args.begun goes_on h) in
    let step = rw c.in-Ok-Whole.field-0-is at (c.in-Ok-Whole.ensures.read begun) in
    c.answer.ensures.holds c.args.begun bare goes_on none c.step.ensures.kept h (subst (λ (u : List ℕ). IsWhole before.bounds u c.step.new.self) c.as_slice.ensures step.0)

pub returns-in-Err-clause-holds : goal.returns-in-Err-clause-holds
returns-in-Err-clause-holds g c = λ bare goes_on none h.
    let before : Connection = record c.args.self.now { begun = Some c.args.begun } in
    let begun = subst (λ (u : List ℕ). IsBegun before.bounds u c.args.begun) (sym c.as_slice.ensures) (begun_at c.args.self.now c.args.begun goes_on h) in
    c.refuse.ensures.holds (Some c.args.begun) bare goes_on
    (subst (λ (u : List ℕ). Refuses before.bounds before.has_ended before.is_starved u c.in-Err.refusal) c.as_slice.ensures
    (c.in-Err.ensures.refused before.has_ended before.is_starved begun)) h

pub returns-in-Ok-Waits-clause-rests : goal.returns-in-Ok-Waits-clause-rests
returns-in-Ok-Waits-clause-rests g c = λ goes_on h no later bare room.
    let before : Connection = record c.args.self.now { begun = Some c.args.begun } in
    let stands = subst (λ (s : Option Ending). Stands s before h.answered h.text h.rest) goes_on h.stands in
    let step = rw c.in-Ok-Waits.field-0-is at (c.in-Ok-Waits.ensures.read (subst (λ (u : List ℕ). IsBegun before.bounds u c.args.begun) (sym c.as_slice.ensures) stands.2.0)) in
    elim c.wait.ensures.waits [
      | inl closed ↦ absurd (closed later)
      | inr same ↦ subst AwaitsRequest (sym same.0) (record {
        answered = subst (λ (u : List ℕ). HasNoMessage before.bounds.limits u) c.as_slice.ensures step.1;
        goes_on = same.1;
        fed = same.2;
        valid = λ none. let bad : Some c.step.new.self ≡ None = none in cc;
      })
    ]

pub returns-in-Ok-Waits-clause-asks : goal.returns-in-Ok-Waits-clause-asks
returns-in-Ok-Waits-clause-asks g c = asks_none g.S.Service.answers _ _ _ (ap (λ k. k.items) c.wait.ensures.calls)
