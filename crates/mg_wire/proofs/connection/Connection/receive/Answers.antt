use Rattle.std.proofs.Common.{◌≡◌, ℕ, List, ◌++◌, length, None, refl, sym, ap, subst, inl, ◌∙◌, arith}
use Rattle.std.proofs.lemmas.Grind.{common_steps}
use Rattle.mg_wire.specs.Connection.{Holds}
use Rattle.mg_wire.proofs.CarryLemmas.{carry, released, received_more}
use Rattle.mg_wire.proofs.connection.Connection.receive.Goals as goal

pub returns-then-is_err-clause-holds : goal.returns-then-is_err-clause-holds
returns-then-is_err-clause-holds g c =
    let goes_on : c.args.self.now.end ≡ None = grind (arith, common_steps) in
    released c.args.self.now _ refl refl refl refl refl refl refl c.reserve.ensures.items refl refl (inl goes_on)

pub returns-in-Err-clause-holds : goal.returns-in-Err-clause-holds
returns-in-Err-clause-holds g c =
    let goes_on : c.args.self.now.end ≡ None = grind (arith, common_steps) in
    let only = c.give_back.ensures.only in
    released c.args.self.now c.give_back.new.self (ap (λ k. k.bounds) only) (ap (λ k. k.reads) only) (ap (λ k. k.writes) only) (ap (λ k. k.calls) only) (ap (λ k. k.has_ended) only) (ap (λ k. k.end) only) (ap (λ k. k.begun) only)
    (c.give_back.ensures.input ∙ ap (λ b. b.items) c.in-Err.ensures.err.0 ∙ c.reserve.ensures.items) c.give_back.ensures.output c.give_back.ensures.tail (inl goes_on)

pub returns-then-count-gt0-clause-holds : goal.returns-then-count-gt0-clause-holds
returns-then-count-gt0-clause-holds g c =
    let goes_on : c.args.self.now.end ≡ None = grind (arith, common_steps) in
    let came = c.in-Ok.ensures.ok in
    let grew = came.2 ∙ ap (λ (u : List ℕ). u ++ came.0) c.reserve.ensures.items in
    carry c.args.self.now _ came.0 refl
    (received_more c.args.self.now (record c.args.self.now { reads = c.and-self.result }) c.read_from.new.self c.len-len.result c.args.self.now.input.items came.0 c.and-self.ensures (c.len-len.ensures.value ∙ ap length c.reserve.ensures.items) grew)
    refl refl refl refl goes_on grew

pub returns-else-count-gt0-clause-holds : goal.returns-else-count-gt0-clause-holds
returns-else-count-gt0-clause-holds g c =
    let goes_on : c.args.self.now.end ≡ None = grind (arith, common_steps) in
    let came = c.in-Ok.ensures.ok in
    let grew = came.2 ∙ ap (λ (u : List ℕ). u ++ came.0) c.reserve.ensures.items in
    λ h. subst Holds (sym c.note_end.ensures.only) (carry c.args.self.now _ came.0 refl
    (received_more c.args.self.now (record c.args.self.now { reads = c.and-self.result }) c.read_from.new.self c.len-len.result c.args.self.now.input.items came.0 c.and-self.ensures (c.len-len.ensures.value ∙ ap length c.reserve.ensures.items) grew)
    refl refl refl refl goes_on grew h)
