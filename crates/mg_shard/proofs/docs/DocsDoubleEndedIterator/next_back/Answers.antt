use Rattle.std.proofs.Common.{ap, length, sym, ◌∙◌, arith}
use Rattle.mg_shard.specs.Documents.{form_of}
use Rattle.mg_shard.proofs.Walks.{count_before_served}
use Rattle.mg_shard.proofs.docs.DocsDoubleEndedIterator.next_back.Goals as goal

pub returns-in-Some-form-clause-goes : goal.returns-in-Some-form-clause-goes
returns-in-Some-form-clause-goes c =
    let served = ap form_of (sym c.get.ensures) ∙ sym c.in-Some-form.ensures in
    let more = count_before_served c.loop-document.self-inside.documents c.next_back.new.self c.in-Some.document.now c.in-Some.ensures.steps c.in-Some-form.form served in
    record { on = λ _. (tt, tt, omega (arith, ap length c.loop-document.invariant, more)); keeps = tt; rests = λ _. tt }
