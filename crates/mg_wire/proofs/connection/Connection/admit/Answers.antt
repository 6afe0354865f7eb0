use Rattle.std.proofs.Common.{◌≡◌, [], true, false, refl, sym, ap, inr, append-nil, ◌∙◌, arith}
use Rattle.std.proofs.lemmas.Grind.{common_steps}
use Rattle.mg_wire.specs.Transcript.{interim_for}
use Rattle.mg_wire.specs.declared.refusal.Refusal.TheVariants.{NoMemory}
use Rattle.mg_wire.proofs.StartLemmas.{begins_begun}
use Rattle.mg_wire.proofs.HoldLemmas.{admits, starves}
use Rattle.mg_wire.proofs.connection.Connection.admit.Goals as goal

pub returns-then-not-begun-clause-holds : goal.returns-then-not-begun-clause-holds
returns-then-not-begun-clause-holds c = λ bare first goes_on begun h.
    let no : c.args.begun.expects_continue ≡ false = grind (arith, common_steps) in
    admits c.args.self.now _ [] (record {
      silent = record { bounds = refl; reads = refl; writes = refl };
      calls = refl;
      ended = refl;
      starved = refl;
      bare = bare;
      tail = bare;
      out = sym (append-nil _);
    }) h goes_on c.args.begun first (ap interim_for (sym no)) refl goes_on refl begun

pub returns-in-Ok-clause-holds : goal.returns-in-Ok-clause-holds
returns-in-Ok-clause-holds c = λ bare first goes_on begun h.
    let yes : c.args.begun.expects_continue ≡ true = grind (arith, common_steps) in
    admits c.args.self.now _ _ (record {
      silent = record { bounds = refl; reads = refl; writes = refl };
      calls = refl;
      ended = refl;
      starved = refl;
      bare = bare;
      tail = bare;
      out = c.in-Ok.ensures.ok;
    }) h goes_on c.args.begun first (ap interim_for (sym yes)) refl goes_on refl begun

pub returns-in-Err-clause-holds : goal.returns-in-Err-clause-holds
returns-in-Err-clause-holds c = λ bare first goes_on begun h.
    starves c.args.self.now _ _ (record {
      silent = record { bounds = ap (λ k. k.bounds) c.close.ensures; reads = ap (λ k. k.reads) c.close.ensures; writes = ap (λ k. k.writes) c.close.ensures };
      calls = ap (λ k. k.calls) c.close.ensures;
      ended = ap (λ k. k.has_ended) c.close.ensures;
      starved = ap (λ k. k.is_starved) c.close.ensures;
      bare = bare;
      tail = ap (λ k. k.tail.items) c.close.ensures ∙ bare;
      out = ap (λ k. k.output.items) c.close.ensures ∙ c.in-Err.ensures.err ∙ sym (append-nil _);
    }) h goes_on refl (ap (λ k. k.end) c.close.ensures) NoMemory (inr (begins_begun _ _ c.args.begun begun))
