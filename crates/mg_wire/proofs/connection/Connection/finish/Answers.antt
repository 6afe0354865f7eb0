use Rattle.std.proofs.Common.{◌≡◌, ◌≢◌, [], refl, sym, ap, append-nil, ◌∙◌, arith}
use Rattle.std.proofs.lemmas.Grind.{common_steps}
use Rattle.mg_wire.proofs.HoldLemmas.{runs_out, empty_is, not_empty}
use Rattle.mg_wire.proofs.connection.Connection.finish.Goals as goal

pub returns-then-is_empty-clause-holds : goal.returns-then-is_empty-clause-holds
returns-then-is_empty-clause-holds c = λ bare goes_on none h.
    let empty : c.args.self.now.input.items ≡ [] = empty_is c.args.self.now.input.items c.is_empty.result c.is_empty.ensures (grind (arith, common_steps)) in
    runs_out c.args.self.now _ [] (record {
      silent = record { bounds = ap (λ k. k.bounds) c.close.ensures; reads = ap (λ k. k.reads) c.close.ensures; writes = ap (λ k. k.writes) c.close.ensures };
      calls = ap (λ k. k.calls) c.close.ensures;
      ended = ap (λ k. k.has_ended) c.close.ensures;
      starved = ap (λ k. k.is_starved) c.close.ensures;
      bare = bare;
      tail = ap (λ k. k.tail.items) c.close.ensures ∙ bare;
      out = ap (λ k. k.output.items) c.close.ensures ∙ sym (append-nil _);
    }) h goes_on refl (ap (λ k. k.end) c.close.ensures) empty c.requires

pub returns-else-is_empty-clause-holds : goal.returns-else-is_empty-clause-holds
returns-else-is_empty-clause-holds c = λ bare goes_on none h.
    let some : c.args.self.now.input.items ≢ [] = not_empty c.args.self.now.input.items c.is_empty.result c.is_empty.ensures (grind (arith, common_steps)) in
    c.refuse.ensures.holds c.args.self.now.begun bare goes_on (c.requires, some, none) h
