use Rattle.std.proofs.Common.{Bool, refl, sym, ap, append-nil, ◌∙◌}
use Rattle.mg_wire.specs.Refusal.{begins_with_head, refusal_text}
use Rattle.mg_wire.proofs.HoldLemmas.{refuses, starves}
use Rattle.mg_wire.proofs.connection.Connection.refuse.Goals as goal

pub returns-in-Ok-clause-holds : goal.returns-in-Ok-clause-holds
returns-in-Ok-clause-holds c = λ b bare goes_on why h.
    refuses (record c.args.self.now { begun = b }) _ _ (record {
      silent = record { bounds = ap (λ k. k.bounds) c.close.ensures; reads = ap (λ k. k.reads) c.close.ensures; writes = ap (λ k. k.writes) c.close.ensures };
      calls = ap (λ k. k.calls) c.close.ensures;
      ended = ap (λ k. k.has_ended) c.close.ensures;
      starved = ap (λ k. k.is_starved) c.close.ensures;
      bare = bare;
      tail = ap (λ k. k.tail.items) c.close.ensures ∙ bare;
      out = ap (λ k. k.output.items) c.close.ensures ∙ c.in-Ok.ensures.ok;
    }) h goes_on c.args.self.now.date c.args.refusal
    (ap (λ (is_head : Bool). refusal_text c.args.self.now.date is_head c.args.refusal) (c.starts_with-is_head.ensures.value ∙ ap begins_with_head c.as_slice.ensures))
    (ap (λ k. k.end) c.close.ensures) why

pub returns-in-Err-clause-holds : goal.returns-in-Err-clause-holds
returns-in-Err-clause-holds c = λ b bare goes_on why h.
    starves (record c.args.self.now { begun = b }) _ _ (record {
      silent = record { bounds = ap (λ k. k.bounds) c.close-in-Err.ensures; reads = ap (λ k. k.reads) c.close-in-Err.ensures; writes = ap (λ k. k.writes) c.close-in-Err.ensures };
      calls = ap (λ k. k.calls) c.close-in-Err.ensures;
      ended = ap (λ k. k.has_ended) c.close-in-Err.ensures;
      starved = ap (λ k. k.is_starved) c.close-in-Err.ensures;
      bare = bare;
      tail = ap (λ k. k.tail.items) c.close-in-Err.ensures ∙ bare;
      out = ap (λ k. k.output.items) c.close-in-Err.ensures ∙ c.in-Err.ensures.err ∙ sym (append-nil _);
    }) h goes_on refl (ap (λ k. k.end) c.close-in-Err.ensures) c.args.refusal why
