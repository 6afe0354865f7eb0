use Rattle.std.proofs.Common.{◌≡◌, ℕ, drop, Some, refl, sym, ap, inr, append-nil, ◌∙◌, arith}
use Rattle.std.proofs.lemmas.Grind.{common_steps}
use Rattle.mg_wire.proofs.ChainLemmas.{asks_none, asks_one}
use Rattle.mg_wire.specs.declared.refusal.Refusal.TheVariants.{NoMemory}
use Rattle.mg_wire.proofs.StartLemmas.{begins_whole}
use Rattle.mg_wire.proofs.HoldLemmas.{starves}
use Rattle.mg_wire.proofs.TurnLemmas.{due_now}
use Rattle.mg_wire.proofs.connection.Connection.answer.Goals as goal

pub returns-in-Err-clause-holds : goal.returns-in-Err-clause-holds
returns-in-Err-clause-holds g c = λ b bare goes_on none same h w.
    starves (record c.args.self.now { begun = Some b }) _ _ (record {
      silent = record { bounds = ap (λ k. k.bounds) c.close.ensures; reads = ap (λ k. k.reads) c.close.ensures; writes = ap (λ k. k.writes) c.close.ensures };
      calls = ap (λ k. k.calls) c.close.ensures;
      ended = ap (λ k. k.has_ended) c.close.ensures;
      starved = ap (λ k. k.is_starved) c.close.ensures;
      bare = bare;
      tail = ap (λ k. k.tail.items) c.close.ensures ∙ bare;
      out = ap (λ k. k.output.items) c.close.ensures ∙ c.in-Err.ensures.items ∙ sym (append-nil _);
    }) h goes_on refl (ap (λ k. k.end) c.close.ensures) NoMemory (inr (begins_whole _ _ c.args.begun w))

pub returns-in-Err-clause-asks : goal.returns-in-Err-clause-asks
returns-in-Err-clause-asks g c = asks_none g.S.Service.answers _ _ _ (ap (λ k. k.calls.items) c.close.ensures)

pub returns-clause-asks : goal.returns-clause-asks
returns-clause-asks g c =
    asks_one g.S.Service.answers c.args.self.now.calls.items _ c.args.service.now c.call.new.self (c.args.begun.request, c.call.new.response)
    (ap (λ k. k.items) c.reply.ensures.calls ∙ c.and-self.ensures) c.call.ensures

pub returns-clause-holds : goal.returns-clause-holds
returns-clause-holds g c = λ b bare goes_on none same h w.
    let at : c.min.result ≡ c.args.begun.at = grind (arith, common_steps, w.within) in
    c.reply.ensures.holds (due_now c.args.self.now _ b c.args.begun c.call.new.response h goes_on none bare w same refl refl refl refl refl refl c.in-Ok.ensures.items c.and-self.ensures
    (c.advance.ensures.items ∙ ap (λ (k : ℕ). drop k c.args.self.now.input.items) at))

pub reply-requires : goal.reply-requires
reply-requires g c = record { room = c.in-Ok.ensures.spare.1 }
