use Rattle.std.proofs.Common.{ap, inr, ◌∙◌}
use Rattle.mg_wire.proofs.CarryLemmas.{released}
use Rattle.mg_wire.proofs.ChainLemmas.{asks_none, asks_then}
use Rattle.mg_wire.proofs.connection.Connection.run.Goals as goal

pub loop-init : goal.loop-init
loop-init g c =
    let only = c.note_date.ensures in
    record {
      quiet = record { bounds = ap (λ k. k.bounds) only; reads = ap (λ k. k.reads) only; writes = ap (λ k. k.writes) only };
      asks = asks_none g.S.Service.answers _ _ _ (ap (λ k. k.calls.items) only);
      holds = released c.args.self.now c.note_date.new.self (ap (λ k. k.bounds) only) (ap (λ k. k.reads) only) (ap (λ k. k.writes) only)
          (ap (λ k. k.calls) only) (ap (λ k. k.has_ended) only) (ap (λ k. k.end) only) (ap (λ k. k.begun) only) (ap (λ k. k.input.items) only)
          (ap (λ k. k.output.items) only) (ap (λ k. k.tail.items) only) (inr (ap (λ k. k.is_starved) only));
    }

pub loop-preserved : goal.loop-preserved
loop-preserved g c = record {
  quiet = record {
    bounds = c.step.ensures.quiet.bounds ∙ c.loop.invariant.quiet.bounds;
    reads = c.step.ensures.quiet.reads ∙ c.loop.invariant.quiet.reads;
    writes = c.step.ensures.quiet.writes ∙ c.loop.invariant.quiet.writes;
  };
  asks = asks_then g.S.Service.answers _ _ _ c.args.service.now c.loop.service c.step.new.service c.loop.invariant.asks c.step.ensures.asks;
  holds = λ h. c.step.ensures.holds (c.loop.invariant.holds h);
}

pub returns-clause-asks : goal.returns-clause-asks
returns-clause-asks g c =
    asks_then g.S.Service.answers _ _ _ c.args.service.now c.loop.service c.step.new.service c.loop.invariant.asks c.step.ensures.asks

pub returns-clause-rests : goal.returns-clause-rests
returns-clause-rests g c = λ h. c.step.ensures.rests (c.loop.invariant.holds h) c.loop-test.false
