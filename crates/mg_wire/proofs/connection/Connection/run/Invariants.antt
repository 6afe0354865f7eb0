use Rattle.mg_wire.specs.Connection.{IsSilent, Holds, work}
use Rattle.mg_wire.specs.Transcript.{Asks}
use Rattle.mg_wire.proofs.connection.Connection.run.Given as goal

abbrev pub invariant-loop : goal.invariant-loop
invariant-loop g l = record {
  quiet : IsSilent l.fn.self l.self;
  asks : Asks g.S.Service.answers l.fn.self.calls.items l.fn.service l.self.calls.items l.service;
  holds : Holds l.fn.self → Holds l.self;
}

abbrev pub decreases-loop : goal.decreases-loop
decreases-loop g l = work l.self
