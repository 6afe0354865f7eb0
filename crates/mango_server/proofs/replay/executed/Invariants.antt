use Rattle.std.proofs.Common.{◌≡◌, ◌++◌}
use Rattle.mg_machine.specs.Machine.{commands_of}
use Rattle.mango_server.specs.Ready.{writes_of}
use Rattle.mango_server.proofs.replay.executed.Given as goal

-- the seat has seen what it had seen, and then the writes so far
abbrev pub invariant-loop-write : goal.invariant-loop-write
invariant-loop-write g l = commands_of l.seat.seen ≡ commands_of l.fn.seat.seen ++ writes_of l.yielded
