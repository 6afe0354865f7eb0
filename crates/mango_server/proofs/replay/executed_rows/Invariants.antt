use Rattle.std.proofs.Common.{◌≡◌, ◌++◌, List, length}
use Rattle.mg_log.specs.Entry.{entries_of}
use Rattle.mg_log.specs.declared.commit.Commit.{Commit}
use Rattle.mg_machine.specs.Machine.{commands_of}
use Rattle.mango_server.specs.Kept.{AreRowsOf}
use Rattle.mango_server.specs.Ready.{writes_of}
use Rattle.mango_server.proofs.replay.executed_rows.Given as goal

-- the rows so far are those of the commits that the seat has seen, and of the writes that are ready
abbrev pub invariant-loop-rest : goal.invariant-loop-rest
invariant-loop-rest g l = (done : List Commit) × (l.rows ≡ done ++ l.rest) × AreRowsOf (entries_of done) (commands_of l.seat.seen ++ writes_of l.ready.items)

abbrev pub decreases-loop-rest : goal.decreases-loop-rest
decreases-loop-rest g l = length l.rest
