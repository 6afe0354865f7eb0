use Rattle.mg_server.proofs.ClosingLemmas.{IsBestBelow}
use Rattle.mg_server.proofs.table.Table.stillest.Given as goal

-- so far, the best of the keys below
abbrev pub invariant-loop-index : goal.invariant-loop-index
invariant-loop-index g l = IsBestBelow l.self.entries l.least l.index l.best
