use Rattle.std.proofs.Common.{◌≡◌, ◌-◌, ◌++◌}
use Rattle.mg_packed.specs.Writing.{moved}
use Rattle.mg_packed.proofs.range.push_moved.Given as goal

-- the marks so far and those left are all
abbrev pub invariant-loop-index : goal.invariant-loop-index
invariant-loop-index l = l.marks.items ++ moved l.source.tables.now l.from l.to l.index (l.end - l.index) ≡ l.initial.marks.items ++ moved l.source.tables.now l.from l.to l.start (l.end - l.start)
