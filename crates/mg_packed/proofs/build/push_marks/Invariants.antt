use Rattle.std.proofs.Common.{◌≡◌, ◌++◌, drop}
use Rattle.mg_packed.specs.Tables.{all_bytes}
use Rattle.mg_packed.proofs.build.push_marks.Given as goal

-- the marks left give the rest
abbrev pub invariant-loop-mark : goal.invariant-loop-mark
invariant-loop-mark l = l.out.items ++ all_bytes l.wide (drop l.mark-index l.marks) ≡ l.initial.out.items ++ all_bytes l.wide l.marks
