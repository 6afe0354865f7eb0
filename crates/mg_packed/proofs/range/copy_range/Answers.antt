use Rattle.std.proofs.Common.{arith}
use Rattle.mg_packed.proofs.range.copy_range.Goals as goal

pub mark-from-requires-clause-has_mark : goal.mark-from-requires-clause-has_mark
mark-from-requires-clause-has_mark c = c.requires.marked.there c.args.start (omega arith) c.requires.marked.ordered

pub mark-last-requires-clause-has_mark : goal.mark-last-requires-clause-has_mark
mark-last-requires-clause-has_mark c = c.requires.marked.there c.args.end c.requires.marked.ordered (omega arith)
