use Rattle.std.proofs.Common.{refl, sym, arith}
use Rattle.mg_scan.proofs.Ends.{before_none, before_on, ends_on}
use Rattle.mg_scan.proofs.range_end.RangeEnd.comes_before.Goals as goal

pub returns-then-self-gt0-clause-late : goal.returns-then-self-gt0-clause-late
returns-then-self-gt0-clause-late c = sym (c.requires.sure 0 (omega arith))

pub returns-then-self-gt0-clause-sure : goal.returns-then-self-gt0-clause-sure
returns-then-self-gt0-clause-sure c =
    let sure = c.args.self.now.sure in
    before_on c.args.search c.args.row.now c.args.rows.now sure _ refl c.requires.sure

pub returns-then-is_late_row-clause-sure : goal.returns-then-is_late_row-clause-sure
returns-then-is_late_row-clause-sure c = before_none c.args.search c.args.rows.now c.args.self.now.sure (omega arith)

pub look_ahead-requires-clause-ordered : goal.look_ahead-requires-clause-ordered
look_ahead-requires-clause-ordered c = ends_on c.args.search c.args.row.now c.args.rows.now c.requires.ordered
