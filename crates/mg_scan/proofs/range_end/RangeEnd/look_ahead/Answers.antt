use Rattle.std.proofs.Common.{true, ap, sym, ◌∙◌}
use Rattle.std.specs.Option.{option_map_or}
use Rattle.mg_scan.specs.Walked.{is_late_row}
use Rattle.mg_scan.proofs.Ends.{before_all, before_none}
use Rattle.mg_scan.proofs.range_end.RangeEnd.look_ahead.Goals as goal

pub returns-then-self : goal.returns-then-self
returns-then-self c = before_none c.args.search c.args.rows.now c.args.self.now.sure c.requires.none

pub returns-in_default : goal.returns-in_default
returns-in_default c = before_none c.args.search c.args.rows.now c.args.self.now.sure c.requires.none

pub returns-then-place-lt-FEW : goal.returns-then-place-lt-FEW
returns-then-place-lt-FEW c = before_none c.args.search c.args.rows.now c.args.self.now.sure c.requires.none

pub returns-then-is_late_row : goal.returns-then-is_late_row
returns-then-is_late_row c = before_none c.args.search c.args.rows.now c.args.self.now.sure c.requires.none

pub returns : goal.returns
returns c =
    let s = c.args.search in
    before_all s c.args.rows.now c.in-Some.place c.requires.ordered
    (ap (λ o. option_map_or (is_late_row s.direction s.range.now) o true) c.in-Some.ensures ∙ sym c.is_late_row.ensures ∙ c.if-is_late_row.false)
