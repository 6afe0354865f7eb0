-- Rows that come after the range of a search in its direction come last.
use Rattle.std.proofs.Common.{◌≡◌, true, refl, arith}
use Rattle.mg_collate.specs.Row.{RowValue}
use Rattle.mg_collate.specs.declared.direction.Direction.{Direction}
use Rattle.mg_collate.specs.declared.direction.Direction.TheVariants.{Asc, Desc}
use Rattle.mg_range.specs.Range.{Range}
use Rattle.mg_range.specs.declared.side.RangeSide.{RangeSide}
use Rattle.mg_range.specs.declared.side.RangeSide.TheVariants.{Before, Within, Past}
use Rattle.mg_scan.specs.Begins.{Follows, NotAfter, follows, row_side}
use Rattle.mg_range.specs.RangeSide.{is_late}
use Rattle.mg_scan.specs.Walked.{is_late_row}

late_side : (direction : Direction) (p q : RangeSide) → Follows direction p q → is_late direction p ≡ true → is_late direction q ≡ true
late_side Asc Past Past h e = refl
late_side Asc Past Before h e = absurd (omega (arith, h))
late_side Asc Past Within h e = absurd (omega (arith, h))
late_side Asc Before q h e = absurd cc
late_side Asc Within q h e = absurd cc
late_side Desc Before Before h e = refl
late_side Desc Before Within h e = absurd (omega (arith, h))
late_side Desc Before Past h e = absurd (omega (arith, h))
late_side Desc Within q h e = absurd cc
late_side Desc Past q h e = absurd cc

-- what comes after a late row is late
pub late_rises : (direction : Direction) (range : Range) (x y : RowValue) → NotAfter direction x y → is_late_row direction range x ≡ true → is_late_row direction range y ≡ true
late_rises direction range x y h e = late_side direction (row_side range x) (row_side range y) (follows direction range x y h) e
