-- A row is before, within or past a range exactly as it is before, between or past the ends of the range.
use Rattle.std.proofs.Common.{◌≡◌, Bool, true, false, Option, Some, None, refl, sym, ap, ◌∙◌, if◌then◌else◌}
use Rattle.std.specs.Ordering.{is_gt, is_lt}
use Rattle.mg_collate.specs.Row.{RowValue}
use Rattle.mg_range.proofs.SpanEnds.{before_low, past_apart, past_high}
use Rattle.mg_range.specs.InRows.{BothEnds, HasEnds, ends_at, ends_of}
use Rattle.mg_range.specs.RangeSide.{is_before, is_past, is_side_before, is_side_past, side_of}
use Rattle.mg_range.specs.Range.{Range, Span}
use Rattle.mg_range.specs.declared.side.RangeSide.TheVariants.{Before, Within, Past}
use Rattle.mg_range.specs.declared.row_range.SpanEnds.{SpanEnds}
use Rattle.mg_rows.specs.RowBound.{bound_order}
use Rattle.mg_value.specs.Value.{item_list}

-- the row is before the low end
abbrev is_below : BothEnds → RowValue → Bool
is_below ends row = is_gt (bound_order ends.0.0 ends.0.1 row)

-- the row is after the high end
abbrev is_above : BothEnds → RowValue → Bool
is_above ends row = is_lt (bound_order ends.1.0 ends.1.1 row)

same_ends : (ends : SpanEnds) (s : Span) → ◌≡◌ {A = Option BothEnds} (Some (ends_at ends)) (Some (ends_of s)) → ends_at ends ≡ ends_of s
same_ends ends s e = cc

below_is : (ends : SpanEnds) (s : Span) (row : RowValue) → ends_at ends ≡ ends_of s → is_before s.equal s.lower (item_list row.0) ≡ is_below (ends_at ends) row
below_is ends s row e = before_low s.equal s.lower row.0 row.1 ∙ ap (λ (x : BothEnds). is_below x row) (sym e)

above_is : (ends : SpanEnds) (s : Span) (row : RowValue) → ends_at ends ≡ ends_of s → is_past s.equal s.upper (item_list row.0) ≡ is_above (ends_at ends) row
above_is ends s row e = past_high s.equal s.upper row.0 row.1 ∙ ap (λ (x : BothEnds). is_above x row) (sym e)

before_at : (b p : Bool) → is_side_before (if b then Before else if p then Past else Within) ≡ b
before_at true p = refl
before_at false true = refl
before_at false false = refl

-- a row is before the range exactly if it is before the low end
pub placed_before : (range : Range) (ends : SpanEnds) (row : RowValue) → HasEnds range (Some ends) → is_side_before (side_of range (item_list row.0)) ≡ is_below (ends_at ends) row
placed_before None ends row h = absurd (let e = h.1 in cc)
placed_before (Some s) ends row h =
    before_at (is_before s.equal s.lower (item_list row.0)) (is_past s.equal s.upper (item_list row.0)) ∙ below_is ends s row (same_ends ends s h.1)

past_at : (b p : Bool) → (p ≡ true → b ≡ false) → is_side_past (if b then Before else if p then Past else Within) ≡ p
past_at true true f = absurd (let wrong = f refl in cc)
past_at true false f = refl
past_at false true f = refl
past_at false false f = refl

-- a row is past the range exactly if it is after the high end
pub placed_past : (range : Range) (ends : SpanEnds) (row : RowValue) → HasEnds range (Some ends) → is_side_past (side_of range (item_list row.0)) ≡ is_above (ends_at ends) row
placed_past None ends row h = absurd (let e = h.1 in cc)
placed_past (Some s) ends row h =
    past_at (is_before s.equal s.lower (item_list row.0)) (is_past s.equal s.upper (item_list row.0)) (past_apart s.equal s.lower s.upper (item_list row.0) h.0)
    ∙ above_is ends s row (same_ends ends s h.1)
