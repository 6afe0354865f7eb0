use Rattle.std.proofs.Common.{◌≡◌, ◌++◌, drop, map, nat_lt}
use Rattle.mg_value.specs.Text.{compact}
use Rattle.mg_value.specs.Value.{list}
use Rattle.mg_value.specs.View.{items_of}
use Rattle.mg_query.specs.Paged.{shown_view}
use Rattle.mg_engine.specs.Questions.{listed_row}
use Rattle.mg_engine.proofs.RowTexts.{rows_left}
use Rattle.mg_engine.proofs.rows.with_rows.Given as goal

-- the text so far, and that of the rows that are left, is the text of all rows
abbrev pub invariant-loop-place : goal.invariant-loop-place
invariant-loop-place l =
    l.fn.out.items ++ compact (list (items_of (map (listed_row l.documents) (map shown_view l.docs)))) ≡ l.out.items ++ rows_left l.documents (nat_lt 0 l.place) (drop l.place l.docs)
