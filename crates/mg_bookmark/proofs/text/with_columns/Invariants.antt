use Rattle.std.proofs.Common.{◌≡◌, ◌++◌, drop}
use Rattle.std.specs.Prelude.{nat_lt}
use Rattle.mg_value.specs.Text.{compact, compact_items}
use Rattle.mg_value.specs.Value.{list}
use Rattle.mg_value.specs.View.{items_view}
use Rattle.mg_bookmark.proofs.text.with_columns.Given as goal

-- what is written, with the columns that are left, is the whole text
abbrev pub invariant-loop-place : goal.invariant-loop-place
invariant-loop-place l = l.fn.out.items ++ compact (list (items_view l.columns)) ≡ l.out.items ++ compact_items (nat_lt 0 l.place) (items_view (drop l.place l.columns))
