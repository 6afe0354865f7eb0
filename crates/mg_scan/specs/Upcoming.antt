-- How much a search can read in a shard.
use Rattle.std.specs.Prelude.{ℕ, Option, length, option_map}
use Rattle.std.specs.FinMap.{entries}
use Rattle.std.specs.Option.{option_map_or}
use Rattle.mg_collate.specs.Row.{RowValue, row_value_order}
use Rattle.mg_collate.specs.declared.direction.Direction.{Direction}
use Rattle.mg_range.specs.RangeSide.{side_of}
use Rattle.mg_range.specs.Range.{Range}
use Rattle.mg_scan.specs.Walked.{begin_order, id_row}
use Rattle.mg_scan.specs.declared.target_ref.TargetRef.{TargetRef}
use Rattle.mg_scan.specs.declared.target_ref.TargetRef.TheVariants.{AllDocs, Index}
use Rattle.mg_shard.specs.Shard.{ShardView, rows_at}
use Rattle.mg_pages.specs.Reading.{beyond}
use Rattle.mg_value.specs.Value.{item_list}
use Rattle.std.specs.declared.cmp.Ordering.{Ordering}

-- compares the place where a search begins to a row; the search is given by its parts
abbrev pub begin_of_parts : Range → Option RowValue → Direction → RowValue → Ordering
begin_of_parts range after direction r = begin_order direction (side_of range (item_list r.0)) (option_map (row_value_order r) after)

-- how many documents (deleted ones too) or rows of the index come after the place where a search begins, in the search's direction; 0 if
-- the shard has no such index
abbrev pub count_upcoming : TargetRef → Range → Option RowValue → Direction → ShardView → ℕ
count_upcoming AllDocs range after direction s = length (beyond direction (λ e. begin_of_parts range after direction (id_row e.0)) (entries s.documents))
count_upcoming (Index x) range after direction s = option_map_or (λ rows. length (beyond direction (begin_of_parts range after direction) rows)) (rows_at x.ddoc.now x.name.now s) 0
