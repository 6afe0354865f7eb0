-- If the range decides, a search finds the same rows without its selector.
use Rattle.std.proofs.Common.{◌≡◌, ℕ, Bool, true, false, ◌&&◌, List, [], ◌∷◌, Option, Some, All, is_some, map, take, refl, ap, ap₂, sym, ◌∙◌}
use Rattle.std.proofs.lemmas.List.Elements.{recursion_from_All}
use Rattle.std.specs.List.{AllByRecursion, filter, filter_map}
use Rattle.std.specs.Option.{option_map_or}
use Rattle.mg_collate.specs.Row.{RowValue}
use Rattle.mg_collate.specs.Sorted.{sorted_rows}
use Rattle.mg_collate.specs.declared.direction.Direction.{Direction}
use Rattle.mg_index.specs.Definition.{Steps}
use Rattle.mg_normal.specs.Normal.{NormalForm, normal_holds}
use Rattle.mg_range.specs.Decided.{decides_of}
use Rattle.mg_range.specs.RangeSide.{has_key}
use Rattle.mg_range.specs.Range.{Range, range_of}
use Rattle.mg_range.proofs.Deciding.{decides_rows}
use Rattle.mg_scan.specs.Decided.{IsDecidedIn, everything}
use Rattle.mg_scan.specs.Found.{input_of_parts}
use Rattle.mg_scan.specs.Sourced.{without_selector}
use Rattle.mg_scan.specs.Scan.{all_matches, comes_after, is_wanted}
use Rattle.mg_scan.specs.Search.{after_of, search_input, found_by}
use Rattle.mg_scan.specs.declared.search.Search.{Search}
use Rattle.mg_scan.proofs.Walking.{filter-both, filter-same, sorted_rows-where}
use Rattle.mg_shard.proofs.Keyed.{row_keyed}
use Rattle.mg_shard.specs.Documents.{docs_of}
use Rattle.mg_shard.specs.Histories.{ServedDocument}
use Rattle.mg_shard.specs.Rows.{row_of}
use Rattle.mg_shard.specs.Shard.{ShardView}
use Rattle.mg_value.specs.Value.{item_list}

pub all_asked : (ds : List ServedDocument) → filter (λ d. normal_holds everything (Some d.1)) ds ≡ ds
all_asked [] = refl
all_asked (d ∷ ds) = ap (λ xs. d ∷ xs) (all_asked ds)

once : (a b : Bool) → (a && (a && b)) ≡ (a && b)
once true b = refl
once false b = refl

-- the rows in the range are the rows in the range whose documents match the selector
scanned_alike : (n : NormalForm) (columns : List Steps) (range : Range) (after : Option RowValue) (count : ℕ) (direction : Direction) → is_some n.rest ≡ false → decides_of n.atoms columns ≡ true
    → range ≡ range_of n.atoms columns → (ds : List ServedDocument) → all_matches (input_of_parts everything range after count direction columns) ds ≡ all_matches (input_of_parts n range after count direction columns) ds
scanned_alike n columns range after count direction alone decides is ds =
    let q = input_of_parts n range after count direction columns in
    let within : RowValue → Bool = λ r. has_key range (item_list r.0) in
    let rows = filter_map (row_of columns) ds in
    let decided : filter within rows ≡ filter_map (row_of columns) (filter (λ d. normal_holds n (Some d.1)) ds) =
    ap (λ (x : Range). filter (λ (r : RowValue). has_key x (item_list r.0)) rows) is
    ∙ decides_rows (λ (d : ServedDocument). d.1) (row_of columns) (λ (r : RowValue). item_list r.0) n columns alone decides (λ d r e. row_keyed columns d r e) ds in
    ap (λ xs. filter (is_wanted q) (sorted_rows direction (filter_map (row_of columns) xs))) (all_asked ds)
    ∙ filter-same (is_wanted q) (λ r. within r && is_wanted q r) (λ r. sym (once (within r) (comes_after direction after r))) (sorted_rows direction rows)
    ∙ sym (filter-both (is_wanted q) within (sorted_rows direction rows))
    ∙ ap (filter (is_wanted q)) (sym (sorted_rows-where within direction rows) ∙ ap (sorted_rows direction) decided)

found_alike : (s : Search) (shard : ShardView) → IsDecidedIn s.target s.normal.now s.range.now shard → found_by (without_selector s) shard ≡ found_by s shard
found_alike s shard d =
    let ds = docs_of shard.documents in
    ap (λ o. option_map_or (λ columns. take s.take (all_matches (search_input (without_selector s) columns) ds)) o []) d.there
    ∙ ap (take s.take) (scanned_alike s.normal.now d.columns s.range.now (after_of s) s.take s.direction d.alone d.decides d.bounds ds)
    ∙ ap (λ o. option_map_or (λ columns. take s.take (all_matches (search_input s columns) ds)) o []) (sym d.there)

each_alike : (s : Search) (shards : List ShardView) → AllByRecursion (IsDecidedIn s.target s.normal.now s.range.now) shards → map (found_by (without_selector s)) shards ≡ map (found_by s) shards
each_alike s [] h = refl
each_alike s (shard ∷ shards) h = ap₂ (λ rows lists. rows ∷ lists) (found_alike s shard h.0) (each_alike s shards h.1)

-- if the range decides in each shard, the search finds in each the rows that are in the range
pub all_alike : (s : Search) (shards : List ShardView) → All (IsDecidedIn s.target s.normal.now s.range.now) shards → map (found_by (without_selector s)) shards ≡ map (found_by s) shards
all_alike s shards h = each_alike s shards (recursion_from_All (IsDecidedIn s.target s.normal.now s.range.now) shards h)
