-- Sources of hits: one step of a source, and the hits that all sources give.
use Rattle.std.proofs.Common.{◌≡◌, ℕ, zero, suc, ◌+◌, ◌<◌, ◌≤◌, Bool, true, false, List, [], ◌∷◌, ◌++◌, Option, Some, None, IfSome, All, get_or, is_some, length, map, option_map, slice_get, take, if◌then◌else◌, refl, add-one, ap, ap₂, sym, ◌∙◌, subst, arith}
use Rattle.std.proofs.Math.Seq.{take-nil}
use Rattle.std.proofs.lemmas.List.{length-map}
use Rattle.std.proofs.lemmas.List.Elements.{All-from_recursion, recursion_from_All}
use Rattle.std.specs.Arc.{arc_value}
use Rattle.std.specs.FinMap.{entries, get}
use Rattle.std.specs.List.{AllByRecursion, AllZip, cons_option, filter, filter_map}
use Rattle.std.specs.Option.{option_and_then, option_map_or}
use Rattle.std.specs.declared.alloc.Global.{Global}
use Rattle.std.specs.declared.sync.Arc.{Arc}
use Rattle.mg_collate.proofs.Directed.{directed_total}
use Rattle.mg_collate.proofs.Sorting.{all_weaker, in_order, rises_sorted}
use Rattle.mg_collate.specs.Row.{RowValue, directed_order}
use Rattle.mg_collate.specs.declared.direction.Direction.{Direction}
use Rattle.mg_collate.specs.Sorted.{IsInOrder, sorted_rows}
use Rattle.mg_index.specs.Definition.{Steps}
use Rattle.mg_merge.proofs.Cuts.{cut_lists}
use Rattle.mg_merge.specs.Merged.{merged}
use Rattle.mg_merge.specs.Pulled.{ArePulled, IsGivenBy}
use Rattle.mg_scan.specs.Found.{target_columns}
use Rattle.mg_scan.specs.Hit.{AreHitsIn, IsHitIn, IsHitOf, hit_row}
use Rattle.mg_scan.specs.Scan.{all_matches, matching_documents, is_wanted}
use Rattle.mg_scan.specs.Search.{search_input, found_by}
use Rattle.mg_scan.specs.Way.{all_found_by, begin_at, entry_rows, walked_all_by}
use Rattle.mg_normal.specs.Normal.{NormalForm}
use Rattle.mg_scan.specs.Kept.{AreKept}
use Rattle.mg_scan.specs.Sourced.{IsSourceOf, holds_for, rest_of, unread_rows, row_among, walked_documents, walked_on, with_selector}
use Rattle.mg_scan.specs.Walked.{holds_at, id_row, is_late_row}
use Rattle.mg_scan.specs.declared.hit.Hit.{Hit}
use Rattle.mg_scan.specs.declared.search.Search.{Search}
use Rattle.mg_scan.specs.declared.source.Source.{Source}
use Rattle.mg_scan.proofs.Entries.{Entry, all_forms, all_rows, own_rows, rows-beyond}
use Rattle.mg_scan.proofs.Maps.{get-map, length-view, some_is, zip_more}
use Rattle.mg_scan.proofs.Steps.{holds_of, if_none, if_some, row_lent}
use Rattle.mg_scan.proofs.Walking.{all_found_rows, named_id}
use Rattle.mg_shard.proofs.Rows.{rises_where}
use Rattle.mg_shard.specs.Documents.{KeptDocuments, docs_of, form_at, form_of, id_bytes, kept_entry, kept_of}
use Rattle.mg_shard.specs.Own.{HasOwnId, id_columns}
use Rattle.mg_shard.specs.Rows.{row_key, row_of, rows_of}
use Rattle.mg_shard.specs.Shard.{ShardView, shards_view}
use Rattle.mg_pages.specs.Reading.{beyond}
use Rattle.mg_shard.specs.declared.document.Document.{Document}
use Rattle.mg_value.specs.Value.{Items, Value}

-- ---- one step

-- nothing is found from a late row on
pub on_late : (late : RowValue → Bool) (holds : Bool) (total : List RowValue) (r : RowValue) (rest : List RowValue) → late r ≡ true → total ≡ walked_on late holds (Some r) rest → total ≡ []
on_late late holds total r rest e is = is ∙ ap (λ b. if b then [] else if holds then r ∷ rest else rest) e

-- a row whose document matches is found
pub on_found : {A : Type 0} (row : A → RowValue) (late : RowValue → Bool) (holds : Bool) (total : List RowValue) (r : RowValue) (rest : List RowValue) (found : Option A) → late r ≡ false → option_map row found ≡ (if holds then Some r else None)
    → total ≡ walked_on late holds (Some r) rest → IfSome found (λ x. total ≡ row x ∷ rest)
on_found row late holds total r rest None e h is = tt
on_found row late holds total r rest (Some x) e h is =
    let found = if_some holds (row x) r h in
    is ∙ ap₂ (λ (b c : Bool). if b then [] else if c then r ∷ rest else rest) e found.0 ∙ ap (λ y. y ∷ rest) (sym found.1)

-- a row whose document does not match is passed over
pub on_miss : {A : Type 0} (row : A → RowValue) (late : RowValue → Bool) (holds : Bool) (total : List RowValue) (r : RowValue) (rest : List RowValue) (found : Option A) → late r ≡ false → option_map row found ≡ (if holds then Some r else None)
    → is_some found ≡ false → total ≡ walked_on late holds (Some r) rest → total ≡ rest
on_miss row late holds total r rest None e h none is =
    is ∙ ap₂ (λ (b c : Bool). if b then [] else if c then r ∷ rest else rest) e (if_none holds r h)
on_miss row late holds total r rest (Some x) e h none is = absurd cc

-- ---- documents

docs_step : (s : Search) (ds : KeptDocuments) (d : Document) (o : Option RowValue) (rest rows : List RowValue) → ((r : RowValue) → o ≡ Some r → r.1 ≡ id_bytes d) → get ds (id_bytes d) ≡ Some (kept_of d)
    → rest ≡ walked_all_by s ds rows → walked_on (is_late_row s.direction s.range.now) (holds_for s.normal.now d) o rest ≡ walked_all_by s ds (cons_option o rows)
docs_step s ds d None rest rows own is e = e
docs_step s ds d (Some r) rest rows own is e =
    ap₂ (λ h xs. walked_on (is_late_row s.direction s.range.now) h (Some r) xs) (holds_of s.normal.now ds d is ∙ ap (holds_at s.normal.now ds) (sym (own r refl))) e

-- a document that has no row is passed over
pub among_none : (s : Search) (d : Document) (documents : List Document) → None ≡ option_and_then (row_key id_columns) (form_of d) → walked_documents s (d ∷ documents) ≡ walked_documents s documents
among_none s d documents e =
    let late = is_late_row s.direction s.range.now in
    ap (λ o. walked_on late (holds_for s.normal.now d) (option_map (λ key. (key, id_bytes d)) o) (walked_documents s documents)) (sym e)

pub among_some : (s : Search) (d : Document) (documents : List Document) (key : Items) → Some key ≡ option_and_then (row_key id_columns) (form_of d)
    → walked_documents s (d ∷ documents) ≡ walked_on (is_late_row s.direction s.range.now) (holds_for s.normal.now d) (Some (key, id_bytes d)) (walked_documents s documents)
among_some s d documents key e =
    let late = is_late_row s.direction s.range.now in
    ap (λ o. walked_on late (holds_for s.normal.now d) (option_map (λ k. (k, id_bytes d)) o) (walked_documents s documents)) (sym e)

-- walking through documents that a shard keeps finds what walking through their rows finds
walked_rows : (s : Search) (ds : KeptDocuments) (documents : List Document) → AreKept ds documents → walked_documents s documents ≡ walked_all_by s ds (entry_rows (map kept_entry documents))
walked_rows s ds [] h = refl
walked_rows s ds (d ∷ documents) h =
    docs_step s ds d (row_among d) (walked_documents s documents) (entry_rows (map kept_entry documents)) (λ r e. named_id (id_bytes d) (option_and_then (row_key id_columns) (form_of d)) r e) h.0 (walked_rows s ds documents h.1)
    ∙ ap (λ o. walked_all_by s ds (cons_option o (entry_rows (map kept_entry documents)))) (sym (row_lent d (option_and_then (row_key id_columns) (form_of d)) refl))

-- all that a search finds in the index of all documents
pub source_rows : (s : Search) (ds : KeptDocuments) (documents : List Document) → AreKept ds documents → ((id : List ℕ) (form : Value) → form_at ds id ≡ Some form → HasOwnId id form)
    → map kept_entry documents ≡ beyond s.direction (λ e. begin_at s (id_row e.0)) (entries ds) → walked_documents s documents ≡ all_matches (search_input s id_columns) (docs_of ds)
source_rows s ds documents kept own is =
    walked_rows s ds documents kept
    ∙ ap (λ (x : List Entry). walked_all_by s ds (entry_rows x)) is
    ∙ ap (walked_all_by s ds) (rows-beyond s.direction (begin_at s) (entries ds) (own_rows ds own) ∙ ap (beyond s.direction (begin_at s)) (all_rows ds own))
    ∙ all_found_rows (search_input s id_columns) ds (beyond s.direction (begin_at s) (rows_of id_columns (docs_of ds))) (all_forms ds) refl

-- ---- all that a search finds without its limit, and with it

ordered_or : (s : Search) (ds : KeptDocuments) (o : Option (List Steps)) → IsInOrder s.direction (option_map_or (λ columns. all_matches (search_input s columns) (docs_of ds)) o [])
ordered_or s ds None = in_order (directed_order s.direction) (directed_total s.direction) [] tt
ordered_or s ds (Some columns) =
    let q = search_input s columns in
    let order = directed_order s.direction in
    let rows = filter_map (row_of columns) (matching_documents q (docs_of ds)) in
    in_order order (directed_total s.direction) (filter (is_wanted q) (sorted_rows s.direction rows))
    (rises_where order (is_wanted q) (sorted_rows s.direction rows) (rises_sorted order (directed_total s.direction) rows))

cut_or : (n : ℕ) (f : List Steps → List RowValue) (o : Option (List Steps)) → option_map_or (λ columns. take n (f columns)) o [] ≡ take n (option_map_or f o [])
cut_or n f None = sym (take-nil n)
cut_or n f (Some columns) = refl

-- what a search finds in a shard is the first part of all that it finds there without its limit
pub found_first : (s : Search) (shard : ShardView) → found_by s shard ≡ take s.take (all_found_by s shard)
found_first s shard = cut_or s.take (λ columns. all_matches (search_input s columns) (docs_of shard.documents)) (target_columns s.target shard.definitions)

-- all that a search finds in a shard is in order
pub found_in_order : (s : Search) (shard : ShardView) → IsInOrder s.direction (all_found_by s shard)
found_in_order s shard = ordered_or s shard.documents (target_columns s.target shard.definitions)

all_in_order : (s : Search) (shards : List ShardView) → AllByRecursion (IsInOrder s.direction) (map (all_found_by s) shards)
all_in_order s [] = tt
all_in_order s (shard ∷ shards) = (found_in_order s shard, all_in_order s shards)

cut_found : (s : Search) (shards : List ShardView) → map (take s.take) (map (all_found_by s) shards) ≡ map (found_by s) shards
cut_found s [] = refl
cut_found s (shard ∷ shards) =
    ap₂ (λ rows lists. rows ∷ lists) (sym (found_first s shard)) (cut_found s shards)

-- merging what is found without the limit gives the same as merging what is found with it
pub found_merged : (s : Search) (shards : List ShardView) → merged s.direction s.take (map (all_found_by s) shards) ≡ merged s.direction s.take (map (found_by s) shards)
found_merged s shards =
    sym (cut_lists s.direction s.take (map (all_found_by s) shards) (All-from_recursion (IsInOrder s.direction) (map (all_found_by s) shards) (all_in_order s shards)))
    ∙ ap (merged s.direction s.take) (cut_found s shards)

-- ---- the sources of all shards

-- P holds of h with one of the shards
abbrev pub InOneOf : {H : Type 0} → (ShardView → H → Type 0) → List ShardView → H → Type 0
InOneOf P shards h = (place : ℕ) × (shard : ShardView) × (slice_get shards place ≡ Some shard) × P shard h

module _ {X : Type 0} (s : Search) (Is : ShardView → X → Type 0) (rows : X → List RowValue) (same : (shard : ShardView) (x : X) → Is shard x → rows x ≡ all_found_by s shard) where
  zip_rests : (shards : List ShardView) (sources : List X) → AllZip Is shards sources → map rows sources ≡ map (all_found_by s) shards
  zip_rests [] [] h = refl
  zip_rests [] (x ∷ sources) h = absurd h
  zip_rests (shard ∷ shards) [] h = absurd h
  zip_rests (shard ∷ shards) (x ∷ sources) h = ap₂ (λ found lists. found ∷ lists) (same shard x h.0) (zip_rests shards sources h.1)

  pub sources_size : (shards : List ShardView) (sources : List X) → AllZip Is shards sources → length sources ≡ length shards
  sources_size [] [] h = refl
  sources_size [] (x ∷ sources) h = absurd h
  sources_size (shard ∷ shards) [] h = absurd h
  sources_size (shard ∷ shards) (x ∷ sources) h = ap suc (sources_size shards sources h.1)

  -- the rows that each source has still to give are in order
  pub sources_in_order : (shards : List ShardView) (sources : List X) → AllZip Is shards sources → All (IsInOrder s.direction) (map rows sources)
  sources_in_order shards sources h =
      subst (All (IsInOrder s.direction)) (sym (zip_rests shards sources h)) (All-from_recursion (IsInOrder s.direction) (map (all_found_by s) shards) (all_in_order s shards))

  -- merging the rows of the sources gives the same as merging what the search finds in each shard
  pub sources_merged : (shards : List ShardView) (sources : List X) → AllZip Is shards sources
      → merged s.direction s.take (map rows sources) ≡ merged s.direction s.take (map (found_by s) shards)
  sources_merged shards sources h = ap (merged s.direction s.take) (zip_rests shards sources h) ∙ found_merged s shards

module _ {X : Type 0} (Is : ShardView → X → Type 0) where
  -- the sources so far, and the source of one more shard
  pub sources_more : (shards : List (Arc ShardView Global)) (sources : List X) (i : ℕ) (a : Arc ShardView Global) (shard : ShardView) (x : X) → i < length shards → a ≡ get_or shards i a → shard ≡ arc_value a
      → AllZip Is (take i (shards_view shards)) sources → Is shard x → AllZip Is (take (i + 1) (shards_view shards)) (sources ++ x ∷ [])
  sources_more shards sources i a shard x less is same so here =
      rw add-one (zip_more Is (shards_view shards) sources i x (omega (arith, less, length-view shards)) so
      (λ t e. subst (λ (y : ShardView). Is y x) (same ∙ some_is (arc_value a) t (sym (get-map arc_value shards i a less is) ∙ e)) here))

  -- the k-th source is that of the k-th shard
  zip_at : (shards : List ShardView) (sources : List X) (k : ℕ) → AllZip Is shards sources → k < length sources
      → (shard : ShardView) × (x : X) × (slice_get shards k ≡ Some shard) × (get_or sources k x ≡ x) × Is shard x
  zip_at [] [] k h l = absurd (omega arith)
  zip_at [] (x ∷ sources) k h l = absurd h
  zip_at (shard ∷ shards) [] k h l = absurd h
  zip_at (shard ∷ shards) (x ∷ sources) zero h l = (shard, x, refl, refl, h.0)
  zip_at (shard ∷ shards) (x ∷ sources) (suc k) h l = zip_at shards sources k h.1 (omega arith)

  module _ {H : Type 0} (lent : X → H → Type 0) (P : ShardView → H → Type 0) (each : (shard : ShardView) (x : X) → Is shard x → (h : H) → lent x h → P shard h) where
    given_in : (shards : List ShardView) (sources : List X) → AllZip Is shards sources → (hit : H) → IsGivenBy lent sources hit → InOneOf P shards hit
    given_in shards sources h hit given =
        let at = zip_at shards sources given.0 h given.1 in
        let x = at.1 in
        (given.0, at.0, at.2, each at.0 x at.4 hit (subst (λ (y : X). lent y hit) at.3 (given.2 x)))

    -- what the sources give is of the shards
    pub all_given : (shards : List ShardView) (sources : List X) → AllZip Is shards sources → (hits : List H) → All (IsGivenBy lent sources) hits → AllByRecursion (InOneOf P shards) hits
    all_given shards sources h hits given =
        all_weaker (IsGivenBy lent sources) (InOneOf P shards) (given_in shards sources h) hits (recursion_from_All (IsGivenBy lent sources) hits given)

-- ---- what the sources have still to give, if this selector is asked

module _ (n : NormalForm) (s : Search) where
  abbrev asking : Search
  asking = with_selector n s

  pub rests_are : (shard : ShardView) (x : Source) → IsSourceOf s n shard x → rest_of x ≡ all_found_by asking shard
  rests_are shard x is =
      ap₂ (λ (m : NormalForm) (y : Search). unread_rows (with_selector m y) x.shard.now x.unread) is.asks is.same_search ∙ ap (λ (t : ShardView). unread_rows asking t x.unread) is.same_shard ∙ is.rows

  pub rests_size : (shards : List ShardView) (sources : List Source) → AllZip (IsSourceOf s n) shards sources → length sources ≡ length shards
  rests_size shards sources h = sources_size asking (IsSourceOf s n) rest_of rests_are shards sources h

  pub rests_in_order : (shards : List ShardView) (sources : List Source) → AllZip (IsSourceOf s n) shards sources → All (IsInOrder s.direction) (map rest_of sources)
  rests_in_order shards sources h = sources_in_order asking (IsSourceOf s n) rest_of rests_are shards sources h

  pub rests_merged : (shards : List ShardView) (sources : List Source) → AllZip (IsSourceOf s n) shards sources → merged s.direction s.take (map rest_of sources) ≡ merged s.direction s.take (map (found_by asking) shards)
  rests_merged shards sources h = sources_merged asking (IsSourceOf s n) rest_of rests_are shards sources h

-- what sources of the shards give are hits in the shards
pub hits_given : (Is : ShardView → Source → Type 0) → ((shard : ShardView) (x : Source) → Is shard x → x.shard.now ≡ shard) → (shards : List ShardView) (sources : List Source) → AllZip Is shards sources → (hits : List Hit)
    → All (IsGivenBy (λ (x : Source). IsHitOf x.shard.now) sources) hits → AreHitsIn shards hits
hits_given Is same shards sources h hits given =
    all_weaker (InOneOf IsHitOf shards) (IsHitIn shards) (λ hit is. record { place = is.0; shard = is.1; there = is.2; hit = is.3 }) hits
    (all_given Is (λ x. IsHitOf x.shard.now) IsHitOf (λ shard x is hit of. subst (λ (y : ShardView). IsHitOf y hit) (same shard x is) of) shards sources h hits given)

-- no more hits are given than are pulled
pub given_within : (direction : Direction) (lists : List (List RowValue)) (hits : List Hit) (pulled : ℕ) → ArePulled direction lists (map hit_row hits) pulled → length hits ≤ pulled
given_within direction lists hits pulled number = omega (arith, number.1.1, length-map hits hit_row)
