-- What a search finds in what it has to read when it begins.
use Rattle.std.proofs.Common.{◌≡◌, Bool, true, false, cond, List, [], ◌∷◌, Option, Some, None, Ordering, is_gt, is_some, option_map, if◌then◌else◌, refl, ap, sym, ◌∙◌, subst}
use Rattle.std.specs.List.{AllByRecursion, cons_option, filter_map}
use Rattle.std.specs.Option.{option_map_or}
use Rattle.mg_collate.specs.Row.{RowValue, row_value_order}
use Rattle.mg_collate.specs.Sorted.{sorted_with, sorted}
use Rattle.mg_index.specs.Definition.{IndexDefinition, Steps}
use Rattle.mg_scan.specs.Begun.{IsBegunIn}
use Rattle.mg_normal.specs.Normal.{NormalForm}
use Rattle.mg_scan.specs.Scan.{all_matches}
use Rattle.mg_scan.specs.Search.{search_input}
use Rattle.mg_scan.specs.Way.{begin_at, walked_all_by}
use Rattle.mg_scan.specs.Kept.{AreServed, IsKept}
use Rattle.mg_scan.specs.Sourced.{unread_rows, with_selector, without_selector}
use Rattle.mg_scan.specs.Walked.{id_row, is_late_row, walked_all}
use Rattle.mg_scan.specs.declared.unread.Unread.{Unread}
use Rattle.mg_scan.specs.declared.unread.Unread.TheVariants as unread
use Rattle.mg_scan.specs.declared.search.Search.{Search}
use Rattle.mg_scan.proofs.Entries.{all_beyond, all_forms}
use Rattle.mg_scan.proofs.Found.{all_owned}
use Rattle.mg_scan.proofs.Maps.{some_is}
use Rattle.mg_scan.proofs.Sources.{source_rows}
use Rattle.mg_scan.proofs.Walking.{all_found_rows, named_id}
use Rattle.mg_shard.specs.Documents.{KeptDocuments, docs_of, form_at}
use Rattle.mg_shard.specs.Histories.{ServedDocument}
use Rattle.mg_shard.specs.Rows.{row_key, row_of, rows_of}
use Rattle.mg_shard.specs.Shard.{ShardView}
use Rattle.mg_pages.specs.Reading.{beyond}

-- ---- what is read of an index

pub rows_begun : (s : Search) (ds : KeptDocuments) (o : Option IndexDefinition) (rows : List RowValue) → Some rows ≡ option_map (beyond s.direction (begin_at s)) (option_map (λ d. rows_of d.columns (docs_of ds)) o)
    → (columns : List Steps) × (option_map (λ d. d.columns) o ≡ Some columns) × (rows ≡ beyond s.direction (begin_at s) (rows_of columns (docs_of ds)))
rows_begun s ds None rows e = absurd cc
rows_begun s ds (Some d) rows e = (d.columns, refl, some_is rows (beyond s.direction (begin_at s) (rows_of d.columns (docs_of ds))) e)

pub none_begun : (s : Search) (ds : KeptDocuments) (o : Option IndexDefinition) → None ≡ option_map (beyond s.direction (begin_at s)) (option_map (λ d. rows_of d.columns (docs_of ds)) o)
    → option_map (λ d. d.columns) o ≡ None
none_begun s ds None e = refl
none_begun s ds (Some d) e = absurd cc

-- ---- hits

-- all that a search finds on its way from where it begins is all that it finds in the shard
pub begun_hits : (at : Option (List Steps)) (s : Search) (shard : ShardView) (l : Unread) → IsBegunIn at s shard l
    → unread_rows s shard l ≡ option_map_or (λ columns. all_matches (search_input s columns) (docs_of shard.documents)) at []
begun_hits at s shard (unread.Rows rows) b =
    let ds = shard.documents in
    all_found_rows (search_input s b.0) ds rows (all_forms ds) b.2 ∙ ap (λ o. option_map_or (λ columns. all_matches (search_input s columns) (docs_of ds)) o []) (sym b.1)
begun_hits at s shard (unread.Documents documents) b =
    let ds = shard.documents in
    source_rows s ds documents (all_owned ds s.direction (λ e. begin_at s (id_row e.0)) documents b.1.begun) b.1.own b.1.begun
    ∙ ap (λ o. option_map_or (λ columns. all_matches (search_input s columns) (docs_of ds)) o []) (sym b.0)
begun_hits at s shard unread.Nothing b = ap (λ o. option_map_or (λ columns. all_matches (search_input s columns) (docs_of shard.documents)) o []) (sym b)

-- and so it is with any selector
pub begun_with : (at : Option (List Steps)) (s : Search) (shard : ShardView) (l : Unread) → IsBegunIn at s shard l → (n : NormalForm)
    → unread_rows (with_selector n s) shard l ≡ option_map_or (λ columns. all_matches (search_input (with_selector n s) columns) (docs_of shard.documents)) at []
begun_with at s shard (unread.Rows rows) b n = begun_hits at (with_selector n s) shard (unread.Rows rows) b
begun_with at s shard (unread.Documents documents) b n = begun_hits at (with_selector n s) shard (unread.Documents documents) (b.0, record { own = b.1.own; begun = b.1.begun })
begun_with at s shard unread.Nothing b n = begun_hits at (with_selector n s) shard unread.Nothing b

-- ---- rows of served documents

all_if : (P : RowValue → Type 0) (b : Bool) (xs ys : List RowValue) → AllByRecursion P xs → AllByRecursion P ys → AllByRecursion P (cond b xs ys)
all_if P true xs ys h k = h
all_if P false xs ys h k = k

all_inserted : (P : RowValue → Type 0) (order : RowValue → RowValue → Ordering) (x : RowValue) (ys : List RowValue) → P x → AllByRecursion P ys → AllByRecursion P (sorted_with order x ys)
all_inserted P order x [] h k = (h, tt)
all_inserted P order x (y ∷ ys) h k = all_if P (is_gt (order x y)) (y ∷ sorted_with order x ys) (x ∷ y ∷ ys) (k.0, all_inserted P order x ys h k.1) (h, k)

all_sorted : (P : RowValue → Type 0) (order : RowValue → RowValue → Ordering) (xs : List RowValue) → AllByRecursion P xs → AllByRecursion P (sorted order xs)
all_sorted P order [] h = tt
all_sorted P order (x ∷ xs) h = all_inserted P order x (sorted order xs) h.0 (all_sorted P order xs h.1)

served_step : (ds : KeptDocuments) (o : Option RowValue) (rows : List RowValue) → ((r : RowValue) → o ≡ Some r → is_some (form_at ds r.1) ≡ true) → AreServed ds rows → AreServed ds (cons_option o rows)
served_step ds None rows f h = h
served_step ds (Some r) rows f h = (f r refl, h)

served_rows : (columns : List Steps) (ds : KeptDocuments) (docs : List ServedDocument) → AllByRecursion (λ d. form_at ds d.0 ≡ Some d.1) docs → AreServed ds (filter_map (row_of columns) docs)
served_rows columns ds [] h = tt
served_rows columns ds (d ∷ docs) h =
    served_step ds (row_of columns d) (filter_map (row_of columns) docs)
    (λ r e. ap (λ id. is_some (form_at ds id)) (named_id d.0 (row_key columns d.1) r e) ∙ ap is_some h.0) (served_rows columns ds docs h.1)

-- the rows of an index are of served documents
pub served_begun : (s : Search) (ds : KeptDocuments) (columns : List Steps) (rows : List RowValue) → rows ≡ beyond s.direction (begin_at s) (rows_of columns (docs_of ds)) → AreServed ds rows
served_begun s ds columns rows e =
    let served : RowValue → Type 0 = λ r. is_some (form_at ds r.1) ≡ true in
    subst (λ (rs : List RowValue). AllByRecursion served rs) (sym e)
    (all_beyond served s.direction (begin_at s) (rows_of columns (docs_of ds))
    (all_sorted served row_value_order (filter_map (row_of columns) (docs_of ds)) (served_rows columns ds (docs_of ds) (all_forms ds))))

-- what is read from where a search begins is of documents that the shard serves or keeps
pub begun_kept : (at : Option (List Steps)) (s : Search) (shard : ShardView) (l : Unread) → IsBegunIn at s shard l → IsKept shard l
begun_kept at s shard (unread.Rows rows) b = served_begun s shard.documents b.0 rows b.2
begun_kept at s shard (unread.Documents documents) b = all_owned shard.documents s.direction (λ e. begin_at s (id_row e.0)) documents b.1.begun
begun_kept at s shard unread.Nothing b = tt

-- ---- a search without a selector

-- the rows before the first one that comes after the search's range, whatever their documents
abbrev pub rows_on_way : Search → List RowValue → List RowValue
rows_on_way s rows = walked_all (is_late_row s.direction s.range.now) (λ r. true) rows

held_step : (s : Search) (ds : KeptDocuments) (r : RowValue) (b : Bool) (xs ys : List RowValue) (o : Option _) → form_at ds r.1 ≡ o → is_some o ≡ true → xs ≡ ys
    → (if b then [] else r ∷ xs) ≡ (if b then [] else if option_map_or (λ form. true) o false then r ∷ ys else ys)
held_step s ds r b xs ys None e f g = absurd cc
held_step s ds r true xs ys (Some form) e f g = refl
held_step s ds r false xs ys (Some form) e f g = ap (λ zs. r ∷ zs) g

-- a search without a selector finds all rows of served documents
pub on_way : (s : Search) (ds : KeptDocuments) (rows : List RowValue) → AreServed ds rows → rows_on_way s rows ≡ walked_all_by (without_selector s) ds rows
on_way s ds [] h = refl
on_way s ds (r ∷ rows) h =
    held_step s ds r (is_late_row s.direction s.range.now r) (rows_on_way s rows) (walked_all_by (without_selector s) ds rows) (form_at ds r.1) refl h.0 (on_way s ds rows h.1)
