-- The entries of a shard's documents: what is kept of each, its row in the index of all documents, and the order of these rows.
use lib.Dec.{T}
use Rattle.std.proofs.Common.{◌≡◌, ℕ, Bool, true, false, ◌&&◌, cond, List, [], ◌∷◌, ◌++◌, append-nil, Option, Some, None, codes, map, option_map, Ordering, Less, Equal, Greater, is_eq, is_gt, is_lt, reverse, refl, ap, ap₂, sym, ◌∙◌}
use Rattle.std.proofs.lemmas.Cmp.{nat_list_cmp_total, tied_itself}
use Rattle.std.proofs.lemmas.List.{reverse-append}
use Rattle.std.proofs.lemmas.List.Elements.{filter_map-append}
use Rattle.std.specs.FinMap.Entries.{below_all}
use Rattle.std.specs.FinMap.{entries, entries_sorted, find, get, get-entries, is_sorted}
use Rattle.std.specs.List.{AllByRecursion, cons_option, filter, filter_map}
use Rattle.std.specs.Option.{option_and_then}
use Rattle.std.specs.Ordering.{eq_by_cmp, ordering_reverse}
use Rattle.mg_collate.specs.Row.{RowValue, row_value_order}
use Rattle.mg_collate.specs.Sorted.{sorted}
use Rattle.mg_collate.specs.declared.direction.Direction.{Direction}
use Rattle.mg_collate.specs.declared.direction.Direction.TheVariants.{Asc, Desc}
use Rattle.mg_collate.proofs.Sorting.{NoneBelow, Rises, all_append}
use Rattle.mg_path.specs.Part.{part_of}
use Rattle.mg_scan.specs.Way.{entry_rows}
use Rattle.mg_scan.specs.Walked.{id_row}
use Rattle.mg_scan.specs.Begins.{id_rows}
use Rattle.mg_shard.specs.Documents.{KeptDocument, KeptDocuments, doc_entry, docs_of, form_at}
use Rattle.mg_shard.specs.Histories.{ServedDocument}
use Rattle.mg_shard.specs.Own.{HasOwnId, id_columns}
use Rattle.mg_shard.specs.Rows.{row_of, rows_of}
use Rattle.mg_pages.specs.Reading.{beyond}
use Rattle.mg_shard.proofs.Rows.{sorted_is}
use Rattle.mg_shard.proofs.Shown.{bytes_cmp}
use Rattle.mg_value.specs.Value.{Value, no_items, item, text}
use Rattle.mg_value.specs.View.{items_of}

pub filter_map-reverse : {A B : Type 0} (f : A → Option B) (xs : List A) → filter_map f (reverse xs) ≡ reverse (filter_map f xs)
filter_map-reverse f [] = refl
filter_map-reverse {A} {B} f (x ∷ xs) =
    ap (filter_map f) (reverse-append (x ∷ []) xs) ∙ filter_map-append f (reverse xs) (x ∷ []) ∙ ap (λ ys. ys ++ filter_map f (x ∷ [])) (filter_map-reverse f xs)
    ∙ step (f x) (filter_map f xs)
  where
    step : (o : Option B) (us : List B) → reverse us ++ cons_option o [] ≡ reverse (cons_option o us)
    step None us = append-nil (reverse us)
    step (Some y) us = sym (reverse-append (y ∷ []) us)

abbrev pub Entry : Type 0
Entry = List ℕ × KeptDocument

-- ---- each entry is what is kept of its id

first : (a b : Bool) → T (a && b) → T a
first true b p = tt
first false b p = p

second : (a b : Bool) → T (a && b) → T b
second true b p = p
second false b p = absurd p

less_is : (o : Ordering) → T (is_lt o) → o ≡ Less
less_is Less h = refl
less_is Equal h = absurd h
less_is Greater h = absurd h

-- an entry after one whose id is below it
apart : (e x : Entry) → bytes_cmp e.0 x.0 ≡ Less → eq_by_cmp bytes_cmp x.0 e.0 ≡ false
apart e x less = ap (λ o. is_eq o) (nat_list_cmp_total.antisymm x.0 e.0 ∙ ap ordering_reverse less)

later : (e : Entry) (xs es : List Entry) → T (below_all bytes_cmp e.0 xs) → AllByRecursion (λ x. find bytes_cmp x.0 es ≡ Some x.1) xs → AllByRecursion (λ x. find bytes_cmp x.0 (e ∷ es) ≡ Some x.1) xs
later e [] es below h = tt
later e (x ∷ xs) es below h =
    let less = less_is (bytes_cmp e.0 x.0) (first (is_lt (bytes_cmp e.0 x.0)) (below_all bytes_cmp e.0 xs) below) in
    (ap (λ b. cond b (Some e.1) (find bytes_cmp x.0 es)) (apart e x less) ∙ h.0, later e xs es (second (is_lt (bytes_cmp e.0 x.0)) (below_all bytes_cmp e.0 xs) below) h.1)

all_found : (es : List Entry) → T (is_sorted bytes_cmp es) → AllByRecursion (λ x. find bytes_cmp x.0 es ≡ Some x.1) es
all_found [] h = tt
all_found (e ∷ es) h = (
  ap (λ o. cond (is_eq o) (Some e.1) (find bytes_cmp e.0 es)) (tied_itself nat_list_cmp_total e.0),
  later e es es (first (below_all bytes_cmp e.0 es) (is_sorted bytes_cmp es) h) (all_found es (second (below_all bytes_cmp e.0 es) (is_sorted bytes_cmp es) h)),
)

all_through : {X : Type 0} (P Q : X → Type 0) → ((x : X) → P x → Q x) → (xs : List X) → AllByRecursion P xs → AllByRecursion Q xs
all_through P Q f [] h = tt
all_through P Q f (x ∷ xs) h = (f x h.0, all_through P Q f xs h.1)

-- each entry is what is kept of its id
pub all_kept : (ds : KeptDocuments) → AllByRecursion (λ e. get ds e.0 ≡ Some e.1) (entries ds)
all_kept ds =
    all_through (λ e. find bytes_cmp e.0 (entries ds) ≡ Some e.1) (λ e. get ds e.0 ≡ Some e.1) (λ e h. get-entries ds e.0 ∙ h) (entries ds) (all_found (entries ds) (entries_sorted ds))

served_step : (ds : KeptDocuments) (id : List ℕ) (k : KeptDocument) (o : Option Value) (rest : List ServedDocument) → k.1 ≡ o → get ds id ≡ Some k → AllByRecursion (λ d. form_at ds d.0 ≡ Some d.1) rest
    → AllByRecursion (λ d. form_at ds d.0 ≡ Some d.1) (cons_option (option_map (λ form. (id, form)) o) rest)
served_step ds id k None rest e h all = all
served_step ds id k (Some form) rest e h all = (ap (option_and_then (λ (x : KeptDocument). x.1)) h ∙ e, all)

served_forms : (ds : KeptDocuments) (es : List Entry) → AllByRecursion (λ e. get ds e.0 ≡ Some e.1) es → AllByRecursion (λ d. form_at ds d.0 ≡ Some d.1) (filter_map doc_entry es)
served_forms ds [] h = tt
served_forms ds (e ∷ es) h = served_step ds e.0 e.1 e.1.1 (filter_map doc_entry es) refl h.0 (served_forms ds es h.1)

-- each served document is in the form in which it is kept
pub all_forms : (ds : KeptDocuments) → AllByRecursion (λ d. form_at ds d.0 ≡ Some d.1) (docs_of ds)
all_forms ds = served_forms ds (entries ds) (all_kept ds)

-- ---- the row of an entry in the index of all documents

abbrev pub entry_row : Entry → Option RowValue
entry_row e = option_and_then (row_of id_columns) (doc_entry e)

-- the row is that of the id
abbrev pub IsOwnRow : Entry → Type 0
IsOwnRow e = (r : RowValue) → entry_row e ≡ Some r → r ≡ id_row e.0

own_part : (id : List ℕ) (o : Option Value) (r : RowValue) → ((part : Value) → o ≡ Some part → part ≡ text id)
    → option_map (λ key. (key, id)) (option_map items_of (option_and_then (λ part. option_map (λ parts. part ∷ parts) (Some [])) o)) ≡ Some r → r ≡ id_row id
own_part id None r own e = absurd cc
own_part id (Some part) r own e = let same : ◌≡◌ {A = RowValue} (item part no_items, id) r = cc in sym same ∙ ap (λ v. (item v no_items, id)) (own part refl)

pub own_form : (id : List ℕ) (o : Option Value) (r : RowValue) → ((form : Value) → o ≡ Some form → HasOwnId id form)
    → option_and_then (row_of id_columns) (option_map (λ form. (id, form)) o) ≡ Some r → r ≡ id_row id
own_form id None r own e = absurd cc
own_form id (Some form) r own e = own_part id (part_of (codes "_id" ∷ []) form) r (own form refl) e

pub own_row : (ds : KeptDocuments) (e : Entry) → ((id : List ℕ) (form : Value) → form_at ds id ≡ Some form → HasOwnId id form) → get ds e.0 ≡ Some e.1 → IsOwnRow e
own_row ds e own is = λ r h. own_form e.0 e.1.1 r (λ form f. own e.0 form (ap (option_and_then (λ (x : KeptDocument). x.1)) is ∙ f)) h

pub own_rows : (ds : KeptDocuments) → ((id : List ℕ) (form : Value) → form_at ds id ≡ Some form → HasOwnId id form) → AllByRecursion IsOwnRow (entries ds)
own_rows ds own = all_through (λ e. get ds e.0 ≡ Some e.1) IsOwnRow (λ e h. own_row ds e own h) (entries ds) (all_kept ds)

-- ---- the rows of all are in order

none_step : (e x : Entry) (o : Option RowValue) (r : RowValue) (rest : List RowValue) → bytes_cmp e.0 x.0 ≡ Less → r ≡ id_row e.0 → ((s : RowValue) → o ≡ Some s → s ≡ id_row x.0)
    → NoneBelow row_value_order r rest → NoneBelow row_value_order r (cons_option o rest)
none_step e x None r rest less is own h = h
none_step e x (Some s) r rest less is own h =
    (ap is_gt (ap₂ row_value_order is (own s refl) ∙ id_rows e.0 x.0 ∙ less), h)

none_below : (e : Entry) (r : RowValue) (xs : List Entry) → T (below_all bytes_cmp e.0 xs) → r ≡ id_row e.0 → AllByRecursion IsOwnRow xs → NoneBelow row_value_order r (entry_rows xs)
none_below e r [] below is own = tt
none_below e r (x ∷ xs) below is own =
    let less = less_is (bytes_cmp e.0 x.0) (first (is_lt (bytes_cmp e.0 x.0)) (below_all bytes_cmp e.0 xs) below) in
    none_step e x (entry_row x) r (entry_rows xs) less is own.0 (none_below e r xs (second (is_lt (bytes_cmp e.0 x.0)) (below_all bytes_cmp e.0 xs) below) is own.1)

rise_step : (e : Entry) (o : Option RowValue) (xs : List Entry) → T (below_all bytes_cmp e.0 xs) → ((r : RowValue) → o ≡ Some r → r ≡ id_row e.0) → AllByRecursion IsOwnRow xs
    → Rises row_value_order (entry_rows xs) → Rises row_value_order (cons_option o (entry_rows xs))
rise_step e None xs below own all h = h
rise_step e (Some r) xs below own all h = (none_below e r xs below (own r refl) all, h)

rows_rise : (es : List Entry) → T (is_sorted bytes_cmp es) → AllByRecursion IsOwnRow es → Rises row_value_order (entry_rows es)
rows_rise [] h own = tt
rows_rise (e ∷ es) h own =
    rise_step e (entry_row e) es (first (below_all bytes_cmp e.0 es) (is_sorted bytes_cmp es) h) own.0 own.1 (rows_rise es (second (below_all bytes_cmp e.0 es) (is_sorted bytes_cmp es) h) own.1)

fused_step : (o : Option ServedDocument) (rest : List ServedDocument) (rows : List RowValue) → filter_map (row_of id_columns) rest ≡ rows
    → filter_map (row_of id_columns) (cons_option o rest) ≡ cons_option (option_and_then (row_of id_columns) o) rows
fused_step None rest rows e = e
fused_step (Some d) rest rows e = ap (cons_option (row_of id_columns d)) e

fused : (es : List Entry) → filter_map (row_of id_columns) (filter_map doc_entry es) ≡ entry_rows es
fused [] = refl
fused (e ∷ es) = fused_step (doc_entry e) (filter_map doc_entry es) (entry_rows es) (fused es)

-- the rows of all documents are those of the entries, in their order
pub all_rows : (ds : KeptDocuments) → ((id : List ℕ) (form : Value) → form_at ds id ≡ Some form → HasOwnId id form) → entry_rows (entries ds) ≡ rows_of id_columns (docs_of ds)
all_rows ds own =
    sorted_is (entry_rows (entries ds)) (entry_rows (entries ds)) (rows_rise (entries ds) (entries_sorted ds) (own_rows ds own)) (λ z. refl)
    ∙ ap (sorted row_value_order) (sym (fused (entries ds)))

-- ---- the rows that come after a place

where_step : (t : Bool) (p : RowValue → Bool) (o : Option RowValue) (e : Entry) (es : List Entry) (rows : List RowValue) → entry_row e ≡ o → ((r : RowValue) → o ≡ Some r → p r ≡ t) → entry_rows es ≡ filter p rows
    → entry_rows (cond t (e ∷ es) es) ≡ filter p (cons_option o rows)
where_step true p None e es rows is same h = ap (λ x. cons_option x (entry_rows es)) is ∙ h
where_step false p None e es rows is same h = h
where_step true p (Some r) e es rows is same h =
    ap (λ x. cons_option x (entry_rows es)) is ∙ ap₂ (λ b zs. cond b (r ∷ zs) zs) (sym (same r refl)) h
where_step false p (Some r) e es rows is same h = h ∙ ap (λ b. cond b (r ∷ filter p rows) (filter p rows)) (sym (same r refl))

rows-where : (order : RowValue → Ordering) (test : Ordering → Bool) (es : List Entry) → AllByRecursion IsOwnRow es
    → entry_rows (filter (λ e. test (order (id_row e.0))) es) ≡ filter (λ r. test (order r)) (entry_rows es)
rows-where order test [] own = refl
rows-where order test (e ∷ es) own =
    where_step (test (order (id_row e.0))) (λ r. test (order r)) (entry_row e) e (filter (λ x. test (order (id_row x.0))) es) (entry_rows es) refl
    (λ r h. ap (λ x. test (order x)) (own.0 r h)) (rows-where order test es own.1)

pub rows-beyond : (direction : Direction) (order : RowValue → Ordering) (es : List Entry) → AllByRecursion IsOwnRow es
    → entry_rows (beyond direction (λ e. order (id_row e.0)) es) ≡ beyond direction order (entry_rows es)
rows-beyond Asc order es own = rows-where order is_lt es own
rows-beyond Desc order es own = filter_map-reverse entry_row (filter (λ e. is_gt (order (id_row e.0))) es) ∙ ap reverse (rows-where order is_gt es own)

-- ---- what holds of all holds of what comes after a place

all_where : {X : Type 0} (P : X → Type 0) (p : X → Bool) (xs : List X) → AllByRecursion P xs → AllByRecursion P (filter p xs)
all_where P p [] h = tt
all_where {X} P p (x ∷ xs) h = step (p x) (all_where P p xs h.1)
  where
    step : (b : Bool) → AllByRecursion P (filter p xs) → AllByRecursion P (cond b (x ∷ filter p xs) (filter p xs))
    step true k = (h.0, k)
    step false k = k

all_reversed : {X : Type 0} (P : X → Type 0) (xs : List X) → AllByRecursion P xs → AllByRecursion P (reverse xs)
all_reversed P [] h = tt
all_reversed P (x ∷ xs) h = rw (reverse-append (x ∷ []) xs) (all_append P (reverse xs) (x ∷ []) (all_reversed P xs h.1) (h.0, tt))

pub all_beyond : {X : Type 0} (P : X → Type 0) (direction : Direction) (order : X → Ordering) (xs : List X) → AllByRecursion P xs → AllByRecursion P (beyond direction order xs)
all_beyond P Asc order xs h = all_where P (λ x. is_lt (order x)) xs h
all_beyond P Desc order xs h = all_reversed P (filter (λ x. is_gt (order x)) xs) (all_where P (λ x. is_gt (order x)) xs h)

pub all_mapped : {X Y : Type 0} (P : Y → Type 0) (f : X → Y) (xs : List X) → AllByRecursion P (map f xs) → AllByRecursion (λ x. P (f x)) xs
all_mapped P f [] h = tt
all_mapped P f (x ∷ xs) h = (h.0, all_mapped P f xs h.1)
