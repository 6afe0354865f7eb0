-- The deleted documents of a list, and what they leave when they are counted.
use Rattle.std.proofs.Common.{◌≡◌, ◌∙◌, ℕ, suc, ◌+◌, Bool, true, false, List, [], ◌∷◌, ◌++◌, Option, Some, None, is_none, is_lt, is_gt, cond, length, map, append-nil, option_map, reverse, refl, ap, ap₂, sym, arith}
use Rattle.std.proofs.lemmas.List.{length-map, reverse-append}
use Rattle.std.specs.List.{AllByRecursion, cons_option, filter, filter_map}
use Rattle.std.specs.declared.cmp.Ordering.{Ordering}
use Rattle.std.specs.declared.cmp.Ordering.TheVariants.{Less}
use Rattle.mg_collate.specs.declared.direction.Direction.{Direction}
use Rattle.mg_collate.specs.declared.direction.Direction.TheVariants.{Asc, Desc}
use Rattle.mg_pages.specs.Identified.{id_order}
use Rattle.mg_pages.specs.Order.{Ascends, above, below, inserted, removed}
use Rattle.mg_value.specs.Value.{Value}
use Rattle.mg_shard.specs.Documents.{KeptDocument, deleted_among, deleted_entry, deleted_of, doc_entry, docs_in, form_of, id_bytes, is_deleted, kept_documents, kept_entry}
use Rattle.mg_shard.specs.Histories.{ServedDocument}
use Rattle.mg_pages.specs.Reading.{beyond}
use Rattle.mg_shard.specs.declared.document.Document.{Document}
use Rattle.mg_shard.proofs.Shown.{entries-kept_documents, served_all}
use Rattle.mg_shard.proofs.Walks.{beyond-map}

module _ {X : Type 0} where
  swap_step : (b c : Bool) (x : X) (ys zs : List X) (p q : X → Bool) → p x ≡ b → q x ≡ c → filter p ys ≡ filter q zs → filter p (cond c (x ∷ ys) ys) ≡ filter q (cond b (x ∷ zs) zs)
  swap_step true true x ys zs p q e f h = rw (e, f) (ap (λ ws. x ∷ ws) h)
  swap_step true false x ys zs p q e f h = rw f h
  swap_step false true x ys zs p q e f h = rw e h
  swap_step false false x ys zs p q e f h = h

  -- two tests may be made in either order
  pub filter-swap : (p q : X → Bool) (xs : List X) → filter p (filter q xs) ≡ filter q (filter p xs)
  filter-swap p q [] = refl
  filter-swap p q (x ∷ xs) = swap_step (p x) (q x) x (filter q xs) (filter p xs) p q refl refl (filter-swap p q xs)

  append_step : (b : Bool) (x : X) (ys zs : List X) → cond b (x ∷ (ys ++ zs)) (ys ++ zs) ≡ cond b (x ∷ ys) ys ++ zs
  append_step true x ys zs = refl
  append_step false x ys zs = refl

  pub filter-append : (p : X → Bool) (xs ys : List X) → filter p (xs ++ ys) ≡ filter p xs ++ filter p ys
  filter-append p [] ys = refl
  filter-append p (x ∷ xs) ys = ap (λ zs. cond (p x) (x ∷ zs) zs) (filter-append p xs ys) ∙ append_step (p x) x (filter p xs) (filter p ys)

  -- an element that passes is inserted among those that pass
  pub filter-inserted : (p : X → Bool) (order : X → X → Ordering) (x : X) (xs : List X) → p x ≡ true → filter p (inserted order x xs) ≡ inserted order x (filter p xs)
  filter-inserted p order x xs e =
      filter-append p (below (order x) xs) (x ∷ above (order x) xs)
      ∙ ap (λ b. filter p (below (order x) xs) ++ cond b (x ∷ filter p (above (order x) xs)) (filter p (above (order x) xs))) e
      ∙ ap₂ (λ ys zs. ys ++ x ∷ zs) (filter-swap p (λ y. is_gt (order x y)) xs) (filter-swap p (λ y. is_lt (order x y)) xs)

  -- one that does not pass takes away the one that it replaces
  pub filter-replaced : (p : X → Bool) (order : X → X → Ordering) (x : X) (xs : List X) → p x ≡ false → filter p (inserted order x xs) ≡ removed (order x) (filter p xs)
  filter-replaced p order x xs e =
      filter-append p (below (order x) xs) (x ∷ above (order x) xs)
      ∙ ap (λ b. filter p (below (order x) xs) ++ cond b (x ∷ filter p (above (order x) xs)) (filter p (above (order x) xs))) e
      ∙ ap₂ (λ ys zs. ys ++ zs) (filter-swap p (λ y. is_gt (order x y)) xs) (filter-swap p (λ y. is_lt (order x y)) xs)

  all_step : (P : X → Type 0) (b : Bool) (x : X) (ys : List X) → P x → AllByRecursion P ys → AllByRecursion P (cond b (x ∷ ys) ys)
  all_step P true x ys h hs = (h, hs)
  all_step P false x ys h hs = hs

  all-filter : (P : X → Type 0) (p : X → Bool) (xs : List X) → AllByRecursion P xs → AllByRecursion P (filter p xs)
  all-filter P p [] h = tt
  all-filter P p (x ∷ xs) h = all_step P (p x) x (filter p xs) h.0 (all-filter P p xs h.1)

  ascends_step : (order : X → X → Ordering) (b : Bool) (x : X) (ys : List X) → AllByRecursion (λ y. order x y ≡ Less) ys → Ascends order ys → Ascends order (cond b (x ∷ ys) ys)
  ascends_step order true x ys h a = (h, a)
  ascends_step order false x ys h a = a

  -- elements that ascend still do so without some of them
  pub ascends-filter : (order : X → X → Ordering) (p : X → Bool) (xs : List X) → Ascends order xs → Ascends order (filter p xs)
  ascends-filter order p [] h = tt
  ascends-filter order p (x ∷ xs) h = ascends_step order (p x) x (filter p xs) (all-filter (λ y. order x y ≡ Less) p xs h.0) (ascends-filter order p xs h.1)

-- ---- counting

module _ {X Y : Type 0} where
  count_step : (f : X → Option Y) (o : Option Y) (x : X) (ys : List Y) (zs : List X) (n : ℕ) → length ys + length zs ≡ n
      → length (cons_option o ys) + length (cond (is_none o) (x ∷ zs) zs) ≡ suc n
  count_step f None x ys zs n h = omega (arith, h)
  count_step f (Some y) x ys zs n h = omega (arith, h)

  -- the elements of which something is given, and those of which nothing is, are all
  pub given_and_not : (f : X → Option Y) (p : X → Bool) → ((x : X) → p x ≡ is_none (f x)) → (xs : List X) → length (filter_map f xs) + length (filter p xs) ≡ length xs
  given_and_not f p same [] = refl
  given_and_not f p same (x ∷ xs) =
      ap (λ b. length (cons_option (f x) (filter_map f xs)) + length (cond b (x ∷ filter p xs) (filter p xs))) (same x)
      ∙ count_step f (f x) x (filter_map f xs) (filter p xs) (length xs) (given_and_not f p same xs)

is_none_shown : (id : List ℕ) (o : Option Value) → is_none o ≡ is_none (option_map (λ form. (let d : ServedDocument = (id, form) in d)) o)
is_none_shown id None = refl
is_none_shown id (Some v) = refl

-- the served documents and the deleted ones are all documents
pub served_and_deleted : (ds : List Document) → length (docs_in ds) + length (deleted_among ds) ≡ length ds
served_and_deleted ds = given_and_not (λ d. doc_entry (kept_entry d)) is_deleted (λ d. is_none_shown (id_bytes d) (form_of d)) ds

id_step : (o : Option Value) (d : Document) (ids : List (List ℕ)) (ds : List Document) → ids ≡ map id_bytes ds
    → cons_option (cond (is_none o) (Some (id_bytes d)) None) ids ≡ map id_bytes (cond (is_none o) (d ∷ ds) ds)
id_step None d ids ds h = ap (λ is. id_bytes d ∷ is) h
id_step (Some v) d ids ds h = h

deleted_ids : (ds : List Document) → filter_map deleted_entry (map kept_entry ds) ≡ map id_bytes (deleted_among ds)
deleted_ids [] = refl
deleted_ids (d ∷ ds) = id_step (form_of d) d (filter_map deleted_entry (map kept_entry ds)) (deleted_among ds) (deleted_ids ds)

-- the map of the documents has as many deleted ones as the list
pub deleted_length : (ds : List Document) → Ascends (id_order id_bytes) ds → length (deleted_among ds) ≡ length (deleted_of (kept_documents ds))
deleted_length ds h =
    sym (length-map (deleted_among ds) id_bytes) ∙ ap length (sym (deleted_ids ds)) ∙ ap (λ es. length (filter_map deleted_entry es)) (sym (entries-kept_documents ds h))

-- ---- after a place

reverse_step : {X : Type 0} (b : Bool) (x : X) (us : List X) → reverse us ++ cond b (x ∷ []) [] ≡ reverse (cond b (x ∷ us) us)
reverse_step true x us = sym (reverse-append (x ∷ []) us)
reverse_step false x us = append-nil (reverse us)

filter-reverse : {X : Type 0} (p : X → Bool) (xs : List X) → filter p (reverse xs) ≡ reverse (filter p xs)
filter-reverse p [] = refl
filter-reverse p (x ∷ xs) =
    ap (filter p) (reverse-append (x ∷ []) xs) ∙ filter-append p (reverse xs) (x ∷ []) ∙ ap (λ ys. ys ++ filter p (x ∷ [])) (filter-reverse p xs) ∙ reverse_step (p x) x (filter p xs)

beyond-filter : {X : Type 0} (p : X → Bool) (direction : Direction) (against : X → Ordering) (xs : List X) → beyond direction against (filter p xs) ≡ filter p (beyond direction against xs)
beyond-filter p Asc against xs = filter-swap (λ x. is_lt (against x)) p xs
beyond-filter p Desc against xs = ap reverse (filter-swap (λ x. is_gt (against x)) p xs) ∙ sym (filter-reverse p (below against xs))

-- the served documents and the deleted ones after a place are all documents after it
pub deleted_beyond : (direction : Direction) (against : Document → Ordering) (ds : List Document)
    → length (docs_in (beyond direction against ds)) + length (beyond direction against (deleted_among ds)) ≡ length (beyond direction against ds)
deleted_beyond direction against ds =
    ap (λ xs. length (docs_in (beyond direction against ds)) + length xs) (beyond-filter is_deleted direction against ds) ∙ served_and_deleted (beyond direction against ds)

-- the served documents after a place are those after it without the deleted ones
pub served_beyond : (direction : Direction) (against : Document → Ordering) (order : List ℕ × KeptDocument → Ordering) → ((d : Document) → against d ≡ order (kept_entry d)) → (ds : List Document)
    → length (filter_map doc_entry (beyond direction order (map kept_entry ds))) + length (beyond direction against (deleted_among ds)) ≡ length (beyond direction against ds)
served_beyond direction against order same ds =
    ap (λ es. length (filter_map doc_entry es) + length (beyond direction against (deleted_among ds))) (sym (beyond-map kept_entry against order same direction ds))
    ∙ ap (λ es. length es + length (beyond direction against (deleted_among ds))) (served_all (beyond direction against ds))
    ∙ deleted_beyond direction against ds
