-- What shards list of their documents, cut and merged: the first rows of all documents together.
use Rattle.std.proofs.Common.{◌≡◌, ℕ, ◌+◌, Bool, true, false, List, [], ◌∷◌, ◌++◌, map, take, drop, get_or, cond, All, Option, Some, None, option_to_list, refl, sym, ap, ap₂, ◌∙◌}
use Rattle.std.specs.List.{AllByRecursion, filter, filter_map, flat_map}
use Rattle.std.specs.List.Sorted.{IsPermutation}
use Rattle.std.proofs.lemmas.List.{drop-take, drop-map, take-map}
use Rattle.std.proofs.lemmas.List.Elements.{All-map}
use Rattle.mg_collate.specs.declared.direction.Direction.{Direction}
use Rattle.mg_collate.specs.Row.{RowValue, directed_order}
use Rattle.mg_collate.specs.Sorted.{IsInOrder, sorted, sorted_rows}
use Rattle.mg_collate.proofs.Directed.{directed_total, directed_ties}
use Rattle.mg_collate.proofs.Sorting.{in_order, rises_sorted}
use Rattle.mg_merge.specs.Merged.{joined, merged}
use Rattle.mg_merge.specs.Sharding.{Document, rows_of, lists_of}
use Rattle.mg_merge.proofs.Cuts.{cut_lists}
use Rattle.mg_merge.proofs.Shards.{first_of_any_dealing}
use Rattle.mg_query.proofs.Sorts.{filter_sorted, map_filter, map_sorted}

-- the rows of a document that are asked for: its row, if there is one, the document is asked for, and the row is wanted
abbrev pub rows_asked : (Document → Bool) → (Document → Option RowValue) → (RowValue → Bool) → Document → List RowValue
rows_asked asked row wanted d = filter wanted (cond (asked d) (option_to_list (row d)) [])

-- the rows that these documents list: the wanted ones of the sorted rows of the documents that are asked for
abbrev pub listed_rows : (Document → Bool) → (Document → Option RowValue) → (RowValue → Bool) → Direction → List Document → List RowValue
listed_rows asked row wanted direction ds = filter wanted (sorted_rows direction (filter_map row (filter asked ds)))

filter_append : {X : Type 0} (p : X → Bool) (xs ys : List X) → filter p (xs ++ ys) ≡ filter p xs ++ filter p ys
filter_append p [] ys = refl
filter_append p (x ∷ xs) ys = elim (p x) as (λ b. cond b (x ∷ filter p (xs ++ ys)) (filter p (xs ++ ys)) ≡ cond b (x ∷ filter p xs) (filter p xs) ++ filter p ys) [ true ↦ ap (λ zs. x ∷ zs) (filter_append p xs ys) | false ↦ filter_append p xs ys ]

row_first : (row : Document → Option RowValue) (d : Document) (ds : List Document) (o : Option RowValue) → row d ≡ o → filter_map row (d ∷ ds) ≡ option_to_list o ++ filter_map row ds
row_first row d ds None e = rw e
row_first row d ds (Some r) e = rw e

asked_first : (row : Document → Option RowValue) (d : Document) (ds : List Document) (b : Bool) → filter_map row (cond b (d ∷ ds) ds) ≡ cond b (option_to_list (row d)) [] ++ filter_map row ds
asked_first row d ds true = row_first row d ds (row d) refl
asked_first row d ds false = refl

rows_of_each : (asked : Document → Bool) (row : Document → Option RowValue) (wanted : RowValue → Bool) (ds : List Document)
    → filter wanted (filter_map row (filter asked ds)) ≡ flat_map (rows_asked asked row wanted) ds
rows_of_each asked row wanted [] = refl
rows_of_each asked row wanted (d ∷ ds) =
    ap (filter wanted) (asked_first row d (filter asked ds) (asked d))
    ∙ filter_append wanted (cond (asked d) (option_to_list (row d)) []) (filter_map row (filter asked ds))
    ∙ ap (λ rs. rows_asked asked row wanted d ++ rs) (rows_of_each asked row wanted ds)

pub listed_sorted : (asked : Document → Bool) (row : Document → Option RowValue) (wanted : RowValue → Bool) (direction : Direction) (ds : List Document)
    → listed_rows asked row wanted direction ds ≡ rows_of direction (rows_asked asked row wanted) ds
listed_sorted asked row wanted direction ds =
    filter_sorted (directed_order direction) (directed_total direction) (directed_ties direction) wanted (filter_map row (filter asked ds))
    ∙ ap (sorted_rows direction) (rows_of_each asked row wanted ds)

cut_listed : (asked : Document → Bool) (row : Document → Option RowValue) (wanted : RowValue → Bool) (direction : Direction) (count : ℕ) (shards : List (List Document))
    → map (λ ds. take count (listed_rows asked row wanted direction ds)) shards ≡ map (take count) (lists_of direction (rows_asked asked row wanted) shards)
cut_listed asked row wanted direction count [] = refl
cut_listed asked row wanted direction count (ds ∷ shards) = ap₂ (λ x xs. take count x ∷ xs) (listed_sorted asked row wanted direction ds) (cut_listed asked row wanted direction count shards)

pub lists_in_order : (direction : Direction) (rows : Document → List RowValue) (shards : List (List Document)) → All (IsInOrder direction) (lists_of direction rows shards)
lists_in_order direction rows shards =
    All-map (IsInOrder direction) (rows_of direction rows) shards
    (λ k d l. in_order (directed_order direction) (directed_total direction) (rows_of direction rows (get_or shards k d)) (rises_sorted (directed_order direction) (directed_total direction) (flat_map rows (get_or shards k d))))

-- the merge of the first `count` rows that each shard lists has the first `count` rows of all documents
first_of_shards : (asked : Document → Bool) (row : Document → Option RowValue) (wanted : RowValue → Bool) (direction : Direction) (count : ℕ) (documents : List Document) (shards : List (List Document))
    → IsPermutation documents (joined shards)
    → merged direction count (map (λ ds. take count (listed_rows asked row wanted direction ds)) shards) ≡ take count (rows_of direction (rows_asked asked row wanted) documents)
first_of_shards asked row wanted direction count documents shards h =
    let rows = rows_asked asked row wanted in
    ap (merged direction count) (cut_listed asked row wanted direction count shards)
    ∙ cut_lists direction count (lists_of direction rows shards) (lists_in_order direction rows shards)
    ∙ first_of_any_dealing direction rows documents shards count h

module _ {X : Type 0} (f : X → RowValue) (document : X → Document) (picked : X → Bool) (after : RowValue → Bool) (rows : Document → List RowValue) where
  -- x is found by its row f x if it is picked and the row is after the place, otherwise by none
  abbrev pub IsFoundBy : X → Type 0
  IsFoundBy x = rows (document x) ≡ filter after (cond (picked x) (f x ∷ []) [])

  found_first : (x : X) (xs : List X) (b : Bool) → filter after (cond b (f x ∷ []) []) ++ filter after (map f (filter picked xs)) ≡ filter after (map f (cond b (x ∷ filter picked xs) (filter picked xs)))
  found_first x xs true = sym (filter_append after (f x ∷ []) (map f (filter picked xs)))
  found_first x xs false = refl

  rows_of_found : (xs : List X) → AllByRecursion IsFoundBy xs → flat_map rows (map document xs) ≡ filter after (map f (filter picked xs))
  rows_of_found [] h = refl
  rows_of_found (x ∷ xs) h = ap₂ (λ rs ss. rs ++ ss) h.0 (rows_of_found xs h.1) ∙ found_first x xs (picked x)

  -- the rows of all documents are those of the candidates that are found, in their order
  pub all_found : (direction : Direction) (xs : List X) → AllByRecursion IsFoundBy xs
      → rows_of direction rows (map document xs) ≡ map f (filter (λ x. after (f x)) (sorted (λ x y. directed_order direction (f x) (f y)) (filter picked xs)))
  all_found direction xs h =
      ap (sorted_rows direction) (rows_of_found xs h)
      ∙ sym (filter_sorted (directed_order direction) (directed_total direction) (directed_ties direction) after (map f (filter picked xs)))
      ∙ ap (filter after) (sym (map_sorted f (directed_order direction) (filter picked xs)))
      ∙ sym (map_filter f after (sorted (λ x y. directed_order direction (f x) (f y)) (filter picked xs)))

  -- the rows of a page: the lists of the shards, each cut at skip + limit, merged, without the first `skip`
  pub rows_of_page : (asked : Document → Bool) (row : Document → Option RowValue) (wanted : RowValue → Bool) → rows ≡ rows_asked asked row wanted
      → (direction : Direction) (skip limit : ℕ) (xs : List X) (shards : List (List Document)) → IsPermutation (map document xs) (joined shards) → AllByRecursion IsFoundBy xs
      → drop skip (merged direction (skip + limit) (map (λ ds. take (skip + limit) (listed_rows asked row wanted direction ds)) shards))
      ≡ map f (take limit (drop skip (filter (λ x. after (f x)) (sorted (λ x y. directed_order direction (f x) (f y)) (filter picked xs)))))
  rows_of_page asked row wanted same direction skip limit xs shards h k =
      let found = filter (λ x. after (f x)) (sorted (λ x y. directed_order direction (f x) (f y)) (filter picked xs)) in
      ap (drop skip) (first_of_shards asked row wanted direction (skip + limit) (map document xs) shards h
      ∙ ap (λ rs. take (skip + limit) (rows_of direction rs (map document xs))) (sym same)
      ∙ ap (take (skip + limit)) (all_found direction xs k))
      ∙ drop-take skip limit (map f found)
      ∙ ap (take limit) (drop-map f skip found)
      ∙ take-map f limit (drop skip found)
