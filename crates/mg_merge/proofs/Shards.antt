-- The rows of documents do not depend on how the documents are distributed over shards.
use Rattle.std.proofs.Common.{◌≡◌, ℕ, ◌+◌, List, [], ◌∷◌, take, Ordering, sum_by, refl, sym, ap, ap₂, ◌∙◌}
use Rattle.std.specs.List.{flat_map}
use Rattle.std.specs.List.Sorted.{IsPermutation}
use Rattle.std.proofs.lemmas.List.Sorted.{sum_by-IsPermutation}
use Rattle.std.proofs.lemmas.List.Sums.{sum_by-cons}
use Rattle.std.proofs.lemmas.Grind.{flat_map-append}
use Rattle.mg_collate.specs.declared.direction.Direction.{Direction}
use Rattle.mg_collate.specs.Row.{RowValue, directed_order}
use Rattle.mg_collate.specs.Sorted.{sorted_rows}
use Rattle.mg_collate.proofs.Directed.{directed_total, directed_ties}
use Rattle.mg_collate.proofs.Sorting.{times, times_permutation, permutation_sorted, sorted_of_same}
use Rattle.mg_merge.specs.Merged.{joined, merged}
use Rattle.mg_merge.specs.Sharding.{Document, rows_of, lists_of}
use Rattle.mg_merge.proofs.Heads.{times_append}

-- how often a row occurs in the rows of documents
times_flat_map : (order : RowValue → RowValue → Ordering) (z : RowValue) (rows : Document → List RowValue) (documents : List Document)
    → times order z (flat_map rows documents) ≡ sum_by (λ document. times order z (rows document)) documents
times_flat_map order z rows [] = refl
times_flat_map order z rows (document ∷ documents) =
    times_append order z (rows document) (flat_map rows documents) ∙ ap (λ n. times order z (rows document) + n) (times_flat_map order z rows documents)
    ∙ sym (sum_by-cons (λ d. times order z (rows d)) document documents)

times_lists : (direction : Direction) (z : RowValue) (rows : Document → List RowValue) (shards : List (List Document))
    → times (directed_order direction) z (joined (lists_of direction rows shards)) ≡ times (directed_order direction) z (flat_map rows (joined shards))
times_lists direction z rows [] = refl
times_lists direction z rows (shard ∷ shards) =
    times_append (directed_order direction) z (rows_of direction rows shard) (joined (lists_of direction rows shards))
    ∙ ap₂ (λ m n. m + n) (times_permutation (directed_order direction) z (flat_map rows shard) (rows_of direction rows shard) (permutation_sorted (directed_order direction) (flat_map rows shard))) (times_lists direction z rows shards)
    ∙ sym (times_append (directed_order direction) z (flat_map rows shard) (flat_map rows (joined shards)))
    ∙ ap (times (directed_order direction) z) (sym (flat_map-append rows shard (joined shards)))

-- however documents are distributed over shards, the rows of the shards' lists are the rows of all documents
pub any_dealing : (direction : Direction) (rows : Document → List RowValue) (documents : List Document) (shards : List (List Document)) → IsPermutation documents (joined shards)
    → sorted_rows direction (joined (lists_of direction rows shards)) ≡ rows_of direction rows documents
any_dealing direction rows documents shards h =
    sorted_of_same (directed_order direction) (directed_total direction) (directed_ties direction) (joined (lists_of direction rows shards)) (flat_map rows documents)
    (λ z. times_lists direction z rows shards ∙ times_flat_map (directed_order direction) z rows (joined shards)
    ∙ sum_by-IsPermutation (λ document. times (directed_order direction) z (rows document)) documents (joined shards) h
    ∙ sym (times_flat_map (directed_order direction) z rows documents))

-- a merge of the shards' lists gives the first rows of all documents
pub first_of_any_dealing : (direction : Direction) (rows : Document → List RowValue) (documents : List Document) (shards : List (List Document)) (count : ℕ) → IsPermutation documents (joined shards)
    → merged direction count (lists_of direction rows shards) ≡ take count (rows_of direction rows documents)
first_of_any_dealing direction rows documents shards count h = ap (take count) (any_dealing direction rows documents shards h)
