-- A list of documents in the order of their ids, and the finite map that contracts see of it.
use lib.Dec.{T}
use Rattle.std.proofs.Common.{◌≡◌, ℕ, Bool, true, false, ◌&&◌, List, [], ◌∷◌, ◌++◌, Ordering, Less, Equal, Greater, Option, Some, None, option_map, map, cond, nat_cmp, is_eq, is_lt, is_gt, refl, ap, ap₂, sym, ◌∙◌}
use Rattle.std.proofs.lemmas.Cmp.{nat_list_cmp_total}
use Rattle.std.specs.Cmp.Lexicographic.{slice_cmp}
use Rattle.std.specs.List.{AllByRecursion, filter, filter_map}
use Rattle.std.specs.Option.{option_or}
use Rattle.std.specs.Ordering.{eq_by_cmp, ordering_reverse}
use Rattle.std.specs.FinMap.Entries.{below_all, where_key, find-where_key}
use Rattle.std.specs.FinMap.{IsAntisymmetric, entries, entries-from_sorted, find, from_sorted, get, get-from_entries, get-from_sorted, get-insert, insert, is_sorted, nat_cmp-IsAntisymmetric, same_map, slice_cmp-IsAntisymmetric}
use Rattle.mg_pages.specs.Identified.{id_against, id_order}
use Rattle.mg_pages.specs.Order.{Ascends, above, below, first_of_list, found, inserted}
use Rattle.mg_shard.specs.Documents.{KeptDocument, doc_entry, docs_of, kept_entry, id_bytes, kept_of, docs_in, kept_documents}
use Rattle.mg_shard.specs.declared.document.Document.{Document}

abbrev pub bytes_cmp : List ℕ → List ℕ → Ordering
bytes_cmp = slice_cmp nat_cmp

pub bytes_exact : IsAntisymmetric bytes_cmp
bytes_exact = slice_cmp-IsAntisymmetric nat_cmp-IsAntisymmetric

-- ---- look-ups

found_step : (b : Bool) (d : Document) (ds : List Document) (o : Option KeptDocument) → option_map kept_of (first_of_list ds) ≡ o
    → option_map kept_of (first_of_list (cond b (d ∷ ds) ds)) ≡ cond b (Some (kept_of d)) o
found_step true d ds o e = refl
found_step false d ds o e = e

find-found : (q : List ℕ) (ds : List Document) → option_map kept_of (found (id_against id_bytes q) ds) ≡ find bytes_cmp q (map kept_entry ds)
find-found q [] = refl
find-found q (d ∷ ds) = found_step (is_eq (bytes_cmp q (id_bytes d))) d (filter (λ x. is_eq (id_against id_bytes q x)) ds) (find bytes_cmp q (map kept_entry ds)) (find-found q ds)

-- a look-up in the list finds what the map has
pub get-kept_documents : (q : List ℕ) (ds : List Document) → option_map kept_of (found (id_against id_bytes q) ds) ≡ get (kept_documents ds) q
get-kept_documents q ds = find-found q ds ∙ sym (get-from_entries nat_list_cmp_total (map kept_entry ds) q)

-- ---- insertions

option_or-none : {X : Type 0} (o : Option X) → option_or o None ≡ o
option_or-none None = refl
option_or-none (Some x) = refl

found_first : (b : Bool) (v : KeptDocument) (o p : Option KeptDocument) → cond b (Some v) (option_or o p) ≡ option_or (cond b (Some v) o) p
found_first true v o p = refl
found_first false v o p = refl

find-append : (q : List ℕ) (ds es : List Document) → find bytes_cmp q (map kept_entry (ds ++ es)) ≡ option_or (find bytes_cmp q (map kept_entry ds)) (find bytes_cmp q (map kept_entry es))
find-append q [] es = refl
find-append q (d ∷ ds) es = ap (cond (eq_by_cmp bytes_cmp q (id_bytes d)) (Some (kept_of d))) (find-append q ds es) ∙ found_first (eq_by_cmp bytes_cmp q (id_bytes d)) (kept_of d) _ _

where_step : (b : Bool) (d : Document) (ds : List Document) → map kept_entry (cond b (d ∷ ds) ds) ≡ cond b (kept_entry d ∷ map kept_entry ds) (map kept_entry ds)
where_step true d ds = refl
where_step false d ds = refl

where-map : (p : List ℕ → Bool) (ds : List Document) → map kept_entry (filter (λ d. p (id_bytes d)) ds) ≡ where_key bytes_cmp p (map kept_entry ds)
where-map p [] = refl
where-map p (d ∷ ds) = where_step (p (id_bytes d)) d (filter (λ x. p (id_bytes x)) ds) ∙ ap (λ es. cond (p (id_bytes d)) (kept_entry d ∷ es) es) (where-map p ds)

find-where : (p : List ℕ → Bool) (q : List ℕ) (ds : List Document) → find bytes_cmp q (map kept_entry (filter (λ d. p (id_bytes d)) ds)) ≡ cond (p q) (find bytes_cmp q (map kept_entry ds)) None
find-where p q ds = ap (find bytes_cmp q) (where-map p ds) ∙ find-where_key bytes_cmp p q (λ x e. ap p (sym (bytes_exact q x e))) (map kept_entry ds)

placed : (r : Ordering) (v : KeptDocument) (o : Option KeptDocument)
    → option_or (cond (is_gt r) o None) (cond (is_eq (ordering_reverse r)) (Some v) (cond (is_lt r) o None)) ≡ cond (is_eq (ordering_reverse r)) (Some v) o
placed Less v o = refl
placed Equal v o = refl
placed Greater v o = option_or-none o

find-inserted : (q : List ℕ) (d : Document) (ds : List Document) → find bytes_cmp q (map kept_entry (inserted (id_order id_bytes) d ds)) ≡ cond (eq_by_cmp bytes_cmp q (id_bytes d)) (Some (kept_of d)) (find bytes_cmp q (map kept_entry ds))
find-inserted q d ds =
    let k = id_bytes d in
    let o = find bytes_cmp q (map kept_entry ds) in
    let turned : bytes_cmp q k ≡ ordering_reverse (bytes_cmp k q) = nat_list_cmp_total.antisymm q k in
    find-append q (below (id_order id_bytes d) ds) (d ∷ above (id_order id_bytes d) ds)
    ∙ ap₂ (λ a b. option_or a (cond (eq_by_cmp bytes_cmp q k) (Some (kept_of d)) b)) (find-where (λ x. is_gt (bytes_cmp k x)) q ds) (find-where (λ x. is_lt (bytes_cmp k x)) q ds)
    ∙ ap (λ r. option_or (cond (is_gt (bytes_cmp k q)) o None) (cond (is_eq r) (Some (kept_of d)) (cond (is_lt (bytes_cmp k q)) o None))) turned
    ∙ placed (bytes_cmp k q) (kept_of d) o
    ∙ ap (λ r. cond (is_eq r) (Some (kept_of d)) o) (sym turned)

-- a document that is inserted into the list is inserted into the map under its id
pub kept_documents-inserted : (d : Document) (ds : List Document) → kept_documents (inserted (id_order id_bytes) d ds) ≡ insert (kept_documents ds) (id_bytes d) (kept_of d)
kept_documents-inserted d ds = same_map nat_list_cmp_total bytes_exact _ _ (λ q.
    get-from_entries nat_list_cmp_total (map kept_entry (inserted (id_order id_bytes) d ds)) q ∙ find-inserted q d ds
    ∙ sym (get-insert nat_list_cmp_total (kept_documents ds) (id_bytes d) (kept_of d) q ∙ ap (cond (eq_by_cmp bytes_cmp q (id_bytes d)) (Some (kept_of d))) (get-from_entries nat_list_cmp_total (map kept_entry ds) q)))

-- ---- all documents

below_shown : (d : Document) (ds : List Document) → AllByRecursion (λ y. id_order id_bytes d y ≡ Less) ds → T (below_all bytes_cmp (id_bytes d) (map kept_entry ds))
below_shown d [] h = tt
below_shown d (x ∷ ds) h = rw h.0 (below_shown d ds h.1)

both : (a b : Bool) → T a → T b → T (a && b)
both true b p q = q
both false b p q = p

sorted_shown : (ds : List Document) → Ascends (id_order id_bytes) ds → T (is_sorted bytes_cmp (map kept_entry ds))
sorted_shown [] h = tt
sorted_shown (d ∷ ds) h = both _ _ (below_shown d ds h.0) (sorted_shown ds h.1)

-- the entries of the map are the documents, in order
pub entries-kept_documents : (ds : List Document) → Ascends (id_order id_bytes) ds → entries (kept_documents ds) ≡ map kept_entry ds
entries-kept_documents ds h =
    let sorted = sorted_shown ds h in
    ap entries (same_map nat_list_cmp_total bytes_exact (kept_documents ds) (from_sorted (map kept_entry ds)) (λ q.
    get-from_entries nat_list_cmp_total _ q ∙ sym (get-from_sorted bytes_cmp (map kept_entry ds) q sorted)))
    ∙ entries-from_sorted bytes_cmp (map kept_entry ds) sorted

-- the served documents of a list, by their entries
pub served_all : (ds : List Document) → filter_map doc_entry (map kept_entry ds) ≡ docs_in ds
served_all [] = refl
served_all (d ∷ ds) = rw (served_all ds)

-- the served documents of the list are those of the map
pub docs-kept_documents : (ds : List Document) → Ascends (id_order id_bytes) ds → docs_in ds ≡ docs_of (kept_documents ds)
docs-kept_documents ds h = sym (served_all ds) ∙ ap (filter_map doc_entry) (sym (entries-kept_documents ds h))
