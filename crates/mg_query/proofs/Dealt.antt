-- The documents of all shards together are those that the histories serve, in some order.
use lib.Dec.{eqb, leb}
use Rattle.std.proofs.Common.{◌≡◌, ℕ, suc, ◌+◌, ◌<◌, Bool, true, false, List, [], ◌∷◌, ◌++◌, Option, Some, None, is_some, is_eq, Equal, option_to_list, append_assoc, length, map, slice_get, cond, refl, sym, ap, ◌∙◌, subst, arith}
use Rattle.std.proofs.lemmas.Cmp.{tied_itself}
use Rattle.std.specs.Ordering.{eq_by_cmp}
use Rattle.mg_collate.proofs.Sorting.{all_weaker}
use Rattle.std.proofs.lemmas.Bool.Decides.{nat_tests}
use Rattle.std.proofs.lemmas.Cmp.{nat_list_cmp_total}
use Rattle.std.proofs.lemmas.List.Sorted.{IsPermutation-refl, IsPermutation-sym, IsPermutation-cons, IsPermutation-middle, IsPermutation-trans, IsPermutation-append_right}
use Rattle.std.specs.FinMap.{entries, entries_sorted, find, get, get-entries, get-retain_keys, retain_keys}
use Rattle.std.specs.FinMap.Entries.{where_key, find-where_key, is_sorted-where_key, same_entries}
use Rattle.std.specs.List.{AllByRecursion, filter, filter_map}
use Rattle.std.specs.List.Sorted.{IsPermutation}
use Rattle.mg_merge.specs.Merged.{joined}
use Rattle.mg_revtree.specs.History.{Paths}
use Rattle.mg_shard.specs.Dealt.{Placing, ShardsStandFor, histories_on}
use Rattle.mg_shard.specs.Documents.{KeptDocuments, StandFor, deleted_of, docs_of}
use Rattle.mg_shard.specs.Histories.{Histories, deleted_documents, deleted_id, served_documents, served_entry}
use Rattle.mg_shard.specs.Shard.{ShardView}
use Rattle.mg_shard.proofs.Shown.{bytes_cmp, bytes_exact}
use Rattle.mg_shard.proofs.Standing.{same_deleted, same_docs}

-- ---- elements e with a number f e and maybe a value g e

module _ {E D : Type 0} (f : E → ℕ) (g : E → Option D) where
  shown_first : (e : E) (es : List E) (o : Option D) → g e ≡ o → filter_map g (e ∷ es) ≡ option_to_list o ++ filter_map g es
  shown_first e es None h = rw h
  shown_first e es (Some d) h = rw h

  front : (o : Option D) (xs ys zs : List D) → IsPermutation xs (ys ++ zs) → IsPermutation (option_to_list o ++ xs) ((option_to_list o ++ ys) ++ zs)
  front None xs ys zs h = h
  front (Some d) xs ys zs h = IsPermutation-cons d xs (ys ++ zs) h

  back : (o : Option D) (xs ys zs : List D) → IsPermutation xs (ys ++ zs) → IsPermutation (option_to_list o ++ xs) (ys ++ (option_to_list o ++ zs))
  back None xs ys zs h = h
  back (Some d) xs ys zs h =
      IsPermutation-trans (d ∷ xs) (d ∷ (ys ++ zs)) (ys ++ d ∷ zs) (IsPermutation-cons d xs (ys ++ zs) h) (IsPermutation-sym (ys ++ d ∷ zs) (d ∷ (ys ++ zs)) (IsPermutation-middle ys d zs))

  -- the values of the elements whose number is at least k
  abbrev from_on : ℕ → List E → List D
  from_on k es = filter_map g (filter (λ e. leb k (f e)) es)

  -- the values of the elements whose number is k
  abbrev at_one : ℕ → List E → List D
  at_one k es = filter_map g (filter (λ e. eqb (f e) k) es)

  abbrev from_with : E → List E → Bool → List D
  from_with e es b = filter_map g (cond b (e ∷ es) es)

  split_step : (k : ℕ) (e : E) (es : List E) (a b c : Bool) → leb k (f e) ≡ a → eqb (f e) k ≡ b → leb (suc k) (f e) ≡ c → IsPermutation (from_on k es) (at_one k es ++ from_on (suc k) es)
      → IsPermutation (from_with e (filter (λ x. leb k (f x)) es) a) (from_with e (filter (λ x. eqb (f x) k) es) b ++ from_with e (filter (λ x. leb (suc k) (f x)) es) c)
  split_step k e es false false false p q r h = h
  split_step k e es true true false p q r h =
      let one = λ (xs : List E). shown_first e xs (g e) refl in
      rw (one (filter (λ x. leb k (f x)) es), one (filter (λ x. eqb (f x) k) es)) (front (g e) (from_on k es) (at_one k es) (from_on (suc k) es) h)
  split_step k e es true false true p q r h =
      let one = λ (xs : List E). shown_first e xs (g e) refl in
      rw (one (filter (λ x. leb k (f x)) es), one (filter (λ x. leb (suc k) (f x)) es)) (back (g e) (from_on k es) (at_one k es) (from_on (suc k) es) h)
  split_step k e es true true true p q r h = absurd (grind (arith, nat_tests, p, q, r))
  split_step k e es true false false p q r h = absurd (grind (arith, nat_tests, p, q, r))
  split_step k e es false true c p q r h = absurd (grind (arith, nat_tests, p, q, r))
  split_step k e es false false true p q r h = absurd (grind (arith, nat_tests, p, q, r))

  split_at : (k : ℕ) (es : List E) → IsPermutation (from_on k es) (at_one k es ++ from_on (suc k) es)
  split_at k [] = IsPermutation-refl []
  split_at k (e ∷ es) = split_step k e es (leb k (f e)) (eqb (f e) k) (leb (suc k) (f e)) refl refl refl (split_at k es)

  none_from : (k : ℕ) (es : List E) → AllByRecursion (λ e. f e < k) es → from_on k es ≡ []
  none_from k [] h = refl
  none_from k (e ∷ es) h = let below : leb k (f e) ≡ false = grind (arith, nat_tests, h.0) in ap (from_with e (filter (λ x. leb k (f x)) es)) below ∙ none_from k es h.1

  all_from_zero : (es : List E) → from_on 0 es ≡ filter_map g es
  all_from_zero [] = refl
  all_from_zero (e ∷ es) =
      let passes : leb 0 (f e) ≡ true = grind (arith, nat_tests) in
      ap (from_with e (filter (λ x. leb 0 (f x)) es)) passes
      ∙ shown_first e (filter (λ x. leb 0 (f x)) es) (g e) refl ∙ ap (λ ds. option_to_list (g e) ++ ds) (all_from_zero es) ∙ sym (shown_first e es (g e) refl)

  -- if the lists have the values at k, k + 1 and so on, they have together the values from k on
  gathered : {X : Type 0} (docs : X → List D) (k : ℕ) (xs : List X) (es : List E) → ((i : ℕ) (x : X) → slice_get xs i ≡ Some x → docs x ≡ at_one (k + i) es)
      → AllByRecursion (λ e. f e < k + length xs) es → IsPermutation (from_on k es) (joined (map docs xs))
  gathered docs k [] es each within =
      let bound : k + length {A = ℕ} [] ≡ k = omega arith in
      subst (λ ds. IsPermutation ds []) (sym (none_from k es (subst (λ n. AllByRecursion (λ e. f e < n) es) bound within))) (IsPermutation-refl [])
  gathered docs k (x ∷ xs) es each within =
      let first : docs x ≡ at_one k es = let z : k + 0 ≡ k = omega arith in each 0 x refl ∙ ap (λ n. at_one n es) z in
      let bound : k + length (x ∷ xs) ≡ suc k + length xs = omega arith in
      let rest = gathered docs (suc k) xs es (λ i y h. let n : k + suc i ≡ suc k + i = omega arith in each (suc i) y h ∙ ap (λ m. at_one m es) n) (subst (λ n. AllByRecursion (λ e. f e < n) es) bound within) in
      IsPermutation-trans (from_on k es) (at_one k es ++ from_on (suc k) es) (docs x ++ joined (map docs xs)) (split_at k es)
      (subst (λ ds. IsPermutation (at_one k es ++ from_on (suc k) es) (ds ++ joined (map docs xs))) (sym first) (IsPermutation-append_right (at_one k es) (from_on (suc k) es) (joined (map docs xs)) rest))

-- ---- the entries of the histories of a shard

pub entries_kept : (hs : Histories) (p : List ℕ → Bool) → entries (retain_keys hs p) ≡ where_key bytes_cmp p (entries hs)
entries_kept hs p =
    let alike = λ (q : List ℕ) (x : List ℕ) (t : bytes_cmp q x ≡ Equal). ap p (sym (bytes_exact q x t)) in
    same_entries bytes_cmp nat_list_cmp_total bytes_exact (entries (retain_keys hs p)) (where_key bytes_cmp p (entries hs)) (entries_sorted (retain_keys hs p)) (is_sorted-where_key bytes_cmp p (entries hs) (entries_sorted hs))
    (λ q. sym (get-entries (retain_keys hs p) q) ∙ get-retain_keys hs p q (alike q) ∙ ap (λ o. cond (p q) o None) (get-entries hs q) ∙ sym (find-where_key bytes_cmp p q (alike q) (entries hs)))

some_value : {X : Type 0} (o : Option X) → is_some o ≡ true → (x : X) × (o ≡ Some x)
some_value None h = absurd cc
some_value (Some x) h = (x, refl)

some_either : {X : Type 0} (b : Bool) (x : X) (o : Option X) → is_some o ≡ true → is_some (cond b (Some x) o) ≡ true
some_either true x o h = refl
some_either false x o h = h

some_first : {X : Type 0} (b : Bool) (x : X) (o : Option X) → b ≡ true → is_some (cond b (Some x) o) ≡ true
some_first b x o h = rw h

found_after : (before : List (List ℕ × Paths)) (e : List ℕ × Paths) (es : List (List ℕ × Paths)) → is_some (find bytes_cmp e.0 (before ++ e ∷ es)) ≡ true
found_after [] e es = some_first (eq_by_cmp bytes_cmp e.0 e.0) e.1 (find bytes_cmp e.0 es) (ap is_eq (tied_itself nat_list_cmp_total e.0))
found_after (x ∷ before) e es = some_either (eq_by_cmp bytes_cmp e.0 x.0) x.1 (find bytes_cmp e.0 (before ++ e ∷ es)) (found_after before e es)

each_found : (before es : List (List ℕ × Paths)) → AllByRecursion (λ e. is_some (find bytes_cmp e.0 (before ++ es)) ≡ true) es
each_found before [] = tt
each_found before (e ∷ es) =
    (found_after before e es, subst (λ all. AllByRecursion (λ x. is_some (find bytes_cmp x.0 all) ≡ true) es) (append_assoc before (e ∷ []) es) (each_found (before ++ e ∷ []) es))

-- each id that has a history is placed on one of the n shards
all_within : (place : Placing) (n : ℕ) (hs : Histories) → ((id : List ℕ) (h : Paths) → get hs id ≡ Some h → place id n < n) → AllByRecursion (λ e. place e.0 n < n) (entries hs)
all_within place n hs h =
    let placed_at = λ (e : List ℕ × Paths) (k : is_some (find bytes_cmp e.0 (entries hs)) ≡ true). let v = some_value (find bytes_cmp e.0 (entries hs)) k in h e.0 v.0 (get-entries hs e.0 ∙ v.1) in
    all_weaker (λ e. is_some (find bytes_cmp e.0 (entries hs)) ≡ true) (λ e. place e.0 n < n) placed_at (entries hs) (each_found [] (entries hs))

-- what each shard lists of its documents, by `g`, is together what `g` gives of the histories
pub dealt_by : {D : Type 0} (g : List ℕ × Paths → Option D) (listed : KeptDocuments → List D) → ((ds : KeptDocuments) (hs : Histories) → StandFor ds hs → listed ds ≡ filter_map g (entries hs))
    → (place : Placing) (shards : List ShardView) (hs : Histories) → ShardsStandFor place shards hs → IsPermutation (filter_map g (entries hs)) (joined (map (λ s. listed s.documents) shards))
dealt_by g listed same place shards hs stands =
    let n = length shards in
    let bound : n ≡ 0 + n = omega arith in
    subst (λ ds. IsPermutation ds (joined (map (λ s. listed s.documents) shards))) (all_from_zero (λ e. place e.0 n) g (entries hs))
    (gathered (λ e. place e.0 n) g (λ s. listed s.documents) 0 shards (entries hs)
    (λ i s at.
    let here : i ≡ 0 + i = omega arith in
    same s.documents (histories_on place n i hs) (stands.each i s at) ∙ ap (filter_map g) (entries_kept hs (λ id. eqb (place id n) i))
    ∙ ap (λ k. at_one (λ e. place e.0 n) g k (entries hs)) here)
    (subst (λ m. AllByRecursion (λ e. place e.0 n < m) (entries hs)) bound (all_within place n hs stands.placed)))

-- the served documents of all shards together are the served documents of the histories
pub dealt : (place : Placing) (shards : List ShardView) (hs : Histories) → ShardsStandFor place shards hs → IsPermutation (served_documents hs) (joined (map (λ s. docs_of s.documents) shards))
dealt = dealt_by served_entry docs_of same_docs

-- the deleted documents of all shards together are the deleted documents of the histories
pub deleted_dealt : (place : Placing) (shards : List ShardView) (hs : Histories) → ShardsStandFor place shards hs → IsPermutation (deleted_documents hs) (joined (map (λ s. deleted_of s.documents) shards))
deleted_dealt = dealt_by deleted_id deleted_of same_deleted
