-- Elements in order as a finite map: look-up, insertion and removal are those of the map.
use Rattle.std.proofs.Common.{◌≡◌, Bool, true, false, cond, not, ◌&&◌, T, List, [], ◌∷◌, ◌++◌, map, Some, None, option_map, Ordering, Less, Equal, Greater, is_eq, is_lt, is_gt, refl, sym, ap, ap₂, ◌∙◌, subst}
use Rattle.std.proofs.lemmas.Cmp.{alike_right, eq_by_cmp_equiv, on_total}
use Rattle.std.specs.Cmp.{IsTotalOrder}
use Rattle.std.specs.FinMap.{IsAntisymmetric, entries, get, insert, remove, find, put, is_sorted, same_entries_map, same_map, entries-from_sorted, get-from_sorted, entries-insert, get-remove}
use Rattle.std.specs.FinMap.Entries.{by_order, below_all, where_key, find-where_key}
use Rattle.std.specs.List.{AllByRecursion, filter}
use Rattle.std.specs.Ordering.{eq_by_cmp, on}
use Rattle.mg_pages.specs.Order.{Ascends, above, below, first_of_list, found, inserted, removed, probe_through}
use Rattle.mg_pages.specs.Finite.{finite}
use Rattle.mg_pages.proofs.Sorted.{all_weaker, above_of_above, above_one_less, above_one_not, below_of_above, below_none, inserted_ascends, removed_ascends}

both : (a b : Bool) → T a → T b → T (a && b)
both true b p q = q
both false b p q = p

turned : {A : Type 0} (b : Bool) (x y : A) → cond (not b) x y ≡ cond b y x
turned true x y = refl
turned false x y = refl

module _ {E K X : Type 0} {R : K → K → Ordering} (o : IsTotalOrder R) (key : E → K) (value : E → X) where
  abbrev entry : E → K × X
  entry x = (key x, value x)

  below_entries : (x : E) (xs : List E) → AllByRecursion (λ y. R (key x) (key y) ≡ Less) xs → T (below_all R (key x) (map entry xs))
  below_entries x [] h = tt
  below_entries x (y ∷ ys) h = both (is_lt (R (key x) (key y))) (below_all R (key x) (map entry ys)) (subst (λ r. T (is_lt r)) (sym h.0) tt) (below_entries x ys h.1)

  sorted_entries : (xs : List E) → Ascends (on key R) xs → T (is_sorted R (map entry xs))
  sorted_entries [] s = tt
  sorted_entries (x ∷ xs) s = both (below_all R (key x) (map entry xs)) (is_sorted R (map entry xs)) (below_entries x xs s.0) (sorted_entries xs s.1)

  pub finite_entries : (xs : List E) → Ascends (on key R) xs → entries (finite R key value xs) ≡ map entry xs
  finite_entries xs s = entries-from_sorted R (map entry xs) (sorted_entries xs s)

  find_found : (q : K) (xs : List E) → find R q (map entry xs) ≡ option_map value (found (λ x. R q (key x)) xs)
  find_found q [] = refl
  find_found q (x ∷ xs) =
      let ties = filter (λ y. is_eq (R q (key y))) xs in
      elim (is_eq (R q (key x))) as (λ b. cond b (Some (value x)) (find R q (map entry xs)) ≡ option_map value (first_of_list (cond b (x ∷ ties) ties))) [ true ↦ refl | false ↦ find_found q xs ]

  -- a look-up is that of the map
  pub finite_get : (q : K) (xs : List E) → Ascends (on key R) xs → get (finite R key value xs) q ≡ option_map value (found (λ x. R q (key x)) xs)
  finite_get q xs s = get-from_sorted R (map entry xs) q (sorted_entries xs s) ∙ find_found q xs

  put_step : IsAntisymmetric R → (x y : E) (ys : List E) (r : Ordering) → R (key x) (key y) ≡ r → Ascends (on key R) (y ∷ ys)
      → map entry (inserted (on key R) x ys) ≡ put R (key x) (value x) (map entry ys)
      → map entry (inserted (on key R) x (y ∷ ys)) ≡ by_order r (entry x ∷ entry y ∷ map entry ys) ((key y, value x) ∷ map entry ys) (entry y ∷ put R (key x) (value x) (map entry ys))
  put_step same x y ys Less e s h =
      let probe = probe_through o key (key x) in
      let all = all_weaker (λ z. R (key y) (key z) ≡ Less) (λ z. R (key x) (key z) ≡ Less) (λ z l. probe y z l (ap is_gt e)) ys s.0 in
      ap (map entry) (ap₂ (λ us vs. us ++ x ∷ vs) (below_none (on key R) (on key R x) probe y ys s (ap is_gt e)) (above_one_less (on key R x) y ys ys e (above_of_above (on key R x) ys all)))
  put_step same x y ys Equal e s h =
      let probe = probe_through o key (key x) in
      let all = all_weaker (λ z. R (key y) (key z) ≡ Less) (λ z. R (key x) (key z) ≡ Less) (λ z l. probe y z l (ap is_gt e)) ys s.0 in
      ap (map entry) (ap₂ (λ us vs. us ++ x ∷ vs) (below_none (on key R) (on key R x) probe y ys s (ap is_gt e)) (above_one_not (on key R x) y ys (ap is_lt e) ∙ above_of_above (on key R x) ys all))
      ∙ ap (λ k. (k, value x) ∷ map entry ys) (same (key x) (key y) e)
  put_step same x y ys Greater e s h =
      ap (map entry) (ap₂ (λ us vs. us ++ x ∷ vs) (ap (λ b. cond b (y ∷ below (on key R x) ys) (below (on key R x) ys)) (ap is_gt e)) (above_one_not (on key R x) y ys (ap is_lt e)))
      ∙ ap (λ us. entry y ∷ us) h

  put_inserted : IsAntisymmetric R → (x : E) (xs : List E) → Ascends (on key R) xs → map entry (inserted (on key R) x xs) ≡ put R (key x) (value x) (map entry xs)
  put_inserted same x [] s = refl
  put_inserted same x (y ∷ ys) s = put_step same x y ys (R (key x) (key y)) refl s (put_inserted same x ys s.1)

  -- an insertion is that of the map
  pub finite_inserted : IsAntisymmetric R → (x : E) (xs : List E) → Ascends (on key R) xs → finite R key value (inserted (on key R) x xs) ≡ insert (finite R key value xs) (key x) (value x)
  finite_inserted same x xs s =
      let m = finite R key value xs in
      same_entries_map (finite R key value (inserted (on key R) x xs)) (insert m (key x) (value x))
      (finite_entries (inserted (on key R) x xs) (inserted_ascends (on key R) (on_total key o) x xs s) ∙ put_inserted same x xs s
      ∙ ap (put R (key x) (value x)) (sym (finite_entries xs s)) ∙ sym (entries-insert o m (key x) (value x)))

  where_step : (q : K) (y : E) (ys : List E) (r : Ordering) → R q (key y) ≡ r → Ascends (on key R) (y ∷ ys)
      → map entry (removed (λ x. R q (key x)) ys) ≡ where_key R (λ k. not (eq_by_cmp R q k)) (map entry ys)
      → map entry (removed (λ x. R q (key x)) (y ∷ ys)) ≡ cond (not (is_eq r)) (entry y ∷ where_key R (λ k. not (eq_by_cmp R q k)) (map entry ys)) (where_key R (λ k. not (eq_by_cmp R q k)) (map entry ys))
  where_step q y ys Less e s h =
      let against = λ (x : E). R q (key x) in
      let probe = probe_through o key q in
      let all = all_weaker (λ z. R (key y) (key z) ≡ Less) (λ z. against z ≡ Less) (λ z l. probe y z l (ap is_gt e)) ys s.0 in
      ap (map entry) (ap₂ (λ us vs. us ++ vs) (below_none (on key R) against probe y ys s (ap is_gt e)) (above_one_less against y ys (above against ys) e refl))
      ∙ ap (λ us. entry y ∷ us) (sym (ap (λ us. map entry (us ++ above against ys)) (below_of_above against ys all)) ∙ h)
  where_step q y ys Equal e s h =
      let against = λ (x : E). R q (key x) in
      let probe = probe_through o key q in
      let all = all_weaker (λ z. R (key y) (key z) ≡ Less) (λ z. against z ≡ Less) (λ z l. probe y z l (ap is_gt e)) ys s.0 in
      ap (map entry) (ap₂ (λ us vs. us ++ vs) (below_none (on key R) against probe y ys s (ap is_gt e)) (above_one_not against y ys (ap is_lt e)))
      ∙ sym (ap (λ us. map entry (us ++ above against ys)) (below_of_above against ys all)) ∙ h
  where_step q y ys Greater e s h =
      let against = λ (x : E). R q (key x) in
      ap (map entry) (ap₂ (λ us vs. us ++ vs) (ap (λ b. cond b (y ∷ below against ys) (below against ys)) (ap is_gt e)) (above_one_not against y ys (ap is_lt e)))
      ∙ ap (λ us. entry y ∷ us) h

  where_removed : (q : K) (xs : List E) → Ascends (on key R) xs → map entry (removed (λ x. R q (key x)) xs) ≡ where_key R (λ k. not (eq_by_cmp R q k)) (map entry xs)
  where_removed q [] s = refl
  where_removed q (y ∷ ys) s = where_step q y ys (R q (key y)) refl s (where_removed q ys s.1)

  removed_get : (q k : K) (xs : List E) → Ascends (on key R) xs → get (finite R key value (removed (λ x. R q (key x)) xs)) k ≡ get (remove (finite R key value xs) q) k
  removed_get q k xs s =
      let es = map entry xs in
      let m = finite R key value xs in
      let rest = removed (λ x. R q (key x)) xs in
      get-from_sorted R (map entry rest) k (sorted_entries rest (removed_ascends (on key R) (λ x. R q (key x)) (probe_through o key q) xs s))
      ∙ ap (find R k) (where_removed q xs s)
      ∙ find-where_key R (λ x. not (eq_by_cmp R q x)) k (λ x t. ap (λ r. not (is_eq r)) (sym (alike_right o k x q t))) es
      ∙ turned (eq_by_cmp R q k) (find R k es) None ∙ ap (λ b. cond b None (find R k es)) ((eq_by_cmp_equiv o).symm q k)
      ∙ sym (get-remove o m q k ∙ ap (cond (eq_by_cmp R k q) None) (get-from_sorted R es k (sorted_entries xs s)))

  -- a removal is that of the map
  pub finite_removed : IsAntisymmetric R → (q : K) (xs : List E) → Ascends (on key R) xs → finite R key value (removed (λ x. R q (key x)) xs) ≡ remove (finite R key value xs) q
  finite_removed same q xs s = same_map o same (finite R key value (removed (λ x. R q (key x)) xs)) (remove (finite R key value xs) q) (λ k. removed_get q k xs s)
