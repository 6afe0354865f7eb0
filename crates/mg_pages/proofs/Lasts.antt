-- The last element of a list, and of a list after an insertion or a removal.
use Rattle.std.proofs.Common.{◌≡◌, ◌+◌, ◌-◌, ◌<◌, List, [], ◌∷◌, ◌++◌, length, take, drop, get_or, false, Ordering, Less, Equal, is_lt, is_gt, Some, refl, sym, ap, ap₂, ◌∙◌, subst, arith, append_assoc, append-nil}
use Rattle.std.proofs.lemmas.List.{drop_all}
use Rattle.std.proofs.lemmas.List.Elements.{filter-append}
use Rattle.std.specs.Cmp.{IsTotalOrder}
use Rattle.mg_pages.specs.Order.{IsProbe, Ascends, above, below, found, inserted, removed, probe_from_total}
use Rattle.mg_pages.specs.Search.{IsAmong}
use Rattle.mg_pages.specs.Runs.{IsEndRun}
use Rattle.mg_pages.specs.Subtree.{IsLast}
use Rattle.mg_pages.proofs.Levels.{last_of_end}
use Rattle.mg_pages.proofs.Sorted.{above_first, found_cut, found_one, split_at, above_of_below, above_one_less, above_one_not, before_one}

-- the element at the last place is the last of a list
pub last_at : {T : Type 0} (xs : List T) (x : T) → 0 < length xs → x ≡ get_or xs (length xs - 1) x → IsLast x xs
last_at xs x n e =
    let i = length xs - 1 in
    let rest : drop (i + 1) xs ≡ [] = drop_all (i + 1) xs (omega arith) in
    record { front = take i xs; is = split_at xs i x (omega arith) e ∙ ap (λ us. take i xs ++ x ∷ us) rest }

module _ {T : Type 0} (against : T → Ordering) (l : T) (xs : List T) (it : IsLast l xs) where
  -- the last is also the last of the elements above a key, where the key is below it
  above_last : against l ≡ Less → IsLast l (above against xs)
  above_last e = record {
    front = above against it.front;
    is = ap (above against) it.is ∙ filter-append (λ y. is_lt (against y)) it.front (l ∷ []) ∙ ap (λ us. above against it.front ++ us) (above_one_less against l [] [] e refl);
  }

  -- nothing is above a key that is not below the last
  above_none : (order : T → T → Ordering) → IsProbe order against → Ascends order xs → is_lt (against l) ≡ false → above against xs ≡ []
  above_none order p s n =
      let low = before_one order against p it.front l [] (subst (Ascends order) it.is s) n in
      ap (above against) it.is ∙ filter-append (λ y. is_lt (against y)) it.front (l ∷ []) ∙ ap₂ (λ us vs. us ++ vs) (above_of_below against it.front low) (above_one_not against l [] n)

  -- a removal keeps the last, where the key is below it
  pub removed_below_last : against l ≡ Less → IsLast l (removed against xs)
  removed_below_last e = last_of_end (removed against xs) (below against xs) (above against xs) l refl (above_last e)

  -- a removal leaves the elements below the key, where the key is not below the last
  pub removed_at_last : (order : T → T → Ordering) → IsProbe order against → Ascends order xs → is_lt (against l) ≡ false → removed against xs ≡ below against xs
  removed_at_last order p s n = ap (λ us. below against xs ++ us) (above_none order p s n) ∙ append-nil (below against xs)

module _ {T : Type 0} (order : T → T → Ordering) (x l : T) (xs : List T) (it : IsLast l xs) where
  -- an insertion keeps the last, where the new element is below it
  pub inserted_below_last : order x l ≡ Less → IsLast l (inserted order x xs)
  inserted_below_last e =
      let a = above_last (order x) l xs it e in
      last_of_end (inserted order x xs) (below (order x) xs ++ x ∷ []) (above (order x) xs) l (sym (append_assoc (below (order x) xs) (x ∷ []) (above (order x) xs))) a

  -- the new element is the last, where it is not below the last
  pub inserted_at_last : IsTotalOrder order → Ascends order xs → is_lt (order x l) ≡ false → IsLast x (inserted order x xs)
  inserted_at_last o s n = record {
    front = below (order x) xs;
    is = ap (λ us. below (order x) xs ++ x ∷ us) (above_none (order x) l xs it order (probe_from_total o x) s n);
  }

-- the last of a run that ends a list is the last of the list
pub removed_run_last : {T : Type 0} (xs low run : List T) (x : T) → xs ≡ low → IsEndRun run low → 0 < length run → x ≡ get_or run (length run - 1) x → IsLast x xs
removed_run_last xs low run x e r n at = last_of_end xs r.rest run x (e ∙ r.is) (last_at run x n at)

-- where that run is empty, the list is empty
pub removed_run_none : {T : Type 0} (xs low run : List T) → xs ≡ low → IsEndRun run low → length run ≡ 0 → xs ≡ []
removed_run_none xs low run e r n = e ∙ r.some n

-- an element that ties with the key is the one that is found
pub found_among : {T : Type 0} (order : T → T → Ordering) (against : T → Ordering) → IsProbe order against → (xs : List T) (x : T) → Ascends order xs → IsAmong xs x → against x ≡ Equal → found against xs ≡ Some x
found_among order against p xs x s it e =
    let rises = subst (Ascends order) it.is s in
    let low = before_one order against p it.front x it.rest rises (ap is_lt e) in
    let high = above_first order against p it.front x it.rest rises (ap is_gt e) in
    ap (found against) it.is ∙ found_cut against it.front (x ∷ []) it.rest low high ∙ found_one against x e
