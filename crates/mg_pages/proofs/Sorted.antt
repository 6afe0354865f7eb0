-- Ascending lists, and keys in them.
use Rattle.std.proofs.Common.{◌≡◌, ℕ, ◌+◌, ◌<◌, length, take, drop, Some, None, is_some, cond, append_assoc, append-nil, set, get_or, List, [], ◌∷◌, ◌++◌, Bool, true, false, Ordering, Less, Equal, Greater, is_eq, is_lt, is_gt, refl, sym, ap, ap₂, ◌∙◌, subst, arith}
use Rattle.std.proofs.lemmas.List.{drop_more, length-append, take_more, take-append-drop, take-set, drop-set}
use Rattle.std.proofs.lemmas.List.Elements.{filter-append}
use Rattle.std.proofs.lemmas.Cmp.{tied_itself}
use Rattle.std.specs.Cmp.{IsTotalOrder}
use Rattle.std.specs.List.{AllByRecursion, filter}
use Rattle.std.specs.Ordering.{ordering_reverse}
use Rattle.mg_pages.specs.Order.{below, above, inserted, removed, found, first_of_list, probe_from_total, IsProbe, Ascends}
use Rattle.mg_pages.specs.Search.{IsTie, BelongsAt, AllBelow, AllAbove}
use Rattle.mg_pages.specs.Runs.{continued, continued_after, ended}

pub set_is : {X : Type 0} (xs : List X) (i : ℕ) (q : X) → i < length xs → set xs i q ≡ take i xs ++ q ∷ drop (i + 1) xs
set_is xs i q l = sym (take-append-drop i (set xs i q)) ∙ ap₂ (λ us vs. us ++ vs) (take-set xs i q) (drop-set xs i q l)

pub split_at : {X : Type 0} (xs : List X) (i : ℕ) (p : X) → i < length xs → p ≡ get_or xs i p → xs ≡ take i xs ++ p ∷ drop (i + 1) xs
split_at xs i p l e = sym (take-append-drop i xs) ∙ ap (λ ys. take i xs ++ ys) (drop_more xs i p l ∙ ap (λ q. q ∷ drop (i + 1) xs) (sym e))

pub take_one_more : {X : Type 0} (xs : List X) (i : ℕ) (p : X) → i < length xs → p ≡ get_or xs i p → take (i + 1) xs ≡ take i xs ++ p ∷ []
take_one_more xs i p l e = take_more xs i p l ∙ ap (λ q. take i xs ++ q ∷ []) (sym e)

pub all_left : {X : Type 0} (P : X → Type 0) (xs ys : List X) → AllByRecursion P (xs ++ ys) → AllByRecursion P xs
all_left P [] ys h = tt
all_left P (x ∷ xs) ys h = (h.0, all_left P xs ys h.1)

pub all_right : {X : Type 0} (P : X → Type 0) (xs ys : List X) → AllByRecursion P (xs ++ ys) → AllByRecursion P ys
all_right P [] ys h = h
all_right P (x ∷ xs) ys h = all_right P xs ys h.1

pub all_append : {X : Type 0} (P : X → Type 0) (xs ys : List X) → AllByRecursion P xs → AllByRecursion P ys → AllByRecursion P (xs ++ ys)
all_append P [] ys h k = k
all_append P (x ∷ xs) ys h k = (h.0, all_append P xs ys h.1 k)

pub all_weaker : {X : Type 0} (P Q : X → Type 0) → ((x : X) → P x → Q x) → (xs : List X) → AllByRecursion P xs → AllByRecursion Q xs
all_weaker P Q w [] h = tt
all_weaker P Q w (x ∷ xs) h = (w x h.0, all_weaker P Q w xs h.1)

pub ascends_left : {T : Type 0} (order : T → T → Ordering) (xs ys : List T) → Ascends order (xs ++ ys) → Ascends order xs
ascends_left order [] ys h = tt
ascends_left order (x ∷ xs) ys h = (all_left _ xs ys h.0, ascends_left order xs ys h.1)

pub ascends_right : {T : Type 0} (order : T → T → Ordering) (xs ys : List T) → Ascends order (xs ++ ys) → Ascends order ys
ascends_right order [] ys h = h
ascends_right order (x ∷ xs) ys h = ascends_right order xs ys h.1

-- a key that is above the last element is above all
below_one : {T : Type 0} (order : T → T → Ordering) (against : T → Ordering) → IsProbe order against → (x y : T) (r : Ordering) → against x ≡ r → order x y ≡ Less → against y ≡ Greater → against x ≡ Greater
below_one order against p x y Greater e l g = e
below_one order against p x y Less e l g = absurd (let n : is_gt (against x) ≡ false = ap is_gt e in let k : against y ≡ Less = p x y l n in cc)
below_one order against p x y Equal e l g = absurd (let n : is_gt (against x) ≡ false = ap is_gt e in let k : against y ≡ Less = p x y l n in cc)

pub below_last : {T : Type 0} (order : T → T → Ordering) (against : T → Ordering) → IsProbe order against → (xs : List T) (y : T) → Ascends order (xs ++ y ∷ []) → against y ≡ Greater → AllBelow against (xs ++ y ∷ [])
below_last order against p [] y s g = (g, tt)
below_last order against p (x ∷ xs) y s g = (below_one order against p x y (against x) refl (all_right (λ z. order x z ≡ Less) xs (y ∷ []) s.0).0 g, below_last order against p xs y s.1 g)

-- a key that is not above an element is below all that come after it
pub above_first : {T : Type 0} (order : T → T → Ordering) (against : T → Ordering) → IsProbe order against → (xs : List T) (y : T) (zs : List T) → Ascends order (xs ++ y ∷ zs) → is_gt (against y) ≡ false → AllAbove against zs
above_first order against p xs y zs s n = all_weaker (λ z. order y z ≡ Less) (λ z. against z ≡ Less) (λ z l. p y z l n) zs (ascends_right order xs (y ∷ zs) s).0

pub greater_from_test : (r : Ordering) → is_gt r ≡ true → r ≡ Greater
greater_from_test Greater h = refl
greater_from_test Less h = absurd cc
greater_from_test Equal h = absurd cc

-- ---- the elements that a key is above, below, or ties with

filter_keeps_all : {X : Type 0} (test : X → Bool) (P : X → Type 0) → ((x : X) → P x → test x ≡ true) → (xs : List X) → AllByRecursion P xs → filter test xs ≡ xs
filter_keeps_all test P w [] h = refl
filter_keeps_all test P w (x ∷ xs) h = ap (λ b. cond b (x ∷ filter test xs) (filter test xs)) (w x h.0) ∙ ap (λ ys. x ∷ ys) (filter_keeps_all test P w xs h.1)

filter_keeps_none : {X : Type 0} (test : X → Bool) (P : X → Type 0) → ((x : X) → P x → test x ≡ false) → (xs : List X) → AllByRecursion P xs → filter test xs ≡ []
filter_keeps_none test P w [] h = refl
filter_keeps_none test P w (x ∷ xs) h = ap (λ b. cond b (x ∷ filter test xs) (filter test xs)) (w x h.0) ∙ filter_keeps_none test P w xs h.1

module _ {T : Type 0} (against : T → Ordering) where
  pub below_of_below : (xs : List T) → AllBelow against xs → below against xs ≡ xs
  below_of_below xs h = filter_keeps_all (λ x. is_gt (against x)) (λ x. against x ≡ Greater) (λ x e. ap is_gt e) xs h

  pub above_of_below : (xs : List T) → AllBelow against xs → above against xs ≡ []
  above_of_below xs h = filter_keeps_none (λ x. is_lt (against x)) (λ x. against x ≡ Greater) (λ x e. ap is_lt e) xs h

  tied_of_below : (xs : List T) → AllBelow against xs → filter (λ x. is_eq (against x)) xs ≡ []
  tied_of_below xs h = filter_keeps_none (λ x. is_eq (against x)) (λ x. against x ≡ Greater) (λ x e. ap is_eq e) xs h

  pub below_of_above : (xs : List T) → AllAbove against xs → below against xs ≡ []
  below_of_above xs h = filter_keeps_none (λ x. is_gt (against x)) (λ x. against x ≡ Less) (λ x e. ap is_gt e) xs h

  pub above_of_above : (xs : List T) → AllAbove against xs → above against xs ≡ xs
  above_of_above xs h = filter_keeps_all (λ x. is_lt (against x)) (λ x. against x ≡ Less) (λ x e. ap is_lt e) xs h

  tied_of_above : (xs : List T) → AllAbove against xs → filter (λ x. is_eq (against x)) xs ≡ []
  tied_of_above xs h = filter_keeps_none (λ x. is_eq (against x)) (λ x. against x ≡ Less) (λ x e. ap is_eq e) xs h

  filter_cut : (test : T → Bool) (front mid rest : List T) → filter test (front ++ (mid ++ rest)) ≡ filter test front ++ (filter test mid ++ filter test rest)
  filter_cut test front mid rest = filter-append test front (mid ++ rest) ∙ ap (λ xs. filter test front ++ xs) (filter-append test mid rest)

  -- where a key is above all of `front` and below all of `rest`, only `mid` has to be filtered
  pub below_cut : (front mid rest : List T) → AllBelow against front → AllAbove against rest → below against (front ++ (mid ++ rest)) ≡ front ++ below against mid
  below_cut front mid rest low high =
      filter_cut (λ x. is_gt (against x)) front mid rest ∙ ap₂ (λ us vs. us ++ (below against mid ++ vs)) (below_of_below front low) (below_of_above rest high)
      ∙ ap (λ xs. front ++ xs) (append-nil (below against mid))

  pub above_cut : (front mid rest : List T) → AllBelow against front → AllAbove against rest → above against (front ++ (mid ++ rest)) ≡ above against mid ++ rest
  above_cut front mid rest low high =
      filter_cut (λ x. is_lt (against x)) front mid rest ∙ ap₂ (λ us vs. us ++ (above against mid ++ vs)) (above_of_below front low) (above_of_above rest high)

  pub found_cut : (front mid rest : List T) → AllBelow against front → AllAbove against rest → found against (front ++ (mid ++ rest)) ≡ found against mid
  found_cut front mid rest low high =
      ap first_of_list (filter_cut (λ x. is_eq (against x)) front mid rest ∙ ap₂ (λ us vs. us ++ (filter (λ x. is_eq (against x)) mid ++ vs)) (tied_of_below front low) (tied_of_above rest high) ∙ append-nil (filter (λ x. is_eq (against x)) mid))

  pub found_one : (x : T) → against x ≡ Equal → found against (x ∷ []) ≡ Some x
  found_one x e = ap (λ b. first_of_list (cond b (x ∷ []) [])) (ap is_eq e)

  below_one_tied : (x : T) → against x ≡ Equal → below against (x ∷ []) ≡ []
  below_one_tied x e = ap (λ b. cond b (x ∷ []) []) (ap is_gt e)

  above_one_tied : (x : T) → against x ≡ Equal → above against (x ∷ []) ≡ []
  above_one_tied x e = ap (λ b. cond b (x ∷ []) []) (ap is_lt e)

pub inserted_cut : {T : Type 0} (order : T → T → Ordering) (x : T) (front mid rest : List T) → AllBelow (order x) front → AllAbove (order x) rest → inserted order x (front ++ (mid ++ rest)) ≡ front ++ (inserted order x mid ++ rest)
inserted_cut order x front mid rest low high =
    ap₂ (λ us vs. us ++ x ∷ vs) (below_cut (order x) front mid rest low high) (above_cut (order x) front mid rest low high)
    ∙ append_assoc front (below (order x) mid) (x ∷ (above (order x) mid ++ rest)) ∙ ap (λ xs. front ++ xs) (sym (append_assoc (below (order x) mid) (x ∷ above (order x) mid) rest))

pub inserted_gap : {T : Type 0} (order : T → T → Ordering) (x : T) (xs : List T) (i : ℕ) → BelongsAt (order x) xs i → inserted order x xs ≡ take i xs ++ x ∷ drop i xs
inserted_gap order x xs i gap = ap (inserted order x) (sym (take-append-drop i xs)) ∙ inserted_cut order x (take i xs) [] (drop i xs) gap.before gap.after

pub inserted_tie : {T : Type 0} (order : T → T → Ordering) (x : T) (xs : List T) (i : ℕ) → IsTie (order x) xs i → inserted order x xs ≡ take i xs ++ x ∷ drop (i + 1) xs
inserted_tie order x xs i tie =
    let one : inserted order x (tie.element ∷ []) ≡ x ∷ [] = ap₂ (λ us vs. us ++ x ∷ vs) (below_one_tied (order x) tie.element tie.ties) (above_one_tied (order x) tie.element tie.ties) in
    ap (inserted order x) tie.is ∙ inserted_cut order x (take i xs) (tie.element ∷ []) (drop (i + 1) xs) tie.before tie.after ∙ ap (λ ys. take i xs ++ (ys ++ drop (i + 1) xs)) one

pub found_gap : {T : Type 0} (against : T → Ordering) (xs : List T) (i : ℕ) → BelongsAt against xs i → found against xs ≡ None
found_gap against xs i gap = ap (found against) (sym (take-append-drop i xs)) ∙ found_cut against (take i xs) [] (drop i xs) gap.before gap.after

pub found_tie : {T : Type 0} (against : T → Ordering) (xs : List T) (i : ℕ) (tie : IsTie against xs i) → found against xs ≡ Some tie.element
found_tie against xs i tie = ap (found against) tie.is ∙ found_cut against (take i xs) (tie.element ∷ []) (drop (i + 1) xs) tie.before tie.after ∙ found_one against tie.element tie.ties

-- ---- the search in a page

module _ {T : Type 0} (order : T → T → Ordering) (against : T → Ordering) (probe : IsProbe order against) where
  -- a key that is not below an element is above all that come before it
  not_below_one : (x y : T) (r : Ordering) → against x ≡ r → order x y ≡ Less → is_lt (against y) ≡ false → against x ≡ Greater
  not_below_one x y Greater e l n = e
  not_below_one x y Less e l n = absurd (let m : is_gt (against x) ≡ false = ap is_gt e in let k : is_lt (against y) ≡ true = ap is_lt (probe x y l m) in cc)
  not_below_one x y Equal e l n = absurd (let m : is_gt (against x) ≡ false = ap is_gt e in let k : is_lt (against y) ≡ true = ap is_lt (probe x y l m) in cc)

  pub before_one : (xs : List T) (y : T) (zs : List T) → Ascends order (xs ++ y ∷ zs) → is_lt (against y) ≡ false → AllBelow against xs
  before_one [] y zs s n = tt
  before_one (x ∷ xs) y zs s n = (not_below_one x y (against x) refl (all_right (λ z. order x z ≡ Less) xs (y ∷ zs) s.0).0 n, before_one xs y zs s.1 n)

  pub before_at : (xs : List T) (i : ℕ) (y : T) → xs ≡ take i xs ++ y ∷ drop (i + 1) xs → Ascends order xs → is_lt (against y) ≡ false → AllBelow against (take i xs)
  before_at xs i y e s n = before_one (take i xs) y (drop (i + 1) xs) (subst (Ascends order) e s) n

  pub after_at : (xs : List T) (i : ℕ) (y : T) → xs ≡ take i xs ++ y ∷ drop (i + 1) xs → Ascends order xs → is_gt (against y) ≡ false → AllAbove against (drop (i + 1) xs)
  after_at xs i y e s n = above_first order against probe (take i xs) y (drop (i + 1) xs) (subst (Ascends order) e s) n

  pub below_upto : (xs : List T) (i : ℕ) (y : T) → i < length xs → y ≡ get_or xs i y → Ascends order xs → against y ≡ Greater → AllBelow against (take (i + 1) xs)
  below_upto xs i y l e s g =
      let split : xs ≡ take i xs ++ y ∷ drop (i + 1) xs = split_at xs i y l e in
      subst (AllBelow against) (sym (take_one_more xs i y l e)) (all_append (λ x. against x ≡ Greater) (take i xs) (y ∷ []) (before_at xs i y split s (ap is_lt g)) (g, tt))

  pub above_from : (xs : List T) (i : ℕ) (y : T) → i < length xs → y ≡ get_or xs i y → Ascends order xs → against y ≡ Less → AllAbove against (drop i xs)
  above_from xs i y l e s h =
      let split : xs ≡ take i xs ++ y ∷ drop (i + 1) xs = split_at xs i y l e in
      subst (AllAbove against) (sym (drop_more xs i y l ∙ ap (λ q. q ∷ drop (i + 1) xs) (sym e))) (h, after_at xs i y split s (ap is_gt h))

-- ---- an insertion keeps the order

all_cond : {T : Type 0} (P : T → Type 0) (b : Bool) (x : T) (ys : List T) → P x → AllByRecursion P ys → AllByRecursion P (cond b (x ∷ ys) ys)
all_cond P true x ys p h = (p, h)
all_cond P false x ys p h = h

all_filter : {T : Type 0} (P : T → Type 0) (test : T → Bool) (xs : List T) → AllByRecursion P xs → AllByRecursion P (filter test xs)
all_filter P test [] h = tt
all_filter P test (x ∷ xs) h = all_cond P (test x) x (filter test xs) h.0 (all_filter P test xs h.1)

filter_one : {T : Type 0} (order : T → T → Ordering) (test : T → Bool) (x : T) (xs : List T) (b : Bool) → Ascends order (x ∷ xs) → Ascends order (filter test xs) → Ascends order (cond b (x ∷ filter test xs) (filter test xs))
filter_one order test x xs true s h = (all_filter (λ y. order x y ≡ Less) test xs s.0, h)
filter_one order test x xs false s h = h

ascends_filter : {T : Type 0} (order : T → T → Ordering) (test : T → Bool) (xs : List T) → Ascends order xs → Ascends order (filter test xs)
ascends_filter order test [] s = tt
ascends_filter order test (x ∷ xs) s = filter_one order test x xs (test x) s (ascends_filter order test xs s.1)

-- what passes a filter, passes its test
pass_one : {T : Type 0} (test : T → Bool) (x : T) (ys : List T) (b : Bool) → test x ≡ b → AllByRecursion (λ y. test y ≡ true) ys → AllByRecursion (λ y. test y ≡ true) (cond b (x ∷ ys) ys)
pass_one test x ys true e h = (e, h)
pass_one test x ys false e h = h

all_pass : {T : Type 0} (test : T → Bool) (xs : List T) → AllByRecursion (λ x. test x ≡ true) (filter test xs)
all_pass test [] = tt
all_pass test (x ∷ xs) = pass_one test x (filter test xs) (test x) refl (all_pass test xs)

pub equal_from_test : (r : Ordering) → is_eq r ≡ true → r ≡ Equal
equal_from_test Equal h = refl
equal_from_test Less h = absurd cc
equal_from_test Greater h = absurd cc

pub less_from_test : (r : Ordering) → is_lt r ≡ true → r ≡ Less
less_from_test Less h = refl
less_from_test Equal h = absurd cc
less_from_test Greater h = absurd cc

turned : (a b : Ordering) → a ≡ ordering_reverse b → is_gt b ≡ true → a ≡ Less
turned a Greater e h = e
turned a Equal e h = absurd cc
turned a Less e h = absurd cc

ascends_joined : {T : Type 0} (order : T → T → Ordering) (us : List T) (x : T) (vs : List T) → IsTotalOrder order → Ascends order us → AllByRecursion (λ u. order u x ≡ Less) us → AllByRecursion (λ v. order x v ≡ Less) vs → Ascends order vs → Ascends order (us ++ x ∷ vs)
ascends_joined order [] x vs o s h k t = (k, t)
ascends_joined order (u ∷ us) x vs o s h k t = (
  all_append (λ y. order u y ≡ Less) us (x ∷ vs) s.0 (h.0, all_weaker (λ v. order x v ≡ Less) (λ v. order u v ≡ Less) (λ v l. o.trans u x v h.0 l) vs k),
  ascends_joined order us x vs o s.1 h.1 k t,
)

pub inserted_ascends : {T : Type 0} (order : T → T → Ordering) → IsTotalOrder order → (x : T) (xs : List T) → Ascends order xs → Ascends order (inserted order x xs)
inserted_ascends order o x xs s =
    ascends_joined order (below (order x) xs) x (above (order x) xs) o (ascends_filter order (λ y. is_gt (order x y)) xs s)
    (all_weaker (λ y. is_gt (order x y) ≡ true) (λ y. order y x ≡ Less) (λ y h. turned (order y x) (order x y) (o.antisymm y x) h) (below (order x) xs) (all_pass (λ y. is_gt (order x y)) xs))
    (all_weaker (λ y. is_lt (order x y) ≡ true) (λ y. order x y ≡ Less) (λ y h. less_from_test (order x y) h) (above (order x) xs) (all_pass (λ y. is_lt (order x y)) xs))
    (ascends_filter order (λ y. is_lt (order x y)) xs s)

-- ---- runs

pub above_one_less : {T : Type 0} (against : T → Ordering) (x : T) (xs ys : List T) → against x ≡ Less → above against xs ≡ ys → above against (x ∷ xs) ≡ x ∷ ys
above_one_less against x xs ys e h = ap (λ b. cond b (x ∷ above against xs) (above against xs)) (ap is_lt e) ∙ ap (λ us. x ∷ us) h

pub above_one_not : {T : Type 0} (against : T → Ordering) (x : T) (xs : List T) → is_lt (against x) ≡ false → above against (x ∷ xs) ≡ above against xs
above_one_not against x xs e = ap (λ b. cond b (x ∷ above against xs) (above against xs)) e

module _ {T : Type 0} (order : T → T → Ordering) (against : T → Ordering) (probe : IsProbe order against) where
  -- the elements above a key end an ascending list
  suffix_step : (x : T) (xs : List T) (r : Ordering) → against x ≡ r → Ascends order (x ∷ xs) → ((pre : List T) × (xs ≡ pre ++ above against xs)) → (pre : List T) × (x ∷ xs ≡ pre ++ above against (x ∷ xs))
  suffix_step x xs Less e s h =
      let n : is_gt (against x) ≡ false = ap is_gt e in
      ([], sym (above_one_less against x xs xs e (above_of_above against xs (all_weaker (λ z. order x z ≡ Less) (λ z. against z ≡ Less) (λ z l. probe x z l n) xs s.0))))
  suffix_step x xs Equal e s h = (x ∷ h.0, ap (λ us. x ∷ us) (h.1 ∙ ap (λ us. h.0 ++ us) (sym (above_one_not against x xs (ap is_lt e)))))
  suffix_step x xs Greater e s h = (x ∷ h.0, ap (λ us. x ∷ us) (h.1 ∙ ap (λ us. h.0 ++ us) (sym (above_one_not against x xs (ap is_lt e)))))

  pub above_suffix : (xs : List T) → Ascends order xs → (pre : List T) × (xs ≡ pre ++ above against xs)
  above_suffix [] s = ([], refl)
  above_suffix (x ∷ xs) s = suffix_step x xs (against x) refl s (above_suffix xs s.1)

module _ {T : Type 0} (order : T → T → Ordering) (o : IsTotalOrder order) where
  -- in an ascending list, the elements after an element are those above it
  pub above_element : (pre : List T) (x : T) (rest : List T) → Ascends order (pre ++ x ∷ rest) → above (order x) (pre ++ x ∷ rest) ≡ rest
  above_element pre x rest s =
      let tie : order x x ≡ Equal = tied_itself o x in
      above_cut (order x) pre (x ∷ []) rest (before_one order (order x) (probe_from_total o x) pre x rest s (ap is_lt tie)) (ascends_right order pre (x ∷ rest) s).0
      ∙ ap (λ us. us ++ rest) (above_one_tied (order x) x tie)

  continued_run : (xs pre : List T) (x : T) (run rest : List T) → xs ≡ pre ++ x ∷ (run ++ rest) → Ascends order xs → continued_after order xs x run ≡ run ++ rest
  continued_run xs pre x [] rest e s = ap (above (order x)) e ∙ above_element pre x rest (subst (Ascends order) e s)
  continued_run xs pre x (y ∷ run) rest e s = ap (λ us. y ∷ us) (continued_run xs (pre ++ x ∷ []) y run rest (e ∙ sym (append_assoc pre (x ∷ []) (y ∷ (run ++ rest)))) s)

  pub continued_is : (xs pre run rest : List T) → xs ≡ pre ++ (run ++ rest) → Ascends order xs → (length run ≡ 0 → run ++ rest ≡ []) → continued order xs run ≡ run ++ rest
  continued_is xs pre [] rest e s h = sym (h refl)
  continued_is xs pre (x ∷ run) rest e s h = ap (λ us. x ∷ us) (continued_run xs pre x run rest e s)

pub above_gap : {T : Type 0} (against : T → Ordering) (xs : List T) (i : ℕ) → BelongsAt against xs i → above against xs ≡ drop i xs
above_gap against xs i gap = ap (above against) (sym (take-append-drop i xs)) ∙ above_cut against (take i xs) [] (drop i xs) gap.before gap.after

pub above_tie : {T : Type 0} (against : T → Ordering) (xs : List T) (i : ℕ) → IsTie against xs i → above against xs ≡ drop (i + 1) xs
above_tie against xs i tie = ap (above against) tie.is ∙ above_cut against (take i xs) (tie.element ∷ []) (drop (i + 1) xs) tie.before tie.after ∙ ap (λ us. us ++ drop (i + 1) xs) (above_one_tied against tie.element tie.ties)

-- ---- removals

pub removed_cut : {T : Type 0} (against : T → Ordering) (front mid rest : List T) → AllBelow against front → AllAbove against rest → removed against (front ++ (mid ++ rest)) ≡ front ++ (removed against mid ++ rest)
removed_cut against front mid rest low high =
    ap₂ (λ us vs. us ++ vs) (below_cut against front mid rest low high) (above_cut against front mid rest low high)
    ∙ append_assoc front (below against mid) (above against mid ++ rest) ∙ ap (λ xs. front ++ xs) (sym (append_assoc (below against mid) (above against mid) rest))

pub removed_gap : {T : Type 0} (against : T → Ordering) (xs : List T) (i : ℕ) → BelongsAt against xs i → removed against xs ≡ xs
removed_gap against xs i gap = ap (removed against) (sym (take-append-drop i xs)) ∙ removed_cut against (take i xs) [] (drop i xs) gap.before gap.after ∙ take-append-drop i xs

pub removed_tie : {T : Type 0} (against : T → Ordering) (xs : List T) (i : ℕ) → IsTie against xs i → removed against xs ≡ take i xs ++ drop (i + 1) xs
removed_tie against xs i tie =
    let none : removed against (tie.element ∷ []) ≡ [] = ap₂ (λ us vs. us ++ vs) (below_one_tied against tie.element tie.ties) (above_one_tied against tie.element tie.ties) in
    ap (removed against) tie.is ∙ removed_cut against (take i xs) (tie.element ∷ []) (drop (i + 1) xs) tie.before tie.after ∙ ap (λ ys. take i xs ++ (ys ++ drop (i + 1) xs)) none

front_one : {T : Type 0} (order : T → T → Ordering) (x : T) (us ys : List T) (b : Bool) → AllByRecursion (λ y. order x y ≡ Less) (us ++ ys) → Ascends order (us ++ ys) → Ascends order (cond b (x ∷ us) us ++ ys)
front_one order x us ys true h s = (h, s)
front_one order x us ys false h s = s

ascends_filter_front : {T : Type 0} (order : T → T → Ordering) (test : T → Bool) (xs ys : List T) → Ascends order (xs ++ ys) → Ascends order (filter test xs ++ ys)
ascends_filter_front order test [] ys s = s
ascends_filter_front order test (x ∷ xs) ys s = front_one order x (filter test xs) ys (test x)
    (all_append (λ y. order x y ≡ Less) (filter test xs) ys (all_filter (λ y. order x y ≡ Less) test xs (all_left (λ y. order x y ≡ Less) xs ys s.0)) (all_right (λ y. order x y ≡ Less) xs ys s.0))
    (ascends_filter_front order test xs ys s.1)

not_both : (r : Ordering) → is_lt r ≡ true → is_gt r ≡ false
not_both Less h = refl
not_both Equal h = refl
not_both Greater h = absurd cc

pub removed_ascends : {T : Type 0} (order : T → T → Ordering) (against : T → Ordering) → IsProbe order against → (xs : List T) → Ascends order xs → Ascends order (removed against xs)
removed_ascends order against p xs s =
    let cut = above_suffix order against p xs s in
    let rest = above against xs in
    let none : below against rest ≡ [] = filter_keeps_none (λ x. is_gt (against x)) (λ x. is_lt (against x) ≡ true) (λ x h. not_both (against x) h) rest (all_pass (λ x. is_lt (against x)) xs) in
    let low : below against xs ≡ below against cut.0 = ap (below against) cut.1 ∙ filter-append (λ x. is_gt (against x)) cut.0 rest ∙ ap (λ us. below against cut.0 ++ us) none ∙ append-nil (below against cut.0) in
    subst (λ us. Ascends order (us ++ rest)) (sym low) (ascends_filter_front order (λ x. is_gt (against x)) cut.0 rest (subst (Ascends order) cut.1 s))

-- ---- runs from the end

pub below_gap : {T : Type 0} (against : T → Ordering) (xs : List T) (i : ℕ) → BelongsAt against xs i → below against xs ≡ take i xs
below_gap against xs i gap = ap (below against) (sym (take-append-drop i xs)) ∙ below_cut against (take i xs) [] (drop i xs) gap.before gap.after ∙ append-nil (take i xs)

pub below_tie : {T : Type 0} (against : T → Ordering) (xs : List T) (i : ℕ) → IsTie against xs i → below against xs ≡ take i xs
below_tie against xs i tie = ap (below against) tie.is ∙ below_cut against (take i xs) (tie.element ∷ []) (drop (i + 1) xs) tie.before tie.after ∙ ap (λ us. take i xs ++ us) (below_one_tied against tie.element tie.ties) ∙ append-nil (take i xs)

module _ {T : Type 0} (order : T → T → Ordering) (against : T → Ordering) (probe : IsProbe order against) where
  -- a key that is not above an element is above none of those after it
  pub below_none : (x : T) (xs : List T) → Ascends order (x ∷ xs) → is_gt (against x) ≡ false → below against (x ∷ xs) ≡ []
  below_none x xs s n =
      ap (λ b. cond b (x ∷ below against xs) (below against xs)) n ∙ below_of_above against xs (all_weaker (λ z. order x z ≡ Less) (λ z. against z ≡ Less) (λ z l. probe x z l n) xs s.0)

  prefix_step : (x : T) (xs : List T) (b : Bool) → is_gt (against x) ≡ b → Ascends order (x ∷ xs) → ((post : List T) × (xs ≡ below against xs ++ post)) → (post : List T) × (x ∷ xs ≡ below against (x ∷ xs) ++ post)
  prefix_step x xs true e s h = (h.0, ap (λ us. x ∷ us) h.1 ∙ sym (ap (λ us. us ++ h.0) (ap (λ b. cond b (x ∷ below against xs) (below against xs)) e)))
  prefix_step x xs false e s h = (x ∷ xs, sym (ap (λ us. us ++ x ∷ xs) (below_none x xs s e)))

  -- the elements below a key begin an ascending list
  pub below_prefix : (xs : List T) → Ascends order xs → (post : List T) × (xs ≡ below against xs ++ post)
  below_prefix [] s = ([], refl)
  below_prefix (x ∷ xs) s = prefix_step x xs (is_gt (against x)) refl s (below_prefix xs s.1)

module _ {T : Type 0} (order : T → T → Ordering) (o : IsTotalOrder order) where
  -- in an ascending list, the elements before an element are those below it
  below_element : (pre : List T) (x : T) (rest : List T) → Ascends order (pre ++ x ∷ rest) → below (order x) (pre ++ x ∷ rest) ≡ pre
  below_element pre x rest s =
      let tie : order x x ≡ Equal = tied_itself o x in
      below_cut (order x) pre (x ∷ []) rest (before_one order (order x) (probe_from_total o x) pre x rest s (ap is_lt tie)) (ascends_right order pre (x ∷ rest) s).0
      ∙ ap (λ us. pre ++ us) (below_one_tied (order x) x tie) ∙ append-nil pre

  pub ended_is : (xs rest run post : List T) → xs ≡ (rest ++ run) ++ post → Ascends order xs → (length run ≡ 0 → rest ++ run ≡ []) → ended order xs run ≡ rest ++ run
  ended_is xs rest [] post e s h = sym (h refl)
  ended_is xs rest (x ∷ run) post e s h =
      let whole : xs ≡ rest ++ x ∷ (run ++ post) = e ∙ append_assoc rest (x ∷ run) post in
      ap (λ us. us ++ x ∷ run) (ap (below (order x)) whole ∙ below_element rest x (run ++ post) (subst (Ascends order) whole s))

-- ---- a key that is not there

module _ {T : Type 0} (order : T → T → Ordering) (against : T → Ordering) (probe : IsProbe order against) where
  absent_step : (x : T) (xs : List T) (r : Ordering) → against x ≡ r → Ascends order (x ∷ xs) → is_some (found against (x ∷ xs)) ≡ false
      → (is_some (found against xs) ≡ false → removed against xs ≡ xs) → removed against (x ∷ xs) ≡ x ∷ xs
  absent_step x xs Less e s a h =
      let all = all_weaker (λ z. order x z ≡ Less) (λ z. against z ≡ Less) (λ z l. probe x z l (ap is_gt e)) xs s.0 in
      ap₂ (λ us vs. us ++ vs) (below_none order against probe x xs s (ap is_gt e)) (above_one_less against x xs xs e (above_of_above against xs all))
  absent_step x xs Equal e s a h =
      let ties = filter (λ z. is_eq (against z)) xs in
      let there : is_some (found against (x ∷ xs)) ≡ true = ap (λ b. is_some (first_of_list (cond b (x ∷ ties) ties))) (ap is_eq e) in
      absurd cc
  absent_step x xs Greater e s a h =
      let ties = filter (λ z. is_eq (against z)) xs in
      let same : is_some (found against (x ∷ xs)) ≡ is_some (found against xs) = ap (λ b. is_some (first_of_list (cond b (x ∷ ties) ties))) (ap is_eq e) in
      ap₂ (λ us vs. us ++ vs) (ap (λ b. cond b (x ∷ below against xs) (below against xs)) (ap is_gt e)) (above_one_not against x xs (ap is_lt e)) ∙ ap (λ us. x ∷ us) (h (sym same ∙ a))

  pub removed_absent : (xs : List T) → Ascends order xs → is_some (found against xs) ≡ false → removed against xs ≡ xs
  removed_absent [] s a = refl
  removed_absent (x ∷ xs) s a = absent_step x xs (against x) refl s a (removed_absent xs s.1)

-- ---- lengths

module _ {T : Type 0} (order : T → T → Ordering) (against : T → Ordering) (probe : IsProbe order against) where
  present_step : (x : T) (xs : List T) (r : Ordering) → against x ≡ r → Ascends order (x ∷ xs) → is_some (found against (x ∷ xs)) ≡ true
      → (is_some (found against xs) ≡ true → length xs ≡ length (removed against xs) + 1) → length (x ∷ xs) ≡ length (removed against (x ∷ xs)) + 1
  present_step x xs Less e s a h =
      let ties = filter (λ z. is_eq (against z)) xs in
      let all = all_weaker (λ z. order x z ≡ Less) (λ z. against z ≡ Less) (λ z l. probe x z l (ap is_gt e)) xs s.0 in
      let none : is_some (found against (x ∷ xs)) ≡ false = ap (λ b. is_some (first_of_list (cond b (x ∷ ties) ties))) (ap is_eq e) ∙ ap (λ us. is_some (first_of_list us)) (tied_of_above against xs all) in
      absurd cc
  present_step x xs Equal e s a h =
      let all = all_weaker (λ z. order x z ≡ Less) (λ z. against z ≡ Less) (λ z l. probe x z l (ap is_gt e)) xs s.0 in
      let rest : removed against (x ∷ xs) ≡ xs = ap₂ (λ us vs. us ++ vs) (below_none order against probe x xs s (ap is_gt e)) (above_one_not against x xs (ap is_lt e) ∙ above_of_above against xs all) in
      let n = ap length rest in
      omega arith
  present_step x xs Greater e s a h =
      let ties = filter (λ z. is_eq (against z)) xs in
      let same : is_some (found against (x ∷ xs)) ≡ is_some (found against xs) = ap (λ b. is_some (first_of_list (cond b (x ∷ ties) ties))) (ap is_eq e) in
      let rest : removed against (x ∷ xs) ≡ x ∷ removed against xs =
      ap₂ (λ us vs. us ++ vs) (ap (λ b. cond b (x ∷ below against xs) (below against xs)) (ap is_gt e)) (above_one_not against x xs (ap is_lt e)) in
      let n = ap length rest in
      let m = h (sym same ∙ a) in
      omega arith

  -- a removal takes one element away
  pub removed_present : (xs : List T) → Ascends order xs → is_some (found against xs) ≡ true → length xs ≡ length (removed against xs) + 1
  removed_present [] s a = absurd cc
  removed_present (x ∷ xs) s a = present_step x xs (against x) refl s a (removed_present xs s.1)

-- an insertion adds one element, after an element that ties is removed
pub inserted_length : {T : Type 0} (order : T → T → Ordering) (x : T) (xs : List T) → length (inserted order x xs) ≡ length (removed (order x) xs) + 1
inserted_length order x xs = omega (arith, length-append (below (order x) xs) (x ∷ above (order x) xs), length-append (below (order x) xs) (above (order x) xs))

pub inserted_new : {T : Type 0} (order : T → T → Ordering) → IsTotalOrder order → (x : T) (xs : List T) → Ascends order xs → is_some (found (order x) xs) ≡ false → length (inserted order x xs) ≡ length xs + 1
inserted_new order o x xs s a = let n = ap length (removed_absent order (order x) (probe_from_total o x) xs s a) in omega (arith, inserted_length order x xs)

pub inserted_over : {T : Type 0} (order : T → T → Ordering) → IsTotalOrder order → (x : T) (xs : List T) → Ascends order xs → is_some (found (order x) xs) ≡ true → length (inserted order x xs) ≡ length xs
inserted_over order o x xs s a = omega (arith, inserted_length order x xs, removed_present order (order x) (probe_from_total o x) xs s a)
