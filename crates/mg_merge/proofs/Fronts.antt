-- The heads of lists: which is the first, and which there are after a pull.
use Rattle.std.proofs.Common.{◌≡◌, ◌⊎◌, inl, inr, ℕ, zero, suc, ◌+◌, ◌<◌, ◌≤◌, ◌==◌, List, [], ◌∷◌, length, get_or, set, take, drop, All, Option, None, Some, IfSome, IfNone, Bool, true, false, cond, count_by, Ordering, Less, Equal, Greater, is_lt, is_gt, refl, sym, ap, ap₂, ◌∙◌, subst, arith}
use Rattle.std.specs.BinaryHeap.{IsUpperBound}
use Rattle.std.specs.List.Sorted.{IsPermutation}
use Rattle.std.specs.Ordering.{nat_cmp, ordering_reverse, ordering_then}
use Rattle.std.proofs.lemmas.Bool.{cases_eq, cases_lt, eqb-false, eqb-true, eq-eqb, ne_eqb}
use Rattle.std.proofs.lemmas.Bool.Decides.{nat_tests}
use Rattle.std.proofs.lemmas.List.{get_or-set_other, get_or-set_same, length-append, length-set, take_all}
use Rattle.std.proofs.lemmas.List.Elements.{All-cons, All-from_recursion, All-head, All-tail}
use Rattle.std.proofs.lemmas.List.Sorted.{All-permutation, length_permutation, sum_by-IsPermutation}
use Rattle.std.proofs.lemmas.List.Sums.{sum_by-cons, sum_by-set, sum_by_more}
use Rattle.mg_collate.specs.declared.direction.Direction.{Direction}
use Rattle.mg_collate.specs.declared.direction.Direction.TheVariants.{Asc, Desc}
use Rattle.mg_collate.specs.Row.{RowValue, directed_order}
use Rattle.mg_merge.specs.declared.head.Head.{Head}
use Rattle.mg_merge.specs.Heads.{AreHeads, IsHeadOf, heads_wanted, with_head}
use Rattle.mg_merge.specs.Merged.{joined, order_by}
use Rattle.mg_merge.specs.Pulled.{has_item}
use Rattle.mg_merge.proofs.Heads.{none_left}
use Rattle.mg_merge.specs.Turns.{by_direction, head_order, turn_order, turn_total}

-- ---- the heads of a list

-- how many heads list k has
abbrev pub heads_at : {X : Type 0} → ℕ → List (Head X) → ℕ
heads_at k heads = count_by (λ head. head.list == k) heads

heads_at-cons : {X : Type 0} (k : ℕ) (head : Head X) (heads : List (Head X)) → heads_at k (head ∷ heads) ≡ cond (head.list == k) 1 0 + heads_at k heads
heads_at-cons k head heads = sum_by-cons (λ h. cond (h.list == k) 1 0) head heads

found_in : {X : Type 0} (P : Head X → Type 0) (k n : ℕ) (head : Head X) (heads : List (Head X)) (b : Bool) → (head.list == k) ≡ b → All P (head ∷ heads) → 0 < cond b 1 0 + n
    → (0 < n → (h : Head X) × P h × (h.list ≡ k)) → (h : Head X) × P h × (h.list ≡ k)
found_in P k n head heads true e all l more = (head, All-head P head heads all, eqb-true head.list k e)
found_in P k n head heads false e all l more = more (omega arith)

-- a head of list k, with what is true of all heads
found : {X : Type 0} (P : Head X → Type 0) (k : ℕ) (heads : List (Head X)) → All P heads → 0 < heads_at k heads → (h : Head X) × P h × (h.list ≡ k)
found P k [] all l = absurd (omega arith)
found P k (head ∷ heads) all l =
    found_in P k (heads_at k heads) head heads (head.list == k) refl all (subst (λ n. 0 < n) (heads_at-cons k head heads) l) (found P k heads (All-tail P head heads all))

apart_in : {X : Type 0} (k n : ℕ) (head : Head X) (heads : List (Head X)) (b : Bool) → (head.list == k) ≡ b → cond b 1 0 + n ≡ 0 → (n ≡ 0 → All (λ h. h.list ≡ k → ⊥) heads) → All (λ h. h.list ≡ k → ⊥) (head ∷ heads)
apart_in k n head heads true e h more = absurd (omega (arith, h))
apart_in k n head heads false e h more = All-cons (λ h. h.list ≡ k → ⊥) head heads (eqb-false head.list k e) (more (omega (arith, h)))

-- if list k has no head, each head is of another list
apart : {X : Type 0} (k : ℕ) (heads : List (Head X)) → heads_at k heads ≡ 0 → All (λ h. h.list ≡ k → ⊥) heads
apart k [] e = λ i d l. absurd (omega arith)
apart k (head ∷ heads) e = apart_in k (heads_at k heads) head heads (head.list == k) refl (sym (heads_at-cons k head heads) ∙ e) (apart k heads)

item_within : {X : Type 0} (lists : List (List X)) (k : ℕ) (x : X) (xs : List X) → get_or lists k [] ≡ x ∷ xs → k < length lists
item_within [] k x xs e = absurd cc
item_within (list ∷ lists) zero x xs e = omega arith
item_within (list ∷ lists) (suc k) x xs e = let l = item_within lists k x xs e in omega (arith, l)

-- the head of a list that has an item
shown : {X K : Type 0} (key : X → K) (direction : Direction) (rests lists : List (List K)) (heads : List (Head X)) (P : Head X → Type 0) → AreHeads key direction rests lists heads → All P heads
    → (k : ℕ) (y : K) (ys : List K) → get_or lists k [] ≡ y ∷ ys → (h : Head X) × (IsHeadOf key direction rests lists h × P h) × (h.list ≡ k)
shown key direction rests lists heads P h all k y ys e =
    let one = h.one k (item_within lists k y ys e) ∙ ap heads_wanted e in
    found (λ head. IsHeadOf key direction rests lists head × P head) k heads (λ i d l. (h.each i d l, all i d l)) (omega (arith, one))

-- the list of a head begins with it
begins : {X K : Type 0} (key : X → K) (direction : Direction) (rests lists : List (List K)) (head : Head X) (k : ℕ) (y : K) (ys : List K) → IsHeadOf key direction rests lists head → head.list ≡ k → get_or lists k [] ≡ y ∷ ys
    → y ∷ ys ≡ key head.item ∷ get_or rests k []
begins key direction rests lists head k y ys h l e = sym e ∙ subst (λ n. get_or lists n [] ≡ key head.item ∷ get_or rests n []) l h.2

-- heads in another order
pub heads_permuted : {X K : Type 0} (key : X → K) (direction : Direction) (rests lists : List (List K)) (heads others : List (Head X)) → IsPermutation heads others → AreHeads key direction rests lists heads → AreHeads key direction rests lists others
heads_permuted key direction rests lists heads others p h = record {
  each = All-permutation (IsHeadOf key direction rests lists) heads others p h.each;
  one = λ k l. sum_by-IsPermutation (λ head. cond (head.list == k) 1 0) heads others p ∙ h.one k l;
  number = length_permutation heads others p ∙ h.number;
}

-- ---- which head is first

same_direction : (direction : Direction) (order : Direction → Ordering) → by_direction direction direction order ≡ order direction
same_direction Asc order = refl
same_direction Desc order = refl

turn_in : {X : Type 0} (row : X → RowValue) (direction : Direction) (a b : Head X) → a.direction ≡ direction → b.direction ≡ direction → turn_order row a b ≡ ordering_then (order_by row direction a.item b.item) (nat_cmp a.list b.list)
turn_in row direction a b h k =
    let order = λ (d : Direction). ordering_then (order_by row d a.item b.item) (nat_cmp a.list b.list) in
    ap₂ (λ d e. by_direction d e order) h k ∙ same_direction direction order

not_above : (a b : Ordering) → a ≡ ordering_reverse b → is_lt b ≡ false → is_gt a ≡ false
not_above a Less e h = absurd cc
not_above a Equal e h = ap is_gt e
not_above a Greater e h = ap is_gt e

not_after : (a b : Ordering) → is_gt (ordering_then a b) ≡ false → is_gt a ≡ false
not_after Less b h = refl
not_after Equal b h = refl
not_after Greater b h = h

before_later : (a b : Ordering) → b ≡ Greater → is_gt (ordering_then a b) ≡ false → a ≡ Less
before_later Less b e h = refl
before_later Equal Less e h = absurd cc
before_later Equal Equal e h = absurd cc
before_later Equal Greater e h = absurd cc
before_later Greater b e h = absurd cc

nat_greater : (m n : ℕ) → n < m → nat_cmp m n ≡ Greater
nat_greater m n h = grind (arith, nat_tests)

-- a greatest head of the heap is not above the first item of any list, and is below that of each list of a lesser number
pub first_of_heads : {X K : Type 0} (key : X → K) (row : X → RowValue) (key_row : K → RowValue) → ((x : X) → key_row (key x) ≡ row x) → (direction : Direction) (rests lists : List (List K)) (heads : List (Head X)) (top : Head X)
    → AreHeads key direction rests lists heads → IsHeadOf key direction rests lists top → IsUpperBound (head_order row) top heads → (k : ℕ) (y : K) (ys : List K) → get_or lists k [] ≡ y ∷ ys
    → (is_gt (order_by key_row direction (key top.item) y) ≡ false) × (k < top.list → order_by key_row direction (key top.item) y ≡ Less)
first_of_heads key row key_row same direction rests lists heads top h t bound k y ys e =
    let it = shown key direction rests lists heads (λ head. is_lt (head_order row top head) ≡ false) h (All-from_recursion (λ head. is_lt (head_order row top head) ≡ false) heads bound) k y ys e in
    let head = it.0 in
    let first : y ≡ key head.item = ap (λ l. get_or l 0 y) (begins key direction rests lists head k y ys it.1.0 it.2 e) in
    let rows : order_by key_row direction (key top.item) y ≡ order_by row direction top.item head.item =
    ap (order_by key_row direction (key top.item)) first ∙ ap₂ (directed_order direction) (same top.item) (same head.item) in
    let turn : is_gt (ordering_then (order_by row direction top.item head.item) (nat_cmp top.list head.list)) ≡ false =
    ap is_gt (sym (turn_in row direction top head t.0 it.1.0.0)) ∙ not_above (turn_order row top head) (turn_order row head top) ((turn_total row).antisymm top head) it.1.1 in
    let place = it.2 in (
      ap is_gt rows ∙ not_after (order_by row direction top.item head.item) (nat_cmp top.list head.list) turn,
      λ l. rows ∙ before_later (order_by row direction top.item head.item) (nat_cmp top.list head.list) (nat_greater top.list head.list (omega (arith, l, place))) turn,
    )

-- ---- a pull

skipped : {X : Type 0} (k : ℕ) (head : Head X) (heads : List (Head X)) → (head.list ≡ k → ⊥) → heads_at k (head ∷ heads) ≡ heads_at k heads
skipped k head heads n =
    let more = heads_at-cons k head heads in
    let same = ap (λ b. cond b 1 0 + heads_at k heads) (ne_eqb head.list k n) in
    omega (arith, more, same)

still_at : {X : Type 0} (pulled : Option X) (p : ℕ) (direction : Direction) (heads : List (Head X)) (k : ℕ) → (p ≡ k → ⊥) → heads_at k (with_head pulled p direction heads) ≡ heads_at k heads
still_at None p direction heads k n = refl
still_at (Some x) p direction heads k n = skipped k (record { item = x; list = p; direction = direction }) heads n

one_here : {X K : Type 0} (key : X → K) (pulled : Option X) (p : ℕ) (direction : Direction) (heads : List (Head X)) (rest new : List K) → heads_at p heads ≡ 0 → IfSome pulled (λ x. rest ≡ key x ∷ new) → IfNone pulled (rest ≡ [])
    → heads_at p (with_head pulled p direction heads) ≡ heads_wanted rest
one_here key None p direction heads rest new none some end = none ∙ ap heads_wanted (sym end)
one_here key (Some x) p direction heads rest new none some end =
    let next : Head _ = record { item = x; list = p; direction = direction } in
    heads_at-cons p next heads ∙ ap₂ (λ b n. cond b 1 0 + n) (eq-eqb p p refl) none ∙ ap heads_wanted (sym some)

number_with : {X K : Type 0} (key : X → K) (pulled : Option X) (p : ℕ) (direction : Direction) (heads : List (Head X)) (rest new : List K) → IfSome pulled (λ x. rest ≡ key x ∷ new) → IfNone pulled (rest ≡ [])
    → length (with_head pulled p direction heads) ≡ length heads + heads_wanted rest
number_with key None p direction heads rest new some end = let none = ap heads_wanted end in omega (arith, none)
number_with key (Some x) p direction heads rest new some end = let one = ap heads_wanted some in omega (arith, one)

pub all_with : {X : Type 0} (P : Head X → Type 0) (pulled : Option X) (p : ℕ) (direction : Direction) (heads : List (Head X)) → All P heads → IfSome pulled (λ x. P (record { item = x; list = p; direction = direction })) → All P (with_head pulled p direction heads)
all_with P None p direction heads all some = all
all_with P (Some x) p direction heads all some = All-cons P (record { item = x; list = p; direction = direction }) heads some all

pub some_of_all : {X : Type 0} {P : Type 0} (o : Option X) → P → IfSome o (λ _. P)
some_of_all None p = tt
some_of_all (Some x) p = p

next_head : {X K : Type 0} (key : X → K) (direction own : Direction) (rests lists : List (List K)) (p : ℕ) (pulled : Option X) (rest new : List K) → own ≡ direction → p < length lists → p < length rests → get_or lists p [] ≡ rest
    → IfSome pulled (λ x. rest ≡ key x ∷ new) → IfSome pulled (λ x. IsHeadOf key direction (set rests p new) lists (record { item = x; list = p; direction = own }))
next_head key direction own rests lists p None rest new e l m at some = tt
next_head key direction own rests lists p (Some x) rest new e l m at some = (e, l, at ∙ some ∙ ap (λ r. key x ∷ r) (sym (get_or-set_same rests p new [] m)))

-- a head of another list stays the head of its list
other_stays : {X K : Type 0} (key : X → K) (direction : Direction) (rests lists : List (List K)) (head : Head X) (p : ℕ) (rest list : List K) → IsHeadOf key direction rests lists head → (head.list ≡ p → ⊥)
    → IsHeadOf key direction (set rests p rest) (set lists p list) head
other_stays key direction rests lists head p rest list was other =
    let size = length-set lists p list in
    let within = was.1 in (
      was.0,
      omega (arith, size, within),
      get_or-set_other lists p head.list list [] other ∙ was.2 ∙ ap (λ r. key head.item ∷ r) (sym (get_or-set_other rests p head.list rest [] other)),
    )

one_after : {X K : Type 0} (key : X → K) (direction : Direction) (rests lists : List (List K)) (top : Head X) (heads : List (Head X)) (pulled : Option X) (new : List K) → top.list < length lists → AreHeads key direction rests lists (top ∷ heads)
    → heads_at top.list heads ≡ 0 → IfSome pulled (λ x. get_or rests top.list [] ≡ key x ∷ new) → IfNone pulled (get_or rests top.list [] ≡ []) → (k : ℕ) → k < length lists → (k ≡ top.list) ⊎ (k ≡ top.list → ⊥)
    → heads_at k (with_head pulled top.list top.direction heads) ≡ heads_wanted (get_or (set lists top.list (get_or rests top.list [])) k [])
one_after key direction rests lists top heads pulled new within h none some end k l (inl e) =
    let rest = get_or rests top.list [] in
    ap (λ n. heads_at n (with_head pulled top.list top.direction heads)) e ∙ one_here key pulled top.list top.direction heads rest new none some end
    ∙ ap heads_wanted (sym (ap (λ n. get_or (set lists top.list rest) n []) e ∙ get_or-set_same lists top.list rest [] within))
one_after key direction rests lists top heads pulled new within h none some end k l (inr n) =
    let other = λ (e : top.list ≡ k). n (sym e) in
    still_at pulled top.list top.direction heads k other ∙ sym (skipped k top heads other) ∙ h.one k l
    ∙ ap heads_wanted (sym (get_or-set_other lists top.list k (get_or rests top.list []) [] n))

-- the heads of the lists after one is taken and the next item of its list is pulled
pub heads_after : {X K : Type 0} (key : X → K) (direction : Direction) (rests lists : List (List K)) (top : Head X) (heads : List (Head X)) (pulled : Option X) (new : List K) → length rests ≡ length lists → AreHeads key direction rests lists (top ∷ heads)
    → IfSome pulled (λ x. get_or rests top.list [] ≡ key x ∷ new) → IfNone pulled (get_or rests top.list [] ≡ [])
    → AreHeads key direction (set rests top.list new) (set lists top.list (get_or rests top.list [])) (with_head pulled top.list top.direction heads)
heads_after key direction rests lists top heads pulled new size h some end =
    let p = top.list in
    let rest = get_or rests p [] in
    let t = All-head (IsHeadOf key direction rests lists) top heads h.each in
    let within = t.1 in
    let longer = length-set lists p rest in
    let was : heads_at p (top ∷ heads) ≡ 1 = h.one p within ∙ ap heads_wanted t.2 in
    let both = sym (heads_at-cons p top heads) ∙ was in
    let same = ap (λ b. cond b 1 0 + heads_at p heads) (eq-eqb p p refl) in
    let none : heads_at p heads ≡ 0 = omega (arith, both, same) in
    let others = All-tail (IsHeadOf key direction rests lists) top heads h.each in
    let one = ap heads_wanted t.2 in
    let sum = sum_by-set heads_wanted lists p rest [] within in
    let more = number_with key pulled p top.direction heads rest new some end in
    let number = h.number in
    record {
      each = all_with (IsHeadOf key direction (set rests p new) (set lists p rest)) pulled p top.direction heads (λ i d l. other_stays key direction rests lists (get_or heads i d) p new rest (others i d l) (apart p heads none i d l))
          (next_head key direction top.direction rests (set lists p rest) p pulled rest new t.0 (omega (arith, longer, within)) (omega (arith, size, within)) (get_or-set_same lists p rest [] within) some);
      one = λ k l. one_after key direction rests lists top heads pulled new within h none some end k (omega (arith, l, longer)) (cases_eq k p);
      number = omega (arith, one, sum, more, number);
    }

-- ---- how much is left

left_in : {K : Type 0} (rests lists : List (List K)) → length rests ≡ length lists → ((k : ℕ) (y : K) (ys : List K) → get_or lists k [] ≡ y ∷ ys → ys ≡ get_or rests k []) → length (joined lists) ≤ count_by has_item lists + length (joined rests)
left_in rests [] size h = omega arith
left_in [] (list ∷ lists) size h = absurd (omega (arith, size))
left_in (rest ∷ rests) ([] ∷ lists) size h =
    let more = left_in rests lists (omega (arith, size)) (λ k. h (suc k)) in
    let one = sum_by-cons heads_wanted [] lists in
    let all = length-append rest (joined rests) in
    omega (arith, more, one, all)
left_in (rest ∷ rests) ((y ∷ ys) ∷ lists) size h =
    let more = left_in rests lists (omega (arith, size)) (λ k. h (suc k)) in
    let one = sum_by-cons heads_wanted (y ∷ ys) lists in
    let all = length-append rest (joined rests) in
    let now = length-append (y ∷ ys) (joined lists) in
    let same = ap length (h 0 y ys refl) in
    omega (arith, more, one, all, now, same)

-- what remains of the lists is at most the heads and what was not pulled yet
pub left_counted : {X K : Type 0} (key : X → K) (direction : Direction) (rests lists : List (List K)) (heads : List (Head X)) → length rests ≡ length lists → AreHeads key direction rests lists heads
    → length (joined lists) ≤ length heads + length (joined rests)
left_counted key direction rests lists heads size h =
    let number = h.number in
    let all = left_in rests lists size (λ k y ys e. let it = shown key direction rests lists heads (λ _. Unit {0}) h (λ i d l. tt) k y ys e in
    ap (drop 1) (begins key direction rests lists it.0 k y ys it.1.0 it.2 e)) in
    omega (arith, number, all)

empty : {K : Type 0} (list : List K) → ((x : K) (xs : List K) → list ≡ x ∷ xs → ⊥) → list ≡ []
empty [] h = refl
empty (x ∷ xs) h = absurd (h x xs refl)

-- without heads nothing remains
pub none_remain : {X K : Type 0} (key : X → K) (direction : Direction) (rests lists : List (List K)) (heads : List (Head X)) → AreHeads key direction rests lists heads → heads ≡ [] → joined lists ≡ []
none_remain key direction rests lists heads h none =
    none_left lists (λ k. empty (get_or lists k []) (λ x xs e.
    let one = sym (ap (heads_at k) none) ∙ h.one k (item_within lists k x xs e) ∙ ap heads_wanted e in
    absurd (omega (arith, one))))

-- ---- the first heads

-- the heads of the first lists, of which an item was pulled; nothing was pulled of the others
pub record AreFirstHeads {X K : Type 0} (key : X → K) (direction : Direction) (rests lists : List (List K)) (place : ℕ) (heads : List (Head X)) : Type 0 where
  pub size : length rests ≡ length lists
  pub each : All (IsHeadOf key direction rests lists) heads
  pub below : All (λ head. head.list < place) heads
  pub one : (k : ℕ) → k < place → heads_at k heads ≡ heads_wanted (get_or lists k [])
  pub none : (k : ℕ) → place ≤ k → heads_at k heads ≡ 0
  pub number : length heads ≡ count_by has_item (take place lists)
  pub unread : (k : ℕ) → place ≤ k → get_or rests k [] ≡ get_or lists k []

pub no_heads : {X K : Type 0} (key : X → K) (direction : Direction) (lists : List (List K)) → AreFirstHeads key direction lists lists 0 []
no_heads key direction lists = record {
  size = refl;
  each = λ i d l. absurd (omega arith);
  below = λ i d l. absurd (omega arith);
  one = λ k l. absurd (omega arith);
  none = λ k l. refl;
  number = refl;
  unread = λ k l. refl;
}

first_stays : {X K : Type 0} (key : X → K) (direction : Direction) (rests lists : List (List K)) (place : ℕ) (head : Head X) (new : List K) → IsHeadOf key direction rests lists head → head.list < place → IsHeadOf key direction (set rests place new) lists head
first_stays key direction rests lists place head new was below = (was.0, was.1, was.2 ∙ ap (λ r. key head.item ∷ r) (sym (get_or-set_other rests place head.list new [] (λ e. omega (arith, below, e)))))

first_permuted : {X K : Type 0} (key : X → K) (direction : Direction) (rests lists : List (List K)) (place : ℕ) (heads others : List (Head X)) → IsPermutation heads others → AreFirstHeads key direction rests lists place heads → AreFirstHeads key direction rests lists place others
first_permuted key direction rests lists place heads others p h =
    let at = λ (k : ℕ). sum_by-IsPermutation (λ (head : Head _). cond (head.list == k) 1 0) heads others p in
    record {
      size = h.size;
      each = All-permutation (IsHeadOf key direction rests lists) heads others p h.each;
      below = All-permutation (λ head. head.list < place) heads others p h.below;
      one = λ k l. at k ∙ h.one k l;
      none = λ k l. at k ∙ h.none k l;
      number = length_permutation heads others p ∙ h.number;
      unread = h.unread;
    }

pub all_heads : {X K : Type 0} (key : X → K) (direction : Direction) (rests lists : List (List K)) (place : ℕ) (heads : List (Head X)) → place ≡ length lists → AreFirstHeads key direction rests lists place heads → AreHeads key direction rests lists heads
all_heads key direction rests lists place heads e h = record {
  each = h.each;
  one = λ k l. h.one k (omega (arith, l, e));
  number = h.number ∙ ap (count_by has_item) (take_all place lists (omega (arith, e)));
}

below_other : (k place : ℕ) → k < place + 1 → (k ≡ place → ⊥) → k < place
below_other k place l n = elim (cases_lt k place) [ inl m ↦ m | inr m ↦ absurd (n (omega (arith, l, m))) ]

one_more_head : {X K : Type 0} (key : X → K) (direction : Direction) (rests lists : List (List K)) (place : ℕ) (heads : List (Head X)) (pulled : Option X) (new : List K) → AreFirstHeads key direction rests lists place heads
    → IfSome pulled (λ x. get_or rests place [] ≡ key x ∷ new) → IfNone pulled (get_or rests place [] ≡ []) → (k : ℕ) → k < place + 1 → (k ≡ place) ⊎ (k ≡ place → ⊥) → heads_at k (with_head pulled place direction heads) ≡ heads_wanted (get_or lists k [])
one_more_head key direction rests lists place heads pulled new h some end k l (inl e) =
    ap (λ n. heads_at n (with_head pulled place direction heads)) e ∙ one_here key pulled place direction heads (get_or rests place []) new (h.none place (omega arith)) some end
    ∙ ap heads_wanted (h.unread place (omega arith) ∙ sym (ap (λ n. get_or lists n []) e))
one_more_head key direction rests lists place heads pulled new h some end k l (inr n) =
    still_at pulled place direction heads k (λ e. n (sym e)) ∙ h.one k (below_other k place l n)

-- the heads, after the first item of one more list is pulled
pub first_more : {X K : Type 0} (key : X → K) (direction : Direction) (rests lists : List (List K)) (place : ℕ) (heads after : List (Head X)) (pulled : Option X) (new : List K) → AreFirstHeads key direction rests lists place heads → place < length lists
    → IfSome pulled (λ x. get_or rests place [] ≡ key x ∷ new) → IfNone pulled (get_or rests place [] ≡ []) → IsPermutation (with_head pulled place direction heads) after → AreFirstHeads key direction (set rests place new) lists (place + 1) after
first_more key direction rests lists place heads after pulled new h l some end p =
    let size = h.size in
    first_permuted key direction (set rests place new) lists (place + 1) (with_head pulled place direction heads) after p (record {
      size = length-set rests place new ∙ size;
      each = all_with (IsHeadOf key direction (set rests place new) lists) pulled place direction heads (λ i d m. first_stays key direction rests lists place (get_or heads i d) new (h.each i d m) (h.below i d m))
          (next_head key direction direction rests lists place pulled (get_or rests place []) new refl l (omega (arith, size, l)) (sym (h.unread place (omega arith))) some);
      below = all_with (λ head. head.list < place + 1) pulled place direction heads (λ i d m. let lower = h.below i d m in omega (arith, lower)) (some_of_all pulled (omega arith));
      one = λ k m. one_more_head key direction rests lists place heads pulled new h some end k m (cases_eq k place);
      none = λ k m. still_at pulled place direction heads k (λ e. omega (arith, m, e)) ∙ h.none k (omega (arith, m));
      number = number_with key pulled place direction heads (get_or rests place []) new some end ∙ ap₂ (λ a b. a + b) h.number (ap heads_wanted (h.unread place (omega arith)))
          ∙ sym (sum_by_more heads_wanted lists place [] l);
      unread = λ k m. get_or-set_other rests place k new [] (λ e. omega (arith, m, e)) ∙ h.unread k (omega (arith, m));
    })
