-- Taking items from lists one after the other.
use Rattle.std.proofs.Common.{◌≡◌, inl, inr, ℕ, zero, suc, ◌+◌, ◌<◌, ◌≤◌, List, [], ◌∷◌, ◌++◌, length, get_or, set, map, take, All, Option, None, Some, IfSome, IfNone, Ordering, Bool, true, false, if◌then◌else◌, append_assoc, refl, sym, ap, ◌∙◌, subst, arith}
use Rattle.std.specs.BinaryHeap.{IsHeap, IsUpperBound}
use Rattle.std.specs.List.{AllZip}
use Rattle.std.specs.List.Sorted.{IsPermutation}
use Rattle.std.specs.Ordering.{is_gt}
use Rattle.std.proofs.lemmas.Bool.{cases_eq, cases_lt}
use Rattle.std.proofs.lemmas.List.{append-nil, get_or_default, get_or-map, get_or-set_other, get_or-set_same, length-append, length-map, length-set, map-append, map-set, take_all}
use Rattle.std.proofs.lemmas.List.Elements.{All-head, All-tail}
use Rattle.std.proofs.lemmas.List.Sorted.{All-permutation}
use Rattle.mg_collate.specs.declared.direction.Direction.{Direction}
use Rattle.mg_collate.specs.Row.{RowValue}
use Rattle.mg_collate.specs.Sorted.{sorted, sorted_with}
use Rattle.mg_merge.specs.declared.head.Head.{Head}
use Rattle.mg_merge.specs.Heads.{GoesOn, IsHeadOf, with_head}
use Rattle.mg_merge.specs.Merged.{joined, order_by}
use Rattle.mg_merge.specs.Pulled.{AreTaken, GiveFrom, IsGivenBy, IsLeftOf}
use Rattle.mg_merge.specs.Turns.{head_order}
use Rattle.mg_merge.proofs.Fronts.{AreFirstHeads, all_with, first_more, first_of_heads, heads_after, heads_permuted}
use Rattle.mg_merge.proofs.Heads.{first_taken, order_kept}
use Rattle.mg_merge.proofs.Rows.{by_total}

-- ---- what is left of each list

left_same : {X : Type 0} (lists : List (List X)) → AllZip IsLeftOf lists lists
left_same [] = tt
left_same (list ∷ lists) = (([], refl), left_same lists)

-- what is left of what was left
left_more : {X : Type 0} (now before start : List (List X)) → AllZip IsLeftOf now before → AllZip IsLeftOf before start → AllZip IsLeftOf now start
left_more [] [] [] h k = tt
left_more [] [] (s ∷ start) h k = absurd k
left_more [] (b ∷ before) start h k = absurd h
left_more (n ∷ now) [] start h k = absurd h
left_more (n ∷ now) (b ∷ before) [] h k = absurd k
left_more (n ∷ now) (b ∷ before) (s ∷ start) h k = (
  (k.0.0 ++ h.0.0, k.0.1 ∙ ap (λ l. k.0.0 ++ l) h.0.1 ∙ sym (append_assoc k.0.0 h.0.0 n)),
  left_more now before start h.1 k.1,
)

left_set : {X : Type 0} (lists : List (List X)) (p : ℕ) (x : X) (left : List X) → get_or lists p [] ≡ x ∷ left → AllZip IsLeftOf (set lists p left) lists
left_set [] p x left e = tt
left_set (list ∷ lists) zero x left e = ((x ∷ [], e), left_same lists)
left_set (list ∷ lists) (suc p) x left e = (([], refl), left_set lists p x left e)

-- as many lists are left as there were
pub left_size : {X : Type 0} (left lists : List (List X)) → AllZip IsLeftOf left lists → length left ≡ length lists
left_size [] [] h = refl
left_size [] (l ∷ lists) h = absurd h
left_size (l ∷ left) [] h = absurd h
left_size (l ∷ left) (m ∷ lists) h = ap suc (left_size left lists h.1)

pub none_taken : {X : Type 0} (order : X → X → Ordering) (lists : List (List X)) → AreTaken order lists [] lists
none_taken order lists = (left_same lists, refl)

pub taken_more : {X : Type 0} (order : X → X → Ordering) (lists between left : List (List X)) (xs ys : List X) → AreTaken order lists xs between → AreTaken order between ys left → AreTaken order lists (xs ++ ys) left
taken_more order lists between left xs ys h k = (
  left_more left between lists k.0 h.0,
  h.1 ∙ ap (λ l. xs ++ l) k.1 ∙ sym (append_assoc xs ys (sorted order (joined left))),
)

-- ---- one step

-- a merge goes on after the greatest head of its heap is taken, and the next item of the head's list is pulled
pub step : {X K : Type 0} (key : X → K) (row : X → RowValue) (key_row : K → RowValue) → ((x : X) → key_row (key x) ≡ row x) → (direction : Direction) (rests : List (List K)) (heads : List (Head X)) (top : Head X) (others : List (Head X)) (pulled : Option X) (new : List K) (after : List (Head X))
    → IsPermutation heads (top ∷ others) → (IsHeap (head_order row) heads → IsUpperBound (head_order row) top heads) → IfSome pulled (λ x. get_or rests top.list [] ≡ key x ∷ new) → IfNone pulled (get_or rests top.list [] ≡ [])
    → IsPermutation (with_head pulled top.list top.direction others) after → (IsHeap (head_order row) heads → IsHeap (head_order row) after) → GoesOn key row key_row direction rests heads (top.item ∷ []) (set rests top.list new) after
step key row key_row same direction rests heads top others pulled new after p bound some end q heap = λ lists h.
    let order = order_by key_row direction in
    let total = by_total key_row direction in
    let rest = get_or rests top.list [] in
    let left = set lists top.list rest in
    let all = heads_permuted key direction rests lists heads (top ∷ others) p h.fronts in
    let t = All-head (IsHeadOf key direction rests lists) top others all.each in
    let first = first_of_heads key row key_row same direction rests lists heads top h.fronts t (bound h.heap) in (
      left,
      record {
        size = length-set rests top.list new ∙ h.size ∙ sym (length-set lists top.list rest);
        order = order_kept order total lists top.list (key top.item) rest h.order t.1 t.2;
        fronts = heads_permuted key direction (set rests top.list new) left (with_head pulled top.list top.direction others) after q (heads_after key direction rests lists top others pulled new h.size all some end);
        heap = heap h.heap;
      },
      (
        left_set lists top.list (key top.item) rest t.2,
        first_taken order total lists top.list (key top.item) rest h.order t.2 (λ k y ys e. (first k y ys e).0) (λ k y ys l e. (first k y ys e).1 l),
      ),
    )

-- the same of sources: s is the source of the head, and `left` what was not pulled of a source
pub source_step : {X K S : Type 0} (key : X → K) (row : X → RowValue) (key_row : K → RowValue) → ((x : X) → key_row (key x) ≡ row x) → (left : S → List K) (direction : Direction) (sources : List S) (heads : List (Head X)) (top : Head X) (others : List (Head X))
    (pulled : Option X) (s new : S) (after : List (Head X)) → top.list < length sources → s ≡ get_or sources top.list s → IsPermutation heads (top ∷ others) → (IsHeap (head_order row) heads → IsUpperBound (head_order row) top heads)
    → IfSome pulled (λ x. left s ≡ key x ∷ left new) → IfNone pulled (left s ≡ []) → IsPermutation (with_head pulled top.list top.direction others) after → (IsHeap (head_order row) heads → IsHeap (head_order row) after)
    → GoesOn key row key_row direction (map left sources) heads (top.item ∷ []) (map left (set sources top.list new)) after
source_step {X} {K} key row key_row same left direction sources heads top others pulled s new after l e p bound some end q heap =
    let at : get_or (map left sources) top.list [] ≡ left s = get_or-map left sources top.list s [] l ∙ ap left (sym e) in
    subst (λ rests. GoesOn key row key_row direction (map left sources) heads (top.item ∷ []) rests after) (sym (map-set left sources top.list new))
    (step key row key_row same direction (map left sources) heads top others pulled (left new) after p bound (subst (λ r. IfSome pulled (λ x. r ≡ key x ∷ left new)) (sym at) some) (subst (λ r. IfNone pulled (r ≡ [])) (sym at) end) q heap)

-- what is true of all heads, and of the head that was pulled, is true of all heads after a pull
pub all_after : {X : Type 0} (P : Head X → Type 0) (heads : List (Head X)) (top : Head X) (others : List (Head X)) (pulled : Option X) (after : List (Head X)) → IsPermutation heads (top ∷ others)
    → IsPermutation (with_head pulled top.list top.direction others) after → All P heads → IfSome pulled (λ x. P (record { item = x; list = top.list; direction = top.direction })) → All P after
all_after P heads top others pulled after p q all some =
    All-permutation P (with_head pulled top.list top.direction others) after q (all_with P pulled top.list top.direction others (All-tail P top others (All-permutation P heads (top ∷ others) p all)) some)

pub no_items : {X : Type 0} (xs : List X) → length xs ≡ 0 → xs ≡ []
no_items [] h = refl
no_items (x ∷ xs) h = absurd (omega (arith, h))

pub top_has : {X : Type 0} (P : Head X → Type 0) (heads : List (Head X)) (top : Head X) (others : List (Head X)) → IsPermutation heads (top ∷ others) → All P heads → P top
top_has P heads top others p all = All-head P top others (All-permutation P heads (top ∷ others) p all)

pub goes_further : {X K : Type 0} (key : X → K) (row : X → RowValue) (key_row : K → RowValue) (direction : Direction) (start between rests : List (List K)) (first middle last : List (Head X)) (items : List X) (x : X) → GoesOn key row key_row direction start first items between middle
    → GoesOn key row key_row direction between middle (x ∷ []) rests last → GoesOn key row key_row direction start first (items ++ x ∷ []) rests last
goes_further key row key_row direction start between rests first middle last items x h k = λ lists begun.
    let a = h lists begun in
    let b = k a.0 a.1 in (
      b.0,
      b.1,
      subst (λ l. AreTaken (order_by key_row direction) lists l b.0) (sym (map-append key items (x ∷ []))) (taken_more (order_by key_row direction) lists a.0 b.0 (map key items) (key x ∷ []) a.2 b.2),
    )

pub goes_nowhere : {X K : Type 0} (key : X → K) (row : X → RowValue) (key_row : K → RowValue) (direction : Direction) (rests : List (List K)) (heads : List (Head X)) → GoesOn key row key_row direction rests heads [] rests heads
goes_nowhere key row key_row direction rests heads = λ lists begun. (lists, begun, none_taken (order_by key_row direction) lists)

-- ---- which items the sources may give

pub from_pulled : {S T : Type 0} (gives : S → T → Type 0) (start sources : List S) (p : ℕ) (s new : S) → GiveFrom gives start sources → p < length sources → s ≡ get_or sources p s → ((x : T) → gives new x → gives s x) → GiveFrom gives start (set sources p new)
from_pulled gives start sources p s new h l e same = λ k m d x g.
    elim (cases_eq k p) [
      | inl at ↦ h p l s x (subst (λ t. gives t x) e (same x (subst (λ t. gives t x) (ap (λ n. get_or (set sources p new) n d) at ∙ get_or-set_same sources p new d l) g)))
      | inr other ↦ h k (let size = length-set sources p new in omega (arith, m, size)) d x (subst (λ t. gives t x) (get_or-set_other sources p k new d other) g)
    ]

-- an item that a source gives is one that a source could give at the start
pub one_given : {S T : Type 0} (gives : S → T → Type 0) (start sources : List S) (p : ℕ) (s : S) (pulled : Option T) → GiveFrom gives start sources → p < length sources → s ≡ get_or sources p s → IfSome pulled (gives s) → IfSome pulled (IsGivenBy gives start)
one_given gives start sources p s None h l e g = tt
one_given gives start sources p s (Some x) h l e g = h p l s x (subst (λ t. gives t x) e g)

pub from_start : {S T : Type 0} (gives : S → T → Type 0) (sources : List S) → GiveFrom gives sources sources
from_start gives sources = λ k l d x g. (k, l, λ e. subst (λ s. gives s x) (get_or_default sources k d e l) g)

-- ---- the first heads

-- the heads after the first item of one more source is pulled
pub first_pulled : {X K S : Type 0} (key : X → K) (left : S → List K) (direction : Direction) (sources start : List S) (place : ℕ) (heads after : List (Head X)) (pulled : Option X) (s new : S) → AreFirstHeads key direction (map left sources) (map left start) place heads
    → place < length sources → length sources ≡ length start → s ≡ get_or sources place s → IfSome pulled (λ x. left s ≡ key x ∷ left new) → IfNone pulled (left s ≡ []) → IsPermutation (with_head pulled place direction heads) after
    → AreFirstHeads key direction (map left (set sources place new)) (map left start) (place + 1) after
first_pulled key left direction sources start place heads after pulled s new h l size e some end p =
    let at : get_or (map left sources) place [] ≡ left s = get_or-map left sources place s [] l ∙ ap left (sym e) in
    let started = length-map start left in
    subst (λ rests. AreFirstHeads key direction rests (map left start) (place + 1) after) (sym (map-set left sources place new))
    (first_more key direction (map left sources) (map left start) place heads after pulled (left new) h (omega (arith, l, size, started)) (subst (λ r. IfSome pulled (λ x. r ≡ key x ∷ left new)) (sym at) some) (subst (λ r. IfNone pulled (r ≡ [])) (sym at) end) p)

-- ---- how many there are

length_either : {X : Type 0} (b : Bool) (xs ys : List X) (n : ℕ) → length xs ≡ n → length ys ≡ n → length (if b then xs else ys) ≡ n
length_either true xs ys n h k = h
length_either false xs ys n h k = k

length_inserted : {X : Type 0} (order : X → X → Ordering) (x : X) (ys : List X) → length (sorted_with order x ys) ≡ suc (length ys)
length_inserted order x [] = refl
length_inserted order x (y ∷ ys) = length_either (is_gt (order x y)) (y ∷ sorted_with order x ys) (x ∷ y ∷ ys) (suc (suc (length ys))) (ap suc (length_inserted order x ys)) refl

length_sorted : {X : Type 0} (order : X → X → Ordering) (xs : List X) → length (sorted order xs) ≡ length xs
length_sorted order [] = refl
length_sorted order (x ∷ xs) = length_inserted order x (sorted order xs) ∙ ap suc (length_sorted order xs)

pub taken_count : {X : Type 0} (order : X → X → Ordering) (lists left : List (List X)) (items : List X) → AreTaken order lists items left → length (joined lists) ≡ length items + length (joined left)
taken_count order lists left items h =
    sym (length_sorted order (joined lists)) ∙ ap length h.1 ∙ length-append items (sorted order (joined left)) ∙ ap (λ n. length items + n) (length_sorted order (joined left))

-- ---- the first of what was taken and what is left

all_taken : {X : Type 0} (n : ℕ) (xs ys zs : List X) → zs ≡ xs ++ ys → length xs ≤ n → n ≤ length xs → xs ≡ take n zs
all_taken zero [] ys zs e l m = refl
all_taken zero (x ∷ xs) ys zs e l m = absurd (omega arith)
all_taken (suc n) [] ys zs e l m = absurd (omega arith)
all_taken (suc n) (x ∷ xs) ys zs e l m = ap (λ ls. x ∷ ls) (all_taken n xs ys (xs ++ ys) refl (omega arith) (omega arith)) ∙ ap (take (suc n)) (sym e)

-- the items that were taken are the first `count`: there are as many, or nothing is left
pub first_items : {X : Type 0} (order : X → X → Ordering) (count : ℕ) (lists left : List (List X)) (items : List X) → AreTaken order lists items left → length items ≤ count → (length items < count → joined left ≡ []) → items ≡ take count (sorted order (joined lists))
first_items order count lists left items h within end =
    elim (cases_lt (length items) count) [
      | inl fewer ↦ sym (ap (take count) (h.1 ∙ ap (λ l. items ++ sorted order l) (end fewer) ∙ append-nil items) ∙ take_all count items within)
      | inr enough ↦ all_taken count items (sorted order (joined left)) (sorted order (joined lists)) h.1 within enough
    ]
