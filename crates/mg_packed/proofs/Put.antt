-- The gap of a name among the names of an object, and what stands in it.
use Rattle.std.proofs.Common.{◌≡◌, ℕ, zero, suc, ◌≤◌, ◌<◌, List, length, IsUtf8, Some, None, Ordering, Less, Equal, Greater, nat_cmp, refl, ap, ◌∙◌, arith}
use Rattle.std.proofs.lemmas.Cmp.{nat_list_cmp_total}
use Rattle.std.specs.Cmp.Lexicographic.{slice_cmp}
use Rattle.std.specs.Ordering.{match_ordering}
use Rattle.mg_value.specs.Held.{AllAfter}
use Rattle.mg_value.specs.Value.{Value, Members, no_members, member, member_list, get_member, put}
use Rattle.mg_packed.specs.Gap.{names_before, names_up_to}
use Rattle.mg_value.specs.Stored.{IsStored, MembersAreStored}
use Rattle.mg_packed.specs.Read.{nth_value}
use Rattle.mg_packed.proofs.Search.{seen, turned, turned_back, after}

-- ---- the search finds the gap

pub gap_found : (name : List ℕ) (ms : Members) → MembersAreStored ms → (i : ℕ) → i < length (member_list ms) → seen name ms i ≡ Equal → (names_before name ms ≡ i) × (names_up_to name ms ≡ suc i)
gap_found name no_members stored i h e = absurd (omega arith)
gap_found name (member l v ms) stored zero h e =
    (ap (λ o. match_ordering o 0 0 (suc (names_before name ms))) e, ap (λ o. match_ordering o 0 1 (suc (names_up_to name ms))) e)
gap_found name (member l v ms) stored (suc i) h e =
    let above : slice_cmp nat_cmp name l ≡ Greater = nat_list_cmp_total.congr name _ l e ∙ turned l _ (after l ms i stored.0 (omega arith)) in
    let rest = gap_found name ms stored.3 i (omega arith) e in
    (ap (λ o. match_ordering o 0 0 (suc (names_before name ms))) above ∙ ap suc rest.0, ap (λ o. match_ordering o 0 1 (suc (names_up_to name ms))) above ∙ ap suc rest.1)

pub gap_missed : (name : List ℕ) (ms : Members) (n : ℕ) → n ≤ length (member_list ms) → ((k : ℕ) → k < n → seen name ms k ≡ Greater) → ((k : ℕ) → n ≤ k → k < length (member_list ms) → seen name ms k ≡ Less)
    → (names_before name ms ≡ n) × (names_up_to name ms ≡ n)
gap_missed name no_members n h below above = (omega arith, omega arith)
gap_missed name (member l v ms) zero h below above =
    let e = above 0 (omega arith) (omega arith) in
    (ap (λ o. match_ordering o 0 0 (suc (names_before name ms))) e, ap (λ o. match_ordering o 0 1 (suc (names_up_to name ms))) e)
gap_missed name (member l v ms) (suc n) h below above =
    let e = below 0 (omega arith) in
    let rest = gap_missed name ms n (omega arith) (λ k less. below (suc k) (omega arith)) (λ k more less. above (suc k) (omega arith) (omega arith)) in
    (ap (λ o. match_ordering o 0 0 (suc (names_before name ms))) e ∙ ap suc rest.0, ap (λ o. match_ordering o 0 1 (suc (names_up_to name ms))) e ∙ ap suc rest.1)

-- ---- what stands in the gap

found_by : (o : Ordering) (k l : List ℕ) (w : Value) (ms : Members) → (names_before k ms < names_up_to k ms → get_member k ms ≡ Some (nth_value ms (names_before k ms)))
    → match_ordering o 0 0 (suc (names_before k ms)) < match_ordering o 0 1 (suc (names_up_to k ms))
    → match_ordering o (get_member k ms) (Some w) (get_member k ms) ≡ Some (nth_value (member l w ms) (match_ordering o 0 0 (suc (names_before k ms))))
found_by Less k l w ms rest h = absurd (omega arith)
found_by Equal k l w ms rest h = refl
found_by Greater k l w ms rest h = rest (omega arith)

pub found : (k : List ℕ) (ms : Members) → names_before k ms < names_up_to k ms → get_member k ms ≡ Some (nth_value ms (names_before k ms))
found k no_members h = absurd (omega arith)
found k (member l w ms) h = found_by (slice_cmp nat_cmp k l) k l w ms (found k ms) h

none_after : (k : List ℕ) (ms : Members) → AllAfter k ms → get_member k ms ≡ None
none_after k no_members a = refl
none_after k (member l w ms) a = ap (λ o. match_ordering o (get_member k ms) (Some w) (get_member k ms)) a.0 ∙ none_after k ms a.1

after_less : (k l : List ℕ) (ms : Members) → slice_cmp nat_cmp k l ≡ Less → AllAfter l ms → AllAfter k ms
after_less k l no_members e a = tt
after_less k l (member m w ms) e a = (nat_list_cmp_total.trans k l m e a.0, after_less k l ms e a.1)

missed_by : (o : Ordering) (k l : List ℕ) (w : Value) (ms : Members) → slice_cmp nat_cmp k l ≡ o → AllAfter l ms → (names_up_to k ms ≤ names_before k ms → get_member k ms ≡ None)
    → match_ordering o 0 1 (suc (names_up_to k ms)) ≤ match_ordering o 0 0 (suc (names_before k ms)) → match_ordering o (get_member k ms) (Some w) (get_member k ms) ≡ None
missed_by Less k l w ms e a rest h = none_after k ms (after_less k l ms e a)
missed_by Equal k l w ms e a rest h = absurd (omega arith)
missed_by Greater k l w ms e a rest h = rest (omega arith)

pub missed : (k : List ℕ) (ms : Members) → MembersAreStored ms → names_up_to k ms ≤ names_before k ms → get_member k ms ≡ None
missed k no_members stored h = refl
missed k (member l w ms) stored h = missed_by (slice_cmp nat_cmp k l) k l w ms refl stored.0 (missed k ms stored.3) h

-- ---- with a member put in, the names are still in order

after_by : (o : Ordering) (l k m : List ℕ) (v w : Value) (ms : Members) → slice_cmp nat_cmp l k ≡ Less → AllAfter l (member m w ms) → AllAfter l (put k v ms)
    → AllAfter l (match_ordering o (member k v (member m w ms)) (member m v ms) (member m w (put k v ms)))
after_by Less l k m v w ms e a rest = (e, a)
after_by Equal l k m v w ms e a rest = a
after_by Greater l k m v w ms e a rest = (a.0, rest)

after_put : (l k : List ℕ) (v : Value) (ms : Members) → slice_cmp nat_cmp l k ≡ Less → AllAfter l ms → AllAfter l (put k v ms)
after_put l k v no_members e a = (e, tt)
after_put l k v (member m w ms) e a = after_by (slice_cmp nat_cmp k m) l k m v w ms e a (after_put l k v ms e a.1)

stored_by : (o : Ordering) (k l : List ℕ) (v w : Value) (ms : Members) → slice_cmp nat_cmp k l ≡ o → MembersAreStored (member l w ms) → IsUtf8 k → IsStored v → MembersAreStored (put k v ms)
    → MembersAreStored (match_ordering o (member k v (member l w ms)) (member l v ms) (member l w (put k v ms)))
stored_by Less k l v w ms e stored utf8 value rest = ((e, after_less k l ms e stored.0), utf8, value, stored)
stored_by Equal k l v w ms e stored utf8 value rest = (stored.0, stored.1, value, stored.3)
stored_by Greater k l v w ms e stored utf8 value rest = (after_put l k v ms (turned_back k l e) stored.0, stored.1, stored.2, rest)

pub put_stored : (k : List ℕ) (v : Value) (ms : Members) → MembersAreStored ms → IsUtf8 k → IsStored v → MembersAreStored (put k v ms)
put_stored k v no_members stored utf8 value = (tt, utf8, value, tt)
put_stored k v (member l w ms) stored utf8 value = stored_by (slice_cmp nat_cmp k l) k l v w ms refl stored utf8 value (put_stored k v ms stored.3 utf8 value)
