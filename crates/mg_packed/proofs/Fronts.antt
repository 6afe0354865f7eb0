-- The members whose names begin with a byte stand together: where they begin and end, and the members without them.
use Rattle.std.proofs.Common.{◌≡◌, ℕ, zero, suc, ◌+◌, ◌-◌, ◌≤◌, ◌<◌, List, [], ◌∷◌, length, Bool, true, false, if◌then◌else◌, Ordering, Less, Equal, Greater, nat_cmp, inl, inr, IsUtf8, refl, sym, ap, ap₂, ◌∙◌, arith}
use Rattle.std.specs.Cmp.Lexicographic.{slice_cmp}
use Rattle.std.proofs.lemmas.Bool.{cases_lt, lt-ltb, le-ltb, eq-eqb, ne_eqb}
use Rattle.std.proofs.lemmas.Cmp.{ranked}
use Rattle.std.specs.Ordering.{MatchOrdering, ordering_then}
use Rattle.mg_value.specs.Held.{AllAfter}
use Rattle.mg_value.specs.Value.{Value, Members, no_members, member, member_list}
use Rattle.mg_value.specs.Stored.{IsStored, MembersAreStored}
use Rattle.mg_packed.specs.Front.{begins_with, without_names_beginning}
use Rattle.mg_packed.specs.Ranks.{rank_of, ranked_below}
use Rattle.mg_packed.specs.Read.{nth_name}
use Rattle.mg_packed.specs.Walk.{first_members, members_past, joined, part}
use Rattle.mg_packed.proofs.Copies.{all_members}
use Rattle.mg_packed.proofs.Parting.{past_none}
use Rattle.mg_packed.proofs.Search.{after}

first_le : (c d : ℕ) (o p : Ordering) → MatchOrdering o (c < d) (c ≡ d) (d < c) → ordering_then o p ≡ Less → c ≤ d
first_le c d Less p h e = omega arith
first_le c d Equal p h e = omega arith
first_le c d Greater p h e = absurd cc

-- names ascend by their ranks
pub ranks_ascend : (k l : List ℕ) → slice_cmp nat_cmp k l ≡ Less → rank_of k ≤ rank_of l
ranks_ascend [] l e = omega arith
ranks_ascend (c ∷ k) [] e = absurd cc
ranks_ascend (c ∷ k) (d ∷ l) e = let le : c ≤ d = first_le c d (nat_cmp c d) (slice_cmp nat_cmp k l) (ranked c d _ refl) e in omega arith

pub later_ranks : (ms : Members) → MembersAreStored ms → (j k : ℕ) → j ≤ k → k < length (member_list ms) → rank_of (nth_name ms j) ≤ rank_of (nth_name ms k)
later_ranks no_members stored j k le h = absurd (omega arith)
later_ranks (member l v ms) stored zero zero le h = omega arith
later_ranks (member l v ms) stored zero (suc k) le h = ranks_ascend l (nth_name ms k) (after l ms k stored.0 (omega arith))
later_ranks (member l v ms) stored (suc j) zero le h = absurd (omega arith)
later_ranks (member l v ms) stored (suc j) (suc k) le h = later_ranks ms stored.3 j k (omega arith) (omega arith)

below_yes : (n : ℕ) (k : List ℕ) (v : Value) (ms : Members) → rank_of k < n → ranked_below n (member k v ms) ≡ suc (ranked_below n ms)
below_yes n k v ms h = ap (λ b. if b then suc (ranked_below n ms) else 0) (lt-ltb (rank_of k) n h)

below_no : (n : ℕ) (k : List ℕ) (v : Value) (ms : Members) → n ≤ rank_of k → ranked_below n (member k v ms) ≡ 0
below_no n k v ms h = ap (λ b. if b then suc (ranked_below n ms) else 0) (le-ltb (rank_of k) n h)

-- the search finds the place
pub ranks_found : (n : ℕ) (ms : Members) (i : ℕ) → i ≤ length (member_list ms) → ((k : ℕ) → k < i → rank_of (nth_name ms k) < n) → ((k : ℕ) → i ≤ k → k < length (member_list ms) → n ≤ rank_of (nth_name ms k))
    → ranked_below n ms ≡ i
ranks_found n no_members i h below above = omega (arith, h)
ranks_found n (member l v ms) zero h below above = below_no n l v ms (above 0 (omega arith) (omega arith))
ranks_found n (member l v ms) (suc i) h below above =
    below_yes n l v ms (below 0 (omega arith)) ∙ ap suc (ranks_found n ms i (omega (arith, h)) (λ k less. below (suc k) (omega arith)) (λ k more less. above (suc k) (omega arith) (omega arith)))

pub below_within : (n : ℕ) (ms : Members) → ranked_below n ms ≤ length (member_list ms)
below_within n no_members = omega arith
below_within n (member k v ms) = elim (cases_lt (rank_of k) n) [ inl h ↦ omega (arith, below_yes n k v ms h, below_within n ms) | inr h ↦ omega (arith, below_no n k v ms h) ]

-- ---- the members without those

none_below : (n : ℕ) (k : List ℕ) (ms : Members) → AllAfter k ms → n ≤ rank_of k → ranked_below n ms ≡ 0
none_below n k no_members a h = refl
none_below n k (member l v ms) a h = below_no n l v ms (omega (arith, h, ranks_ascend k l a.0))

-- the members before the i-th, and those from the j-th on
abbrev outside : Members → ℕ → ℕ → Members
outside ms i j = joined (first_members i ms) (members_past j ms)

-- one more member, by whether its name is below, at or above the byte
module _ (b : ℕ) (k : List ℕ) (v : Value) (ms : Members) (rest : without_names_beginning b ms ≡ outside ms (ranked_below (suc b) ms) (ranked_below (suc (suc b)) ms)) where
  abbrev Goal : Type 0
  Goal = without_names_beginning b (member k v ms) ≡ outside (member k v ms) (ranked_below (suc b) (member k v ms)) (ranked_below (suc (suc b)) (member k v ms))

  kept : begins_with b k ≡ false → without_names_beginning b (member k v ms) ≡ member k v (without_names_beginning b ms)
  kept e = ap (λ x. if x then without_names_beginning b ms else member k v (without_names_beginning b ms)) e

  below : begins_with b k ≡ false → rank_of k < suc b → Goal
  below e h = kept e ∙ ap (member k v) rest ∙ sym (ap₂ (λ i j. outside (member k v ms) i j) (below_yes (suc b) k v ms h) (below_yes (suc (suc b)) k v ms (omega (arith, h))))

  at : AllAfter k ms → begins_with b k ≡ true → rank_of k ≡ suc b → Goal
  at a e h =
      ap (λ x. if x then without_names_beginning b ms else member k v (without_names_beginning b ms)) e
      ∙ rest ∙ ap (λ i. outside ms i (ranked_below (suc (suc b)) ms)) (none_below (suc b) k ms a (omega (arith, h)))
      ∙ sym (ap₂ (λ i j. outside (member k v ms) i j) (below_no (suc b) k v ms (omega (arith, h))) (below_yes (suc (suc b)) k v ms (omega (arith, h))))

  above : AllAfter k ms → begins_with b k ≡ false → suc (suc b) ≤ rank_of k → Goal
  above a e h =
      kept e ∙ ap (member k v) (rest ∙ ap₂ (λ i j. outside ms i j) (none_below (suc b) k ms a (omega (arith, h))) (none_below (suc (suc b)) k ms a h) ∙ past_none ms)
      ∙ sym (ap₂ (λ i j. outside (member k v ms) i j) (below_no (suc b) k v ms (omega (arith, h))) (below_no (suc (suc b)) k v ms h))

front_outside : (b : ℕ) (ms : Members) → MembersAreStored ms → without_names_beginning b ms ≡ outside ms (ranked_below (suc b) ms) (ranked_below (suc (suc b)) ms)
front_outside b no_members stored = refl
front_outside b (member [] v ms) stored = below b [] v ms (front_outside b ms stored.3) refl (omega arith)
front_outside b (member (c ∷ s) v ms) stored =
    let rest = front_outside b ms stored.3 in
    elim (cases_lt c b) [
      | inl h ↦ below b (c ∷ s) v ms rest (ne_eqb c b (λ e. omega arith)) (omega arith)
      | inr h ↦ elim (cases_lt b c) [
        | inl l ↦ above b (c ∷ s) v ms rest stored.0 (ne_eqb c b (λ e. omega arith)) (omega arith)
        | inr l ↦ let same : c ≡ b = omega arith in at b (c ∷ s) v ms rest stored.0 (eq-eqb c b same) (omega (arith, same))
      ]
    ]

length-past : (ms : Members) (j : ℕ) → j ≤ length (member_list ms) → length (member_list (members_past j ms)) ≡ length (member_list ms) - j
length-past no_members zero h = refl
length-past no_members (suc j) h = absurd (omega arith)
length-past (member k v ms) zero h = omega arith
length-past (member k v ms) (suc j) h = length-past ms j (omega arith) ∙ omega arith

-- the members outside a gap, as two parts
pub front_parts : (b : ℕ) (ms : Members) (i j : ℕ) → MembersAreStored ms → i ≡ ranked_below (b + 1) ms → j ≡ ranked_below (b + 2) ms → joined (part ms 0 i) (part ms j (length (member_list ms) - j)) ≡ without_names_beginning b ms
front_parts b ms i j stored ei ej =
    let one : i ≡ ranked_below (suc b) ms = ei ∙ ap (λ n. ranked_below n ms) (omega arith) in
    let two : j ≡ ranked_below (suc (suc b)) ms = ej ∙ ap (λ n. ranked_below n ms) (omega arith) in
    let size : length (member_list ms) - j ≡ length (member_list (members_past j ms)) = sym (length-past ms j (omega (arith, ej, below_within (b + 2) ms))) in
    ap (λ x. joined (first_members i x) (part ms j (length (member_list ms) - j))) (past_none ms)
    ∙ ap (λ n. joined (first_members i ms) (first_members n (members_past j ms))) size
    ∙ ap (λ x. joined (first_members i ms) x) (all_members (members_past j ms))
    ∙ ap₂ (λ x y. outside ms x y) one two
    ∙ sym (front_outside b ms stored)

after_by : (x : Bool) (l k : List ℕ) (v : Value) (rest : Members) → slice_cmp nat_cmp l k ≡ Less → AllAfter l rest → AllAfter l (if x then rest else member k v rest)
after_by true l k v rest e a = a
after_by false l k v rest e a = (e, a)

after_without : (b : ℕ) (l : List ℕ) (ms : Members) → AllAfter l ms → AllAfter l (without_names_beginning b ms)
after_without b l no_members a = tt
after_without b l (member k v ms) a = after_by (begins_with b k) l k v (without_names_beginning b ms) a.0 (after_without b l ms a.1)

stored_by : (x : Bool) (k : List ℕ) (v : Value) (rest : Members) → AllAfter k rest → IsUtf8 k → IsStored v → MembersAreStored rest → MembersAreStored (if x then rest else member k v rest)
stored_by true k v rest a utf8 stored more = more
stored_by false k v rest a utf8 stored more = (a, utf8, stored, more)

pub stored_without : (b : ℕ) (ms : Members) → MembersAreStored ms → MembersAreStored (without_names_beginning b ms)
stored_without b no_members stored = tt
stored_without b (member k v ms) stored = stored_by (begins_with b k) k v (without_names_beginning b ms) (after_without b k ms stored.0) stored.1 stored.2 (stored_without b ms stored.3)
