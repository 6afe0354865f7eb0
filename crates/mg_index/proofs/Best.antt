-- The least of a list, found from the first item to the last.
use Rattle.std.proofs.Common.{◌≡◌, ℕ, zero, suc, ◌+◌, ◌<◌, ◌≤◌, Bool, true, false, cond, List, [], ◌∷◌, length, get_or, drop, ◌⊎◌, inl, inr, ⊎_elim, Option, Some, None, slice_get, refl, sym, subst, ap, ◌∙◌, arith}
use Rattle.std.proofs.lemmas.Bool.{false≢true}
use Rattle.std.proofs.lemmas.Cmp.{upto, tied_itself, then_total, on_total, back_total, nat_cmp_total, nat_list_cmp_total}
use Rattle.std.specs.Cmp.{IsTotalOrder, bool_cmp_total}
use Rattle.std.specs.Ordering.{is_gt, ordering_reverse, ordering_then, bool_cmp, nat_cmp, on, then_cmp, flip_args}
use Rattle.std.specs.declared.cmp.Ordering.{Ordering}
use Rattle.std.specs.declared.cmp.Ordering.TheVariants.{Less, Equal, Greater}
use Rattle.mg_normal.specs.Atoms.{Atom}
use Rattle.mg_index.specs.Bound.{bounded_count}
use Rattle.mg_index.specs.Choice.{Hint, is_hinted, is_usable, lesser, least, preference, usable_of}
use Rattle.mg_index.specs.Definition.{Steps, IndexDefinition}
use Rattle.mg_index.specs.Candidates.{least_with}
use Rattle.mg_index.specs.declared.choice.Candidate.{Candidate}
use Rattle.mg_index.specs.Laws.{IsLeast}
use Rattle.mg_collate.proofs.Ties.{same_text}
use Rattle.std.proofs.lemmas.List.{at_drop_more, at_drop_all}
use Rattle.std.proofs.lemmas.List.Elements.{All-nil, All-cons, All-weaker}
use Rattle.std.specs.Cmp.Lexicographic.{slice_cmp}
use Rattle.std.specs.List.{Contains}

not_both_ways : (o : Ordering) → is_gt o ≡ true → is_gt (ordering_reverse o) ≡ false
not_both_ways Less h = absurd (false≢true h)
not_both_ways Equal h = refl
not_both_ways Greater h = refl

-- `lesser` is associative: of three, the first two or the last two may be compared first
pub lesser_first : {X : Type 0} {R : X → X → Ordering} (o : IsTotalOrder R) (x y : X) (z : Option X) → lesser R x (Some (lesser R y z)) ≡ lesser R (lesser R x (Some y)) z
lesser_first o x y None = refl
lesser_first {X} {R} o x y (Some z) = by_tests (is_gt (R x y)) (is_gt (R y z)) (is_gt (R x z)) refl refl refl
  where
    by_tests : (a b c : Bool) → is_gt (R x y) ≡ a → is_gt (R y z) ≡ b → is_gt (R x z) ≡ c → lesser R x (Some (lesser R y (Some z))) ≡ lesser R (lesser R x (Some y)) (Some z)
    by_tests true true true p q r = simp (p, q, r)
    by_tests true true false p q r = absurd (false≢true (sym (upto o x z y r (ap is_gt (o.antisymm z y) ∙ not_both_ways (R y z) q)) ∙ p))
    by_tests true false c p q r = simp (p, q)
    by_tests false true c p q r = simp (p, q)
    by_tests false false true p q r = absurd (false≢true (sym (upto o x y z p q) ∙ r))
    by_tests false false false p q r = simp (p, q, r)

-- the order of preference is a total order
pub preference_total : (atoms : List Atom) (hint : Hint) → IsTotalOrder (preference atoms hint)
preference_total atoms hint =
    then_total (back_total (on_total (is_hinted hint) bool_cmp_total))
    (then_total (back_total (on_total (λ (d : IndexDefinition). bounded_count atoms d.columns) nat_cmp_total))
    (then_total (on_total (λ (d : IndexDefinition). length d.columns) nat_cmp_total)
    (then_total (on_total (λ (d : IndexDefinition). d.name) nat_list_cmp_total) (on_total (λ (d : IndexDefinition). d.ddoc) nat_list_cmp_total))))

-- if the index at a place is usable, the least usable one from there on is the lesser of it and the least after it
from_place : (atoms : List Atom) (hint : Hint) (sort : List Steps) (ds : List IndexDefinition) (i : ℕ) (d : IndexDefinition) → i < length ds → d ≡ get_or ds i d → is_usable atoms sort d.columns ≡ true
    → least (preference atoms hint) (usable_of atoms sort (drop i ds)) ≡ Some (lesser (preference atoms hint) d (least (preference atoms hint) (usable_of atoms sort (drop (i + 1) ds))))
from_place atoms hint sort ds i d lt is h =
    at_drop_more (λ xs. least (preference atoms hint) (usable_of atoms sort xs)) ds i d lt
    ∙ ap (λ x. least (preference atoms hint) (usable_of atoms sort (x ∷ drop (i + 1) ds))) (sym is)
    ∙ ap (λ b. least (preference atoms hint) (cond b (d ∷ usable_of atoms sort (drop (i + 1) ds)) (usable_of atoms sort (drop (i + 1) ds)))) h

-- the invariant of the search holds after a usable index
pub goes_on : (atoms : List Atom) (hint : Hint) (sort : List Steps) (ds : List IndexDefinition) (i : ℕ) (d : IndexDefinition) (best : Option Candidate) (r : Candidate) (all : Option IndexDefinition)
    → i < length ds → d ≡ get_or ds i d → is_usable atoms sort d.columns ≡ true
    → Some r.definition.now ≡ least_with atoms hint best (Some d)
    → all ≡ least_with atoms hint best (least (preference atoms hint) (usable_of atoms sort (drop i ds)))
    → all ≡ least_with atoms hint (Some r) (least (preference atoms hint) (usable_of atoms sort (drop (i + 1) ds)))
goes_on atoms hint sort ds i d None r all lt is h e so_far =
    let equal : d ≡ r.definition.now = cc e in
    so_far ∙ from_place atoms hint sort ds i d lt is h ∙ ap (λ x. Some (lesser (preference atoms hint) x (least (preference atoms hint) (usable_of atoms sort (drop (i + 1) ds))))) equal
goes_on atoms hint sort ds i d (Some b) r all lt is h e so_far =
    let rest = least (preference atoms hint) (usable_of atoms sort (drop (i + 1) ds)) in
    let equal : lesser (preference atoms hint) b.definition.now (Some d) ≡ r.definition.now = cc e in
    so_far ∙ ap (λ o. Some (lesser (preference atoms hint) b.definition.now o)) (from_place atoms hint sort ds i d lt is h)
    ∙ ap (λ x. Some x) (lesser_first (preference_total atoms hint) b.definition.now d rest) ∙ ap (λ x. Some (lesser (preference atoms hint) x rest)) equal

-- the invariant holds after an index that is not usable
pub goes_past : (atoms : List Atom) (hint : Hint) (sort : List Steps) (ds : List IndexDefinition) (i : ℕ) (d : IndexDefinition) (best : Option Candidate) (all : Option IndexDefinition)
    → i < length ds → d ≡ get_or ds i d → is_usable atoms sort d.columns ≡ false
    → all ≡ least_with atoms hint best (least (preference atoms hint) (usable_of atoms sort (drop i ds)))
    → all ≡ least_with atoms hint best (least (preference atoms hint) (usable_of atoms sort (drop (i + 1) ds)))
goes_past atoms hint sort ds i d best all lt is h so_far =
    so_far
    ∙ ap (λ xs. least_with atoms hint best (least (preference atoms hint) xs))
    (at_drop_more (usable_of atoms sort) ds i d lt ∙ ap (λ x. usable_of atoms sort (x ∷ drop (i + 1) ds)) (sym is) ∙ ap (λ b. cond b (d ∷ usable_of atoms sort (drop (i + 1) ds)) (usable_of atoms sort (drop (i + 1) ds))) h)

-- at the end, the best so far is the least of all
pub ends : (atoms : List Atom) (hint : Hint) (sort : List Steps) (ds : List IndexDefinition) (i : ℕ) (best : Option Candidate) (all : Option IndexDefinition)
    → length ds ≤ i
    → all ≡ least_with atoms hint best (least (preference atoms hint) (usable_of atoms sort (drop i ds)))
    → all ≡ least_with atoms hint best None
ends atoms hint sort ds i best all le so_far = so_far ∙ at_drop_all (λ xs. least_with atoms hint best (least (preference atoms hint) (usable_of atoms sort xs))) ds i le

-- the item at a place
pub read_at : {X : Type 0} (xs : List X) (i : ℕ) (x : X) → i < length xs → x ≡ get_or xs i x → slice_get xs i ≡ Some x
read_at [] i x lt is = absurd (omega arith)
read_at (y ∷ ys) zero x lt is = ap (λ z. Some z) (sym is)
read_at (y ∷ ys) (suc i) x lt is = read_at ys i x (omega arith) is

-- ---- laws

then_ties : (o p : Ordering) → ordering_then o p ≡ Equal → (o ≡ Equal) × (p ≡ Equal)
then_ties Less p h = absurd cc
then_ties Equal p h = (refl, h)
then_ties Greater p h = absurd cc

abbrev by_name : IndexDefinition → IndexDefinition → Ordering
by_name = then_cmp (on (λ d. d.name) (slice_cmp nat_cmp)) (on (λ d. d.ddoc) (slice_cmp nat_cmp))

abbrev by_columns : IndexDefinition → IndexDefinition → Ordering
by_columns = then_cmp (on (λ d. length d.columns) nat_cmp) by_name

abbrev by_bounds : List Atom → IndexDefinition → IndexDefinition → Ordering
by_bounds atoms = then_cmp (flip_args (on (λ d. bounded_count atoms d.columns) nat_cmp)) by_columns

-- only definitions of the same design document and name tie
pub decides : (atoms : List Atom) (hint : Hint) (a b : IndexDefinition) → preference atoms hint a b ≡ Equal → (a.ddoc ≡ b.ddoc) × (a.name ≡ b.name)
decides atoms hint a b h =
    let p = then_ties (bool_cmp (is_hinted hint b) (is_hinted hint a)) (by_bounds atoms a b) h in
    let q = then_ties (nat_cmp (bounded_count atoms b.columns) (bounded_count atoms a.columns)) (by_columns a b) p.1 in
    let r = then_ties (nat_cmp (length a.columns) (length b.columns)) (by_name a b) q.1 in
    let s = then_ties (slice_cmp nat_cmp a.name b.name) (slice_cmp nat_cmp a.ddoc b.ddoc) r.1 in
    (same_text a.ddoc b.ddoc s.1, same_text a.name b.name s.0)

-- the lesser of x and y is one of them, and above neither
lesser_is : {X : Type 0} {R : X → X → Ordering} (o : IsTotalOrder R) (x y : X) (b : Bool) → is_gt (R x y) ≡ b
    → ((cond b y x ≡ x) ⊎ (cond b y x ≡ y)) × (is_gt (R (cond b y x) x) ≡ false) × (is_gt (R (cond b y x) y) ≡ false)
lesser_is {X} {R} o x y true e = (inr refl, ap is_gt (o.antisymm y x) ∙ not_both_ways (R x y) e, ap is_gt (tied_itself o y))
lesser_is {X} {R} o x y false e = (inl refl, ap is_gt (tied_itself o x), e)

contains_head : {X : Type 0} (xs : List X) (x y : X) → y ≡ x → Contains (x ∷ xs) y
contains_head xs x y e = (0, omega arith, sym e)

contains_tail : {X : Type 0} (xs : List X) (x y : X) → Contains xs y → Contains (x ∷ xs) y
contains_tail xs x y c = (suc c.0, omega (arith, c.1), c.2)

least_at : {X : Type 0} {R : X → X → Ordering} (o : IsTotalOrder R) (x : X) (xs : List X) (l : Option X) → least R xs ≡ l → ((y : X) → l ≡ Some y → IsLeast R xs y)
    → (z : X) → Some (lesser R x l) ≡ Some z → IsLeast R (x ∷ xs) z
least_at {X} {R} o x [] None e more z h =
    let same : x ≡ z = cc h in
    (contains_head [] x z (sym same), All-cons (λ w. is_gt (R z w) ≡ false) x [] (ap (λ w. is_gt (R z w)) same ∙ ap is_gt (tied_itself o z)) (All-nil (λ w. is_gt (R z w) ≡ false)))
least_at {X} {R} o x (w ∷ ws) None e more z h = absurd cc
least_at {X} {R} o x xs (Some y) e more z h =
    let found = more y refl in
    let p = lesser_is o x y (is_gt (R x y)) refl in
    let same : lesser R x (Some y) ≡ z = cc h in
    let below_y : is_gt (R z y) ≡ false = ap (λ w. is_gt (R w y)) (sym same) ∙ p.2 in
    let below_x : is_gt (R z x) ≡ false = ap (λ w. is_gt (R w x)) (sym same) ∙ p.1 in (
      ⊎_elim (λ k. contains_head xs x z (sym same ∙ k)) (λ k. contains_tail xs x z (subst (Contains xs) (sym (sym same ∙ k)) found.0)) p.0,
      All-cons (λ w. is_gt (R z w) ≡ false) x xs below_x (All-weaker (λ w. is_gt (R y w) ≡ false) (λ w. is_gt (R z w) ≡ false) (λ w k. upto o z y w below_y k) xs found.1),
    )

pub least_is : {X : Type 0} {R : X → X → Ordering} (o : IsTotalOrder R) (xs : List X) (z : X) → least R xs ≡ Some z → IsLeast R xs z
least_is o [] z h = absurd cc
least_is {X} {R} o (x ∷ xs) z h = least_at o x xs (least R xs) refl (λ y k. least_is o xs y k) z h
