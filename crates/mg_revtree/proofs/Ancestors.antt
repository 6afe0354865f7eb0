-- The leaf of a revision among others, and the path of a revision.
use Rattle.std.proofs.Common.{◌≡◌, ◌∙◌, ℕ, zero, suc, ◌-◌, ◌<◌, Bool, true, false, List, [], ◌∷◌, ◌++◌, Option, Some, None, is_some, option_and_then, option_map, get_or, length, map, append_assoc, inl, inr, refl, ap, sym, arith}
use Rattle.std.specs.Option.{option_map_or}
use Rattle.mg_value.specs.Value.{Value}
use Rattle.mg_revtree.specs.Ancestry.{lineage}
use Rattle.mg_revtree.specs.Revision.{Revision, same_revision}
use Rattle.mg_revtree.specs.History.{Leaf, Link, is_known, parent_of}
use Rattle.mg_revtree.specs.Known.{parent_below}
use Rattle.mg_revtree.specs.Steps.{IsLeafAt}
use Rattle.mg_revtree.specs.Tree.{AreApart, AreKnownLinks, find, known_parent, leaf_in}
use Rattle.mg_revtree.proofs.Joins.{unknown_parent}
use Rattle.mg_revtree.proofs.Places.{at_some}
use Rattle.mg_revtree.proofs.Same.{two, same_is}

-- the leaf at a place that has the revision is the one that a look-up finds
pub leaf_there : (r : Revision) (ls : List Leaf) (i : ℕ) (l : Leaf) → IsLeafAt r ls i → AreApart ls → l ≡ get_or ls i l → leaf_in r ls ≡ Some (l.deleted, l.body)
leaf_there r [] i l at apart is = absurd at
leaf_there r (x ∷ ls) zero l at apart is = rw at (ap (λ (y : Leaf). (let o : Option (Bool × Value) = Some (y.deleted, y.body) in o)) (sym is))
leaf_there r (x ∷ ls) (suc i) l at apart is = elim (two (same_revision r x.rev)) [
  | inl t ↦ absurd (let none : leaf_in r ls ≡ None = ap (λ y. leaf_in y ls) (same_is r x.rev t) ∙ apart.0 in let some = at_some r ls i at in let f : is_some (leaf_in r ls) ≡ false = ap is_some none in cc)
  | inr f ↦ rw f (leaf_there r ls i l at apart.1 is)
]

-- a leaf at a place that has the revision is of that revision
pub revision_there : (r : Revision) (ls : List Leaf) (i : ℕ) (l : Leaf) → IsLeafAt r ls i → l ≡ get_or ls i l → l.rev ≡ r
revision_there r [] i l at is = absurd at
revision_there r (x ∷ ls) zero l at is = ap (λ (y : Leaf). y.rev) is ∙ sym (same_is r x.rev at)
revision_there r (x ∷ ls) (suc i) l at is = revision_there r ls i l at is

-- a leaf at a place that has the revision is the leaf of that revision
pub leaf_copied : (r : Revision) (ls : List Leaf) (i : ℕ) (l : Leaf) → IsLeafAt r ls i → AreApart ls → l ≡ get_or ls i l → ◌≡◌ {A = Option Leaf} (Some l) (option_map (λ m. record { rev = r; deleted = m.0; body = m.1 }) (leaf_in r ls))
leaf_copied r ls i l at apart is =
    ap (λ (q : Revision). (let o : Option Leaf = Some (record { rev = q; deleted = l.deleted; body = l.body }) in o)) (revision_there r ls i l at is)
    ∙ ap (λ (o : Option (Bool × Value)). (let p : Option Leaf = option_map (λ m. record { rev = r; deleted = m.0; body = m.1 }) o in p)) (sym (leaf_there r ls i l at apart is))

flattened : (b : Bool) (r : Revision) (ls : List Link) → is_known r ls ≡ b → option_and_then (λ p. p) (known_parent r ls) ≡ parent_of r ls
flattened true r ls e = rw e refl
flattened false r ls e = rw e (sym (unknown_parent r ls e))

-- the parent that a look-up finds is the known one
pub parent_found : (r : Revision) (kept ls : List Link) → AreKnownLinks kept ls → option_and_then (λ p. p) (find r kept) ≡ parent_of r ls
parent_found r kept ls known = ap (option_and_then (λ p. p)) (known.same r) ∙ flattened (is_known r ls) r ls refl

-- the path of a revision whose parent is known goes on with that of the parent
pub lineage_step : (ls : List Link) (n : ℕ) (id p : List ℕ) → 0 < n → parent_of (n, id) ls ≡ Some (n - 1, p) → lineage ls n (n, id) ≡ (n, id) ∷ lineage ls (n - 1) (n - 1, p)
lineage_step ls zero id p some e = absurd (omega arith)
lineage_step ls (suc n) id p some e =
    let down : suc n - 1 ≡ n = omega arith in
    ap (λ o. (let rs : List Revision = (suc n, id) ∷ option_map_or (lineage ls n) o [] in rs)) e ∙ ap (λ m. (let rs : List Revision = (suc n, id) ∷ lineage ls m (suc n - 1, p) in rs)) (sym down)

-- the path of a revision whose parent is not known ends with it
pub lineage_end : (ls : List Link) (n : ℕ) (id : List ℕ) → 0 < n → parent_of (n, id) ls ≡ None → lineage ls n (n, id) ≡ (n, id) ∷ []
lineage_end ls zero id some e = absurd (omega arith)
lineage_end ls (suc n) id some e = ap (λ o. (let rs : List Revision = (suc n, id) ∷ option_map_or (lineage ls n) o [] in rs)) e

-- ---- the ids so far, and those of the revision that was reached and of its ancestors

abbrev ids_of : List Revision → List (List ℕ)
ids_of rs = map (λ r. r.1) rs

pub one_older : (known ls : List Link) (n : ℕ) (id p : List ℕ) (all done : List (List ℕ)) → AreKnownLinks known ls → 0 < n → parent_below n (Some p) ≡ option_and_then (λ q. q) (find (n, id) known)
    → all ≡ done ++ ids_of (lineage ls n (n, id)) → all ≡ (done ++ id ∷ []) ++ ids_of (lineage ls (n - 1) (n - 1, p))
one_older known ls n id p all done kept some found is =
    let parent : parent_of (n, id) ls ≡ Some (n - 1, p) = sym (found ∙ parent_found (n, id) known ls kept) in
    is ∙ ap (λ rs. done ++ ids_of rs) (lineage_step ls n id p some parent) ∙ sym (append_assoc done (id ∷ []) (ids_of (lineage ls (n - 1) (n - 1, p))))

pub oldest : (known ls : List Link) (n : ℕ) (id : List ℕ) (all done : List (List ℕ)) → AreKnownLinks known ls → 0 < n → parent_below n None ≡ option_and_then (λ q. q) (find (n, id) known)
    → all ≡ done ++ ids_of (lineage ls n (n, id)) → all ≡ done ++ id ∷ []
oldest known ls n id all done kept some found is =
    let parent : parent_of (n, id) ls ≡ None = sym (found ∙ parent_found (n, id) known ls kept) in
    is ∙ ap (λ rs. done ++ ids_of rs) (lineage_end ls n id some parent)

pub position_zero : (ls : List Link) (n : ℕ) (r : Revision) → n ≡ 0 → ids_of (lineage ls n r) ≡ []
position_zero ls n r e = ap (λ m. ids_of (lineage ls m r)) e
