-- Leaves in their order.
use Rattle.std.proofs.Common.{◌≡◌, Bool, true, false, not, Option, Some, None, List, [], ◌∷◌, filter, inl, inr, refl, ap, sym, ◌∙◌}
use Rattle.std.specs.declared.cmp.Ordering.{Ordering}
use Rattle.std.specs.declared.cmp.Ordering.TheVariants.{Less, Equal, Greater}
use Rattle.std.specs.Ordering.{is_eq, bool_cmp, ordering_reverse, ordering_then}
use Rattle.std.specs.Cmp.{IsTotalOrder, then_total, bool_cmp_total}
use Rattle.std.proofs.lemmas.Cmp.{on_total}
use Rattle.mg_value.specs.Value.{Value}
use Rattle.mg_revtree.specs.Revision.{same_revision, revision_order}
use Rattle.mg_revtree.specs.History.{Leaf, leaf_order, ranked, ranked_with}
use Rattle.mg_revtree.specs.Tree.{leaf_in, BeforeAll, AreRanked}
use Rattle.mg_revtree.proofs.Same.{two, same_is, revision_total}

pub leaf_total : IsTotalOrder leaf_order
leaf_total = then_total (on_total (λ (l : Leaf). not l.deleted) bool_cmp_total) (on_total (λ (l : Leaf). l.rev) revision_total)

then_eq : (o p : Ordering) → ordering_then o p ≡ Equal → p ≡ Equal
then_eq Less p h = cc
then_eq Equal p h = h
then_eq Greater p h = cc

pub tied_same : (l m : Leaf) → leaf_order l m ≡ Equal → same_revision l.rev m.rev ≡ true
tied_same l m h = ap is_eq (then_eq (bool_cmp (not l.deleted) (not m.deleted)) (revision_order l.rev m.rev) h)

pub before_all_less : (l m : Leaf) (ls : List Leaf) → leaf_order m l ≡ Less → BeforeAll m ls → BeforeAll l ls
before_all_less l m [] lt h = tt
before_all_less l m (x ∷ ls) lt h = (leaf_total.trans x m l h.0 lt, before_all_less l m ls lt h.1)

before_all-with : (m l : Leaf) (ls : List Leaf) → leaf_order l m ≡ Less → BeforeAll m ls → BeforeAll m (ranked_with l ls)
before_all-with m l [] lt h = (lt, tt)
before_all-with m l (x ∷ xs) lt h = go (leaf_order l x) refl (before_all-with m l xs lt h.1)
  where
    go : (o : Ordering) → leaf_order l x ≡ o → BeforeAll m (ranked_with l xs) → BeforeAll m (ranked_with l (x ∷ xs))
    go Less e rest = rw e (h.0, rest)
    go Equal e rest = rw e h
    go Greater e rest = rw e (lt, h)

pub are_ranked-with : (l : Leaf) (ls : List Leaf) → AreRanked ls → AreRanked (ranked_with l ls)
are_ranked-with l [] h = (tt, tt)
are_ranked-with l (m ∷ ms) h = go (leaf_order l m) refl (are_ranked-with l ms h.1)
  where
    go : (o : Ordering) → leaf_order l m ≡ o → AreRanked (ranked_with l ms) → AreRanked (ranked_with l (m ∷ ms))
    go Less e rest = rw e (before_all-with m l ms e h.0, rest)
    go Equal e rest = rw e h
    go Greater e rest =
        let lt : leaf_order m l ≡ Less = leaf_total.antisymm m l ∙ ap ordering_reverse e in
        rw e ((lt, before_all_less l m ms lt h.0), h)

pub are_ranked : (ls : List Leaf) → AreRanked (ranked ls)
are_ranked [] = tt
are_ranked (l ∷ ls) = are_ranked-with l (ranked ls) (are_ranked ls)

before_all-filter : (p : Leaf → Bool) (m : Leaf) (ls : List Leaf) → BeforeAll m ls → BeforeAll m (filter p ls)
before_all-filter p m [] h = tt
before_all-filter p m (x ∷ ls) h = elim (two (p x)) [
  | inl b ↦ rw b (h.0, before_all-filter p m ls h.1)
  | inr b ↦ rw b (before_all-filter p m ls h.1)
]

pub are_ranked-filter : (p : Leaf → Bool) (ls : List Leaf) → AreRanked ls → AreRanked (filter p ls)
are_ranked-filter p [] h = tt
are_ranked-filter p (x ∷ ls) h = elim (two (p x)) [
  | inl b ↦ rw b (before_all-filter p x ls h.0, are_ranked-filter p ls h.1)
  | inr b ↦ rw b (are_ranked-filter p ls h.1)
]

-- ---- a leaf in a list

mark_part : Option (Bool × Value) → Bool
mark_part None = false
mark_part (Some p) = p.0

pub unpair : (a c : Bool) (b d : Value) → ◌≡◌ {A = Option (Bool × Value)} (Some (a, b)) (Some (c, d)) → a ≡ c
unfolding mark_part
unpair a c b d h = ap mark_part h

-- a leaf in a list is worse than a leaf that goes before the whole list
pub in_less : (l m : Leaf) (ls : List Leaf) → BeforeAll l ls → leaf_in m.rev ls ≡ Some (m.deleted, m.body) → leaf_order m l ≡ Less
in_less l m [] h e = cc
in_less l m (x ∷ ls) h e = elim (two (same_revision m.rev x.rev)) [
  | inl t ↦
      let f : ◌≡◌ {A = Option (Bool × Value)} (Some (x.deleted, x.body)) (Some (m.deleted, m.body)) = rw t at e in
      let d : m.deleted ≡ x.deleted = sym (unpair x.deleted m.deleted x.body m.body f) in
      let r : m.rev ≡ x.rev = same_is m.rev x.rev t in
      rw (d, r) (h.0)
  | inr g ↦ let f : leaf_in m.rev ls ≡ Some (m.deleted, m.body) = rw g at e in in_less l m ls h.1 f
]

pub irreflexive : (x : Leaf) → leaf_order x x ≡ Less → ⊥
irreflexive x a = let b : leaf_order x x ≡ Greater = leaf_total.antisymm x x ∙ ap ordering_reverse a in cc
