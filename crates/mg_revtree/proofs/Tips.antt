-- The leaves that the paths of a history end in.
use Rattle.std.proofs.Common.{◌≡◌, Bool, true, false, Option, Some, None, is_some, option_and_then, List, [], ◌∷◌, ◌⊎◌, inl, inr, refl, ap, sym, ◌∙◌, subst}
use Rattle.std.specs.List.{filter_map, cons_option}
use Rattle.mg_value.specs.Value.{Value}
use Rattle.mg_revtree.specs.Revision.{Revision}
use Rattle.mg_revtree.specs.History.{Leaf, Paths, newest_of, is_this, has_child, all_links, marked, leaf_at, leaf_of, IsLeaf, tip_of}
use Rattle.mg_revtree.proofs.Same.{two, same_is}

abbrev pub Has : Leaf → List Leaf → Type 0
Has b [] = ⊥
Has b (l ∷ ls) = (l ≡ b) ⊎ Has b ls

abbrev pub AreLeavesOf : Paths → List Leaf → Type 0
AreLeavesOf h [] = Unit {0}
AreLeavesOf h (l ∷ ls) = IsLeaf h l × AreLeavesOf h ls

abbrev leaf_from : Leaf → Option (Bool × Value) → Leaf
leaf_from m None = m
leaf_from m (Some x) = record { rev = m.rev; deleted = x.0; body = x.1 }

pub same_leaf : (m l : Leaf) → m.rev ≡ l.rev → ◌≡◌ {A = Option (Bool × Value)} (Some (l.deleted, l.body)) (Some (m.deleted, m.body)) → m ≡ l
same_leaf m l r f =
    subst (λ (x : Revision). m ≡ record { rev = x; deleted = l.deleted; body = l.body }) r
    (ap (λ (x : Option (Bool × Value)). leaf_from m x) (sym f))

-- ---- the leaves that paths end in

has_more : (b : Leaf) (o : Option Leaf) (ls : List Leaf) → Has b ls → Has b (cons_option o ls)
has_more b None ls a = a
has_more b (Some l) ls a = inr a

pub tips_have : (h g : Paths) (b : Leaf) → IsLeaf h b → is_some (marked b.rev g) ≡ true → Has b (filter_map (tip_of h) g)
tips_have h [] b leaf e = cc
tips_have h (p ∷ g) b leaf e = elim (two (is_this b.rev (newest_of p.revs))) [
  | inl t ↦ newest (newest_of p.revs) t
  | inr f ↦ let k : is_some (marked b.rev g) ≡ true = rw f at e in has_more b (tip_of h p) (filter_map (tip_of h) g) (tips_have h g b leaf k)
]
  where
    newest : (o : Option Revision) → is_this b.rev o ≡ true → Has b (cons_option (option_and_then (leaf_of h) o) (filter_map (tip_of h) g))
    newest None t = cc
    newest (Some r) t =
        let s : r ≡ b.rev = sym (same_is b.rev r t) in
        let k : leaf_at r h ≡ Some (b.deleted, b.body) = ap (λ x. leaf_at x h) s ∙ leaf in
        rw (k, s) (inl refl)

pub marked_of : (r : Revision) (h : Paths) → is_some (leaf_at r h) ≡ true → is_some (marked r h) ≡ true
marked_of r h e = elim (two (has_child r (all_links h))) [
  | inl t ↦ let f : false ≡ true = rw t at e in cc
  | inr f ↦ let k : is_some (marked r h) ≡ true = rw f at e in k
]

pub tips_are_leaves : (h g : Paths) → AreLeavesOf h (filter_map (tip_of h) g)
tips_are_leaves h [] = tt
tips_are_leaves h (p ∷ g) = newest (newest_of p.revs) (tips_are_leaves h g)
  where
    at : (r : Revision) (m : Option (Bool × Value)) → leaf_at r h ≡ m → AreLeavesOf h (filter_map (tip_of h) g) → AreLeavesOf h (cons_option (leaf_of h r) (filter_map (tip_of h) g))
    at r None e rest = rw e rest
    at r (Some m) e rest = rw e (e, rest)

    newest : (o : Option Revision) → AreLeavesOf h (filter_map (tip_of h) g) → AreLeavesOf h (cons_option (option_and_then (leaf_of h) o) (filter_map (tip_of h) g))
    newest None rest = rest
    newest (Some r) rest = at r (leaf_at r h) refl rest

pub tip_has : (h : Paths) (l : Leaf) → IsLeaf h l → Has l (filter_map (tip_of h) h)
tip_has h l leaf = tips_have h h l leaf (marked_of l.rev h (ap is_some leaf))
