-- What the links of a history say after one more.
use Rattle.std.proofs.Common.{◌≡◌, true, false, ◌||◌, ◌&&◌, Option, Some, None, List, [], ◌∷◌, ◌++◌, inl, inr, refl, ap, sym, ◌∙◌, append_assoc}
use Rattle.mg_revtree.specs.Revision.{Revision, same_revision}
use Rattle.std.specs.Option.{option_or}
use Rattle.mg_revtree.specs.History.{Link, Paths, agrees, gives, is_known, parent_of, has_child, is_this, links, all_links}
use Rattle.mg_revtree.specs.Tree.{known_parent}
use Rattle.mg_revtree.specs.Steps.{agrees_found, known_found, put}
use Rattle.mg_revtree.proofs.Same.{two, same_is}

pub known-append : (r : Revision) (ls ms : List Link) → is_known r (ls ++ ms) ≡ is_known r ls || is_known r ms
known-append r [] ms = refl
known-append r (l ∷ ls) ms = elim (two (same_revision r l.rev)) [ inl t ↦ rw t refl | inr f ↦ rw f (known-append r ls ms) ]

pub or_else_assoc : {A : Type 0} (a b c : Option A) → option_or (option_or a b) c ≡ option_or a (option_or b c)
or_else_assoc None b c = refl
or_else_assoc (Some x) b c = refl

pub parent-append : (r : Revision) (ls ms : List Link) → parent_of r (ls ++ ms) ≡ option_or (parent_of r ls) (parent_of r ms)
parent-append r [] ms = refl
parent-append r (l ∷ ls) ms = elim (two (same_revision r l.rev)) [
  | inl t ↦ rw (t, parent-append r ls ms) (sym (or_else_assoc l.parent (parent_of r ls) (parent_of r ms)))
  | inr f ↦ rw f (parent-append r ls ms)
]

pub has_child-append : (r : Revision) (ls ms : List Link) → has_child r (ls ++ ms) ≡ has_child r ls || has_child r ms
has_child-append r [] ms = refl
has_child-append r (l ∷ ls) ms = elim (two (is_this r l.parent)) [ inl t ↦ rw t refl | inr f ↦ rw f (has_child-append r ls ms) ]

pub all_links-append : (h g : Paths) → all_links (h ++ g) ≡ all_links h ++ all_links g
all_links-append [] g = refl
all_links-append (p ∷ h) g = rw (all_links-append h g) (sym (append_assoc (links p.revs) (all_links h) (all_links g)))

-- an unknown revision has no parent
pub unknown_parent : (r : Revision) (ls : List Link) → is_known r ls ≡ false → parent_of r ls ≡ None
unknown_parent r [] h = refl
unknown_parent r (l ∷ ls) h = elim (two (same_revision r l.rev)) [
  | inl t ↦ absurd (let k : true ≡ false = rw t at h in cc)
  | inr f ↦ let k : is_known r ls ≡ false = rw f at h in rw f (unknown_parent r ls k)
]

or_none : {A : Type 0} (a : Option A) → a ≡ option_or a None
or_none None = refl
or_none (Some x) = refl

-- the known parent after one more link, which stands before links that do not have its revision
pub known_parent-put-before : (r : Revision) (ls ms : List Link) (l : Link) → is_known l.rev ms ≡ false → put l r (known_parent r (ls ++ ms)) ≡ known_parent r (ls ++ l ∷ ms)
known_parent-put-before r ls ms l new = rw (known-append r ls ms, parent-append r ls ms, known-append r ls (l ∷ ms), parent-append r ls (l ∷ ms)) (elim (two (same_revision r l.rev)) [
  | inl t ↦
      let u : is_known r ms ≡ false = ap (λ x. is_known x ms) (same_is r l.rev t) ∙ new in
      elim (two (is_known r ls)) [
        | inl k ↦ rw (t, k, unknown_parent r ms u) (ap Some (rest (parent_of r ls) l.parent))
        | inr k ↦ rw (t, k, u, unknown_parent r ms u, unknown_parent r ls k) (ap Some (or_none l.parent))
      ]
  | inr f ↦ rw f refl
])
  where
    rest : (a b : Option Revision) → option_or (option_or a None) b ≡ option_or a (option_or b None)
    rest None None = refl
    rest None (Some y) = refl
    rest (Some x) b = refl

-- a given parent agrees with the looked-up one exactly if it agrees with the known one
pub agrees_known_parent : (r : Revision) (ls : List Link) (q : Option Revision) → agrees_found (known_parent r ls) q ≡ agrees (parent_of r ls) q
agrees_known_parent r ls q = elim (two (is_known r ls)) [
  | inl k ↦ rw k refl
  | inr k ↦ rw (k, unknown_parent r ls k) refl
]

-- a looked-up revision is known with a parent exactly if the revision is known and the parent is the known one
pub held_known_parent : (r : Revision) (ls : List Link) (q : Option Revision) → known_found (known_parent r ls) q ≡ is_known r ls && gives (parent_of r ls) q
held_known_parent r ls q = elim (two (is_known r ls)) [
  | inl k ↦ rw k refl
  | inr k ↦ rw k refl
]
