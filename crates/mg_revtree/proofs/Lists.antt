-- The list of the leaves: what a history says of each revision decides it.
use Rattle.std.proofs.Common.{◌≡◌, ◌<◌, ℕ, zero, suc, length, get_or, arith, Bool, true, false, Option, Some, None, is_some, List, [], ◌∷◌, filter, filter_map, inl, inr, refl, ap, sym, ◌∙◌, subst}
use Rattle.std.specs.declared.cmp.Ordering.{Ordering}
use Rattle.std.specs.declared.cmp.Ordering.TheVariants.{Less, Equal, Greater}
use Rattle.mg_value.specs.Value.{Value}
use Rattle.mg_revtree.specs.Revision.{Revision, same_revision}
use Rattle.mg_revtree.specs.History.{Leaf, Paths, leaf_at, leaf_order, leaves_of, ranked, ranked_with, tip_of, IsLeaf}
use Rattle.mg_revtree.specs.Tree.{leaf_in, AreApart, AreLeaves, AreRanked, BeforeAll}
use Rattle.mg_revtree.proofs.Same.{two, same_is, same_refl}
use Rattle.mg_revtree.proofs.Ranks.{leaf_total, are_ranked, tied_same, irreflexive}
use Rattle.mg_revtree.proofs.Tips.{AreLeavesOf, Has, same_leaf, tips_are_leaves, tip_has}

-- ---- a list and the leaves in it

is_in : (l : Leaf) (ls : List Leaf) → leaf_in l.rev ls ≡ Some (l.deleted, l.body) → Has l ls
is_in l [] e = cc
is_in l (m ∷ ms) e = elim (two (same_revision l.rev m.rev)) [
  | inl t ↦
      let f : ◌≡◌ {A = Option (Bool × Value)} (Some (m.deleted, m.body)) (Some (l.deleted, l.body)) = rw t at e in
      inl (sym (same_leaf l m (same_is l.rev m.rev t) f))
  | inr f ↦ let k : leaf_in l.rev ms ≡ Some (l.deleted, l.body) = rw f at e in inr (is_in l ms k)
]

has_some : (l : Leaf) (ls : List Leaf) → Has l ls → is_some (leaf_in l.rev ls) ≡ true
has_some l [] a = absurd a
has_some l (m ∷ ms) (inl e) = let t : same_revision l.rev m.rev ≡ true = subst (λ (x : Leaf). same_revision l.rev x.rev ≡ true) (sym e) (same_refl l.rev) in rw t refl
has_some l (m ∷ ms) (inr a) = elim (two (same_revision l.rev m.rev)) [ inl t ↦ rw t refl | inr f ↦ rw f (has_some l ms a) ]

has_less : (l m : Leaf) (ls : List Leaf) → BeforeAll l ls → Has m ls → leaf_order m l ≡ Less
has_less l m [] h a = absurd a
has_less l m (x ∷ xs) h (inl e) = subst (λ (y : Leaf). leaf_order y l ≡ Less) e h.0
has_less l m (x ∷ xs) h (inr a) = has_less l m xs h.1 a

of_apart : (l : Leaf) (ls : List Leaf) → AreApart ls → Has l ls → leaf_in l.rev ls ≡ Some (l.deleted, l.body)
of_apart l [] h a = absurd a
of_apart l (m ∷ ms) h (inl e) = subst (λ (x : Leaf). leaf_in x.rev (m ∷ ms) ≡ Some (x.deleted, x.body)) e (rw (same_refl m.rev) refl)
of_apart l (m ∷ ms) h (inr a) =
    let k = of_apart l ms h.1 a in
    elim (two (same_revision l.rev m.rev)) [
      | inl t ↦ absurd (let n : leaf_in l.rev ms ≡ None = ap (λ x. leaf_in x ms) (same_is l.rev m.rev t) ∙ h.0 in let f : ◌≡◌ {A = Option (Bool × Value)} (Some (l.deleted, l.body)) None = sym k ∙ n in cc)
      | inr f ↦ rw f k
    ]

-- ---- ranked lists that have the same leaves

inside : (x y l : Leaf) (xs ys : List Leaf) → x ≡ y → BeforeAll x xs → Has l xs → Has l (y ∷ ys) → Has l ys
inside x y l xs ys e h a (inl f) = absurd (irreflexive l (subst (λ (z : Leaf). leaf_order l z ≡ Less) (e ∙ f) (has_less x l xs h a)))
inside x y l xs ys e h a (inr b) = b

same_front : (x y : Leaf) (xs ys : List Leaf) → BeforeAll x xs → BeforeAll y ys → Has x (y ∷ ys) → Has y (x ∷ xs) → x ≡ y
same_front x y xs ys h k (inl e) b = sym e
same_front x y xs ys h k (inr a) (inl e) = e
same_front x y xs ys h k (inr a) (inr b) = absurd (irreflexive x (leaf_total.trans x y x (has_less y x ys k a) (has_less x y xs h b)))

same_list : (xs ys : List Leaf) → AreRanked xs → AreRanked ys → ((l : Leaf) → Has l xs → Has l ys) → ((l : Leaf) → Has l ys → Has l xs) → xs ≡ ys
same_list [] [] h k there back = refl
same_list [] (y ∷ ys) h k there back = absurd (back y (inl refl))
same_list (x ∷ xs) [] h k there back = absurd (there x (inl refl))
same_list (x ∷ xs) (y ∷ ys) h k there back =
    let e : x ≡ y = same_front x y xs ys h.0 k.0 (there x (inl refl)) (back y (inl refl)) in
    let rest : xs ≡ ys = same_list xs ys h.1 k.1 (λ l a. inside x y l xs ys e h.0 a (there l (inr a))) (λ l a. inside y x l ys xs (sym e) k.0 a (back l (inr a))) in
    ap (λ z. z ∷ xs) e ∙ ap (λ zs. y ∷ zs) rest

-- two ranked lists are equal if they say the same of each revision
pub decided : (xs ys : List Leaf) → AreApart xs → AreApart ys → AreRanked xs → AreRanked ys → ((r : Revision) → leaf_in r xs ≡ leaf_in r ys) → xs ≡ ys
decided xs ys a b h k same = same_list xs ys h k
    (λ l i. is_in l ys (sym (same l.rev) ∙ of_apart l xs a i))
    (λ l i. is_in l xs (same l.rev ∙ of_apart l ys b i))

-- leaves of a history that tie are one leaf
tie : (h : Paths) (l m : Leaf) → IsLeaf h l → IsLeaf h m → leaf_order l m ≡ Equal → m ≡ l
tie h l m a b e =
    let s : l.rev ≡ m.rev = same_is l.rev m.rev (tied_same l m e) in
    same_leaf m l (sym s) (sym a ∙ ap (λ r. leaf_at r h) s ∙ b)

has-with : (h : Paths) (x l : Leaf) (ls : List Leaf) → IsLeaf h l → AreLeavesOf h ls → Has x (l ∷ ls) → Has x (ranked_with l ls)
has-with h x l [] a all i = i
has-with h x l (m ∷ ms) a all i = go (leaf_order l m) refl (has-with h x l ms a all.1) i
  where
    go : (o : Ordering) → leaf_order l m ≡ o → (Has x (l ∷ ms) → Has x (ranked_with l ms)) → Has x (l ∷ m ∷ ms) → Has x (ranked_with l (m ∷ ms))
    go Less e rest (inl s) = rw e (inr (rest (inl s)))
    go Less e rest (inr (inl s)) = rw e (inl s)
    go Less e rest (inr (inr j)) = rw e (inr (rest (inr j)))
    go Equal e rest (inl s) = rw e (inl (tie h l m a all.0 e ∙ s))
    go Equal e rest (inr j) = rw e j
    go Greater e rest j = rw e j

leaves-with : (h : Paths) (l : Leaf) (ls : List Leaf) → IsLeaf h l → AreLeavesOf h ls → AreLeavesOf h (ranked_with l ls)
leaves-with h l [] a all = (a, tt)
leaves-with h l (m ∷ ms) a all = go (leaf_order l m) refl (leaves-with h l ms a all.1)
  where
    go : (o : Ordering) → leaf_order l m ≡ o → AreLeavesOf h (ranked_with l ms) → AreLeavesOf h (ranked_with l (m ∷ ms))
    go Less e rest = rw e (all.0, rest)
    go Equal e rest = rw e all
    go Greater e rest = rw e (a, all)

leaves-ranked : (h : Paths) (ls : List Leaf) → AreLeavesOf h ls → AreLeavesOf h (ranked ls)
leaves-ranked h [] all = tt
leaves-ranked h (l ∷ ls) all = leaves-with h l (ranked ls) all.0 (leaves-ranked h ls all.1)

has-ranked : (h : Paths) (x : Leaf) (ls : List Leaf) → AreLeavesOf h ls → Has x ls → Has x (ranked ls)
has-ranked h x [] all i = absurd i
has-ranked h x (l ∷ ls) all (inl e) = has-with h x l (ranked ls) all.0 (leaves-ranked h ls all.1) (inl e)
has-ranked h x (l ∷ ls) all (inr i) = has-with h x l (ranked ls) all.0 (leaves-ranked h ls all.1) (inr (has-ranked h x ls all.1 i))

-- ---- the leaves of a history

leaf_in_is : (h : Paths) (r : Revision) (ls : List Leaf) (m : Bool × Value) → AreLeavesOf h ls → leaf_in r ls ≡ Some m → leaf_at r h ≡ Some m
leaf_in_is h r [] m all e = cc
leaf_in_is h r (l ∷ ls) m all e = elim (two (same_revision r l.rev)) [
  | inl t ↦
      let f : ◌≡◌ {A = Option (Bool × Value)} (Some (l.deleted, l.body)) (Some m) = rw t at e in
      ap (λ x. leaf_at x h) (same_is r l.rev t) ∙ all.0 ∙ f
  | inr f ↦ let k : leaf_in r ls ≡ Some m = rw f at e in leaf_in_is h r ls m all.1 k
]

-- a list that has each leaf gives each revision the mark and body that the history gives it
says : (h : Paths) (ls : List Leaf) → AreLeavesOf h ls → ((l : Leaf) → IsLeaf h l → Has l ls) → (r : Revision) → leaf_in r ls ≡ leaf_at r h
says h ls all each r = go (leaf_in r ls) refl (leaf_at r h) refl
  where
    go : (o : Option (Bool × Value)) → leaf_in r ls ≡ o → (p : Option (Bool × Value)) → leaf_at r h ≡ p → leaf_in r ls ≡ leaf_at r h
    go (Some m) e p f = e ∙ sym (leaf_in_is h r ls m all e)
    go None e None f = e ∙ sym f
    go None e (Some m) f =
        let leaf : Leaf = record { rev = r; deleted = m.0; body = m.1 } in
        absurd (let t : true ≡ false = sym (has_some leaf ls (each leaf f)) ∙ ap is_some e in cc)

-- ranked leaves of a history are of different revisions
ranked_apart : (h : Paths) (ls : List Leaf) → AreLeavesOf h ls → AreRanked ls → AreApart ls
ranked_apart h [] all k = tt
ranked_apart h (l ∷ ls) all k = (go (leaf_in l.rev ls) refl, ranked_apart h ls all.1 k.1)
  where
    go : (o : Option (Bool × Value)) → leaf_in l.rev ls ≡ o → leaf_in l.rev ls ≡ None
    go None e = e
    go (Some m) e = absurd (irreflexive l (has_less l l ls k.0 (is_in l ls (e ∙ sym (leaf_in_is h l.rev ls m all.1 e) ∙ all.0))))

pub are_leaves : (h : Paths) → AreLeaves h (leaves_of h)
are_leaves h =
    let tips = filter_map (tip_of h) h in
    let all = leaves-ranked h tips (tips_are_leaves h h) in
    record {
      same = says h (leaves_of h) all (λ l leaf. has-ranked h l tips (tips_are_leaves h h) (tip_has h l leaf));
      apart = ranked_apart h (leaves_of h) all (are_ranked tips);
      ranked = are_ranked tips;
    }

pub leaves_list : (h : Paths) (ls : List Leaf) → AreLeaves h ls → ls ≡ leaves_of h
leaves_list h ls is = let has = are_leaves h in decided ls (leaves_of h) is.apart has.apart is.ranked has.ranked (λ r. is.same r ∙ sym (has.same r))

-- if a test keeps a leaf of a list, the kept leaves are not empty
pub kept_somewhere : (keep : Leaf → Bool) (ls : List Leaf) (i : ℕ) (l : Leaf) → i < length ls → keep l ≡ true → l ≡ get_or ls i l → filter keep ls ≡ [] → ⊥
kept_somewhere keep [] i l lt holds is none = omega (arith, lt)
kept_somewhere keep (m ∷ ms) zero l lt holds is none = let t : keep m ≡ true = ap keep (sym is) ∙ holds in let f : m ∷ filter keep ms ≡ [] = rw t at none in cc
kept_somewhere keep (m ∷ ms) (suc i) l lt holds is none = elim (two (keep m)) [
  | inl t ↦ let f : m ∷ filter keep ms ≡ [] = rw t at none in cc
  | inr n ↦ let f : filter keep ms ≡ [] = rw n at none in kept_somewhere keep ms i l (omega (arith, lt)) holds is f
]
