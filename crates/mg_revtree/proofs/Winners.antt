-- The winner of a history is the first of its leaves, and no leaf is better.
use Rattle.std.proofs.Common.{◌≡◌, ◌<◌, Bool, Option, Some, None, List, [], ◌∷◌, length, get_or, ◌⊎◌, inl, inr, refl, ap, sym, ◌∙◌, subst, arith}
use Rattle.std.specs.declared.cmp.Ordering.TheVariants.{Less}
use Rattle.mg_value.specs.Value.{Value}
use Rattle.mg_revtree.specs.Revision.{Revision, same_revision}
use Rattle.mg_revtree.specs.History.{Leaf, Paths, leaf_at, IsLeaf, first_of, leaf_order, leaves_of, winner_of}
use Rattle.mg_revtree.specs.Laws.{WinnerIsBest, DeletedDoNotWin}
use Rattle.mg_revtree.specs.Tree.{leaf_in, AreLeaves}
use Rattle.mg_revtree.proofs.Same.{two, same_is, same_refl}
use Rattle.mg_revtree.proofs.Ranks.{leaf_total, in_less, irreflexive}
use Rattle.mg_revtree.proofs.Tips.{same_leaf}
use Rattle.mg_revtree.proofs.Lists.{are_leaves, leaves_list}

-- ---- where a list of the leaves is known

pub no_winner : (h : Paths) → AreLeaves h [] → winner_of h ≡ None
no_winner h leaves = ap first_of (sym (leaves_list h [] leaves))

pub first_wins : (h : Paths) (l : Leaf) (ls : List Leaf) → AreLeaves h (l ∷ ls) → winner_of h ≡ Some l
first_wins h l ls leaves = ap first_of (sym (leaves_list h (l ∷ ls) leaves))

pub front_wins : (h : Paths) (l : Leaf) (ls : List Leaf) → 0 < length ls → l ≡ get_or ls 0 l → AreLeaves h ls → winner_of h ≡ Some l
front_wins h l [] lt is leaves = absurd (omega arith)
front_wins h l (m ∷ ls) lt is leaves = first_wins h m ls leaves ∙ ap Some (sym is)

pub none_wins : (h : Paths) (ls : List Leaf) → length ls ≡ 0 → AreLeaves h ls → winner_of h ≡ None
none_wins h [] e leaves = no_winner h leaves
none_wins h (l ∷ ls) e leaves = absurd (omega (arith, e))

-- the same leaves have the same winner
pub same_winner : (h g : Paths) → ((r : Revision) → leaf_at r h ≡ leaf_at r g) → winner_of h ≡ winner_of g
same_winner h g same =
    let has = are_leaves h in
    ap first_of (leaves_list g (leaves_of h) (record { same = λ r. has.same r ∙ same r; apart = has.apart; ranked = has.ranked }))

-- ---- a winner and the leaves

-- a leaf that is b or worse
abbrev IsAtMost : Leaf → Leaf → Type 0
IsAtMost b l = (l ≡ b) ⊎ (leaf_order l b ≡ Less)

first_at_most : (h : Paths) (l : Leaf) (ls : List Leaf) → AreLeaves h (l ∷ ls) → (m : Leaf) → IsLeaf h m → IsAtMost l m
first_at_most h l ls leaves m is =
    let e : leaf_in m.rev (l ∷ ls) ≡ Some (m.deleted, m.body) = leaves.same m.rev ∙ is in
    elim (two (same_revision m.rev l.rev)) [
      | inl t ↦
          let f : ◌≡◌ {A = Option (Bool × Value)} (Some (l.deleted, l.body)) (Some (m.deleted, m.body)) = rw t at e in
          inl (same_leaf m l (same_is m.rev l.rev t) f)
      | inr f ↦ let g : leaf_in m.rev ls ≡ Some (m.deleted, m.body) = rw f at e in inr (in_less l m ls leaves.ranked.0 g)
    ]

-- a winner is a leaf, and each leaf is at most the winner
winner_leaf : (h : Paths) (w : Leaf) → winner_of h ≡ Some w → IsLeaf h w × ((l : Leaf) → IsLeaf h l → IsAtMost w l)
winner_leaf h w e = go (leaves_of h) (are_leaves h) e
  where
    go : (ls : List Leaf) → AreLeaves h ls → first_of ls ≡ Some w → IsLeaf h w × ((l : Leaf) → IsLeaf h l → IsAtMost w l)
    go [] has f = cc
    go (l ∷ ls) has f =
        let same : l ≡ w = cc in
        let leaf : IsLeaf h l = sym (has.same l.rev) ∙ rw (same_refl l.rev) refl in
        subst (λ (x : Leaf). IsLeaf h x × ((m : Leaf) → IsLeaf h m → IsAtMost x m)) same (leaf, first_at_most h l ls has)

-- where there is no winner, there is no leaf
pub no_winner_leaf : (h : Paths) (l : Leaf) → winner_of h ≡ None → IsLeaf h l → ⊥
no_winner_leaf h l e leaf = go (leaves_of h) (are_leaves h) e
  where
    go : (ls : List Leaf) → AreLeaves h ls → first_of ls ≡ None → ⊥
    go [] has f = let k : ◌≡◌ {A = Option (Bool × Value)} None (Some (l.deleted, l.body)) = has.same l.rev ∙ leaf in cc
    go (m ∷ ms) has f = cc

pub winner_is_best : WinnerIsBest
winner_is_best h w e =
    let d = winner_leaf h w e in (
      d.0,
      λ l leaf lt. elim (d.1 l leaf) [
        | inl s ↦ irreflexive w (subst (λ (x : Leaf). leaf_order w x ≡ Less) s lt)
        | inr m ↦ irreflexive w (leaf_total.trans w l w lt m)
      ],
    )

pub deleted_do_not_win : DeletedDoNotWin
deleted_do_not_win h w l e leaf alive = elim (two w.deleted) [
  | inr f ↦ f
  | inl t ↦ absurd ((winner_is_best h w e).1 l leaf (rw (t, alive) refl))
]
