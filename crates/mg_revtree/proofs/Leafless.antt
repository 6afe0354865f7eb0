-- A history with a known revision has a leaf: the parents of revisions lie below them, so one at the top is nobody's parent.
use Rattle.std.proofs.Common.{◌≡◌, ℕ, zero, suc, ◌+◌, ◌-◌, ◌≤◌, ◌||◌, ◌&&◌, length, nat_lt, nat_le, max, Bool, true, false, Option, Some, None, is_some, List, [], ◌∷◌, inl, inr, refl, ap, sym, ◌∙◌, subst, arith}
use Rattle.std.specs.List.{list_all}
use Rattle.std.proofs.lemmas.Option.{cond_some}
use Rattle.std.proofs.lemmas.Bool.Decides.{nat_tests}
use Rattle.mg_value.specs.Value.{Value}
use Rattle.mg_revtree.specs.Revision.{Revision, is_revision_id, run_from, same_revision}
use Rattle.mg_revtree.specs.History.{Link, Paths, all_links, has_child, is_known, links, marked, winner_of}
use Rattle.mg_revtree.specs.Changes.{next_revision, run_over}
use Rattle.mg_revtree.specs.Laws.{Falls, AllFall, NoWinnerNothingKnown, PathsFall}
use Rattle.mg_revtree.proofs.Same.{two, same_is, same_refl}
use Rattle.mg_revtree.proofs.Joins.{known-append, has_child-append}
use Rattle.mg_revtree.proofs.Leaves.{leaf_marked}
use Rattle.mg_revtree.proofs.Winners.{no_winner_leaf}

-- a known revision one position above r
abbrev IsAbove : Revision → List Link → Type 0
IsAbove r ls = (q : Revision) × (is_known q ls ≡ true) × (q.0 ≡ r.0 + 1)

or_true : (b : Bool) → b || true ≡ true
or_true true = refl
or_true false = refl

child_in_run : (r : Revision) (rs : List Revision) → Falls rs → has_child r (links rs) ≡ true → IsAbove r (links rs)
child_in_run r [] falls h = cc
child_in_run r (a ∷ []) falls h = cc
child_in_run r (a ∷ b ∷ rs) falls h = elim (two (same_revision r b)) [
  | inl t ↦ (a, rw (same_refl a) refl, falls.0 ∙ ap (λ (x : Revision). x.0 + 1) (sym (same_is r b t)))
  | inr f ↦
      let g : has_child r (links (b ∷ rs)) ≡ true = rw f at h in
      let d = child_in_run r (b ∷ rs) falls.1 g in
      (d.0, ap (λ x. same_revision d.0 a || x) d.1 ∙ or_true (same_revision d.0 a), d.2)
]

child_above : (r : Revision) (h : Paths) → AllFall h → has_child r (all_links h) ≡ true → IsAbove r (all_links h)
child_above r [] fall e = cc
child_above r (p ∷ h) fall e =
    let f : has_child r (links p.revs) || has_child r (all_links h) ≡ true = sym (has_child-append r (links p.revs) (all_links h)) ∙ e in
    elim (two (has_child r (links p.revs))) [
      | inl t ↦ let d = child_in_run r p.revs fall.0 t in (d.0, known-append d.0 (links p.revs) (all_links h) ∙ ap (λ x. x || is_known d.0 (all_links h)) d.1, d.2)
      | inr n ↦
          let k : has_child r (all_links h) ≡ true = rw n at f in
          let d = child_above r h fall.1 k in
          (d.0, known-append d.0 (links p.revs) (all_links h) ∙ ap (λ x. is_known d.0 (links p.revs) || x) d.1 ∙ or_true (is_known d.0 (links p.revs)), d.2)
    ]

-- a position that no known revision exceeds
top : List Link → ℕ
top [] = 0
top (l ∷ ls) = max l.rev.0 (top ls)

under_top : (r : Revision) (ls : List Link) → is_known r ls ≡ true → r.0 ≤ top ls
unfolding top
under_top r [] k = cc
under_top r (l ∷ ls) k = elim (two (same_revision r l.rev)) [
  | inl t ↦ let e : r.0 ≡ l.rev.0 = ap (λ (x : Revision). x.0) (same_is r l.rev t) in omega (arith, e)
  | inr f ↦ let g : is_known r ls ≡ true = rw f at k in omega (arith, under_top r ls g)
]

-- a known revision that is nobody's parent is a leaf
no_top : (h : Paths) → winner_of h ≡ None → (r : Revision) → is_known r (all_links h) ≡ true → has_child r (all_links h) ≡ false → ⊥
no_top h none r known f = leaf (marked r h) refl (leaf_marked r h known f)
  where
    leaf : (m : Option (Bool × Value)) → marked r h ≡ m → is_some (marked r h) ≡ true → ⊥
    leaf None e s = let k : false ≡ true = sym (ap is_some e) ∙ s in cc
    leaf (Some m) e s = no_winner_leaf h (record { rev = r; deleted = m.0; body = m.1 }) none (rw (f, e) refl)

-- a climb from a known revision to its children ends at one that is nobody's parent
climbs : (h : Paths) → AllFall h → winner_of h ≡ None → (fuel : ℕ) (r : Revision) → is_known r (all_links h) ≡ true → top (all_links h) ≤ r.0 + fuel → ⊥
climbs h fall none zero r known le = elim (two (has_child r (all_links h))) [
  | inr f ↦ no_top h none r known f
  | inl t ↦
      let d = child_above r h fall t in
      let b : d.0.0 ≤ top (all_links h) = under_top d.0 (all_links h) d.1 in
      absurd (omega (arith, le, b, d.2))
]
climbs h fall none (suc n) r known le = elim (two (has_child r (all_links h))) [
  | inr f ↦ no_top h none r known f
  | inl t ↦ let d = child_above r h fall t in climbs h fall none n d.0 d.1 (omega (arith, le, d.2))
]

pub no_winner_nothing_known : NoWinnerNothingKnown
no_winner_nothing_known h fall none r = elim (two (is_known r (all_links h))) [
  | inr f ↦ f
  | inl t ↦ absurd (climbs h fall none (top (all_links h)) r t (omega arith))
]

-- ---- the paths that a document can accept

falls_from : (n : ℕ) (ids : List (List ℕ)) → length ids ≤ n → Falls (run_from n ids)
falls_from n [] fits = tt
falls_from n (a ∷ []) fits = tt
falls_from n (a ∷ b ∷ ids) fits = (omega arith, falls_from (n - 1) (b ∷ ids) (omega arith))

and_true : (a b : Bool) → a && b ≡ true → (a ≡ true) × (b ≡ true)
and_true true b h = (refl, h)
and_true false b h = cc

pub paths_fall : PathsFall
paths_fall = record {
  runs = λ n ids rs is.
      let c = cond_some (nat_lt 0 (length ids) && (nat_le (length ids) n && list_all is_revision_id ids)) (run_from n ids) rs is in
      let t : nat_le (length ids) n ≡ true = (and_true (nat_le (length ids) n) (list_all is_revision_id ids) (and_true (nat_lt 0 (length ids)) (nat_le (length ids) n && list_all is_revision_id ids) c.0).1).0 in
      let le : length ids ≤ n = grind (arith, nat_tests) in
      subst Falls c.1 (falls_from n ids le);
  extensions = λ base id d b. over base id;
}
  where
    over : (base : Option Revision) (id : List ℕ) → Falls (run_over (next_revision base id) base)
    over None id = tt
    over (Some q) id = (refl, tt)
