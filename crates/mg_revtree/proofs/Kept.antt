-- Links in order with more of them, and what two lists keep of a revision.
use Rattle.std.proofs.Common.{◌≡◌, ℕ, zero, suc, true, false, Bor, Option, Some, None, option_copied, option_map, Result, Ok, Err, IfOk, List, [], ◌∷◌, ◌++◌, inl, inr, get_or, take, drop, if◌then◌else◌, refl, ap, sym, ◌∙◌, subst, append_assoc, append-nil}
use Rattle.std.specs.Ordering.{is_eq, ordering_reverse, match_ordering}
use Rattle.std.specs.declared.cmp.Ordering.{Ordering}
use Rattle.std.specs.declared.cmp.Ordering.TheVariants.{Less, Equal, Greater}
use Rattle.std.specs.Option.{option_flatten, option_or}
use Rattle.mg_revtree.specs.Revision.{Revision, revision_order, same_revision}
use Rattle.mg_revtree.specs.History.{Link, is_known, parent_of}
use Rattle.mg_revtree.specs.Tree.{AreKnownLinks, AreSorted, IsBelow, find, known_parent}
use Rattle.mg_revtree.specs.Steps.{BelongsAt, IsLinkAt, joined_found, put}
use Rattle.mg_revtree.specs.Known.{AreBelow, parent_below, with_link, with_links}
use Rattle.mg_revtree.proofs.Same.{two, same_is, apart, revision_total}
use Rattle.mg_revtree.proofs.Find.{below_none}
use Rattle.mg_revtree.proofs.Joins.{known-append, or_else_assoc, parent-append, unknown_parent}
use Rattle.mg_revtree.proofs.Rooms.{sorted_front}

-- what both lists say of a revision, from what the older one says and what the newer one says
abbrev kept_by_both : Option (Option Revision) → Option (Option Revision) → Option (Option Revision)
kept_by_both o None = o
kept_by_both o (Some q) = joined_found o q

reversed : (a b : Revision) → revision_order a b ≡ Less → revision_order b a ≡ Greater
reversed a b h = revision_total.antisymm b a ∙ ap ordering_reverse h

-- ---- one more link

-- a link that is inserted at its gap
pub gap_with : (l : Link) (ls : List Link) (i : ℕ) → BelongsAt l.rev ls i → take i ls ++ l ∷ drop i ls ≡ with_link l ls
gap_with l [] zero h = refl
gap_with l (m ∷ ms) zero h = let e : revision_order l.rev m.rev ≡ Less = h.0 in rw e refl
gap_with l [] (suc i) h = absurd h
gap_with l (m ∷ ms) (suc i) h = let e : revision_order l.rev m.rev ≡ Greater = reversed m.rev l.rev h.0 in rw e (ap (λ xs. m ∷ xs) (gap_with l ms i h.1))

-- those before it are below it
pub gap_above : (r : Revision) (ls : List Link) (i : ℕ) → BelongsAt r ls i → AreBelow r (take i ls)
gap_above r [] zero h = tt
gap_above r (l ∷ ls) zero h = tt
gap_above r [] (suc i) h = absurd h
gap_above r (l ∷ ls) (suc i) h = (h.0, gap_above r ls i h.1)

-- a revision below links is below the one at a place among them
place_above : (a r : Revision) (ls : List Link) (i : ℕ) → IsBelow a ls → IsLinkAt r ls i → revision_order a r ≡ Less
place_above a r [] i h place = absurd place
place_above a r (l ∷ ls) zero h place = let e : l.rev ≡ r = sym (same_is r l.rev place) in subst (λ (x : Revision). revision_order a x ≡ Less) e h.0
place_above a r (l ∷ ls) (suc i) h place = place_above a r ls i h.1 place.1

same_equal : (a b : Revision) → same_revision a b ≡ true → revision_order a b ≡ Equal
same_equal a b h = go (revision_order a b) refl
  where
    go : (o : Ordering) → revision_order a b ≡ o → o ≡ Equal
    go Less e = absurd (let f : is_eq (revision_order a b) ≡ false = ap is_eq e in cc)
    go Equal e = refl
    go Greater e = absurd (let f : is_eq (revision_order a b) ≡ false = ap is_eq e in cc)

-- a link that is joined to the link of its revision
pub place_with : (l x : Link) (ls : List Link) (i : ℕ) → AreSorted ls → IsLinkAt l.rev ls i → x ≡ get_or ls i x → take i ls ++ record x { parent = option_or x.parent l.parent } ∷ drop (suc i) ls ≡ with_link l ls
place_with l x [] i s place is = absurd place
place_with l x (m ∷ ms) zero s place is =
    let e : revision_order l.rev m.rev ≡ Equal = same_equal l.rev m.rev place in
    rw e (ap (λ (y : Link). record y { parent = option_or y.parent l.parent } ∷ ms) is)
place_with l x (m ∷ ms) (suc i) s place is =
    let e : revision_order l.rev m.rev ≡ Greater = reversed m.rev l.rev (place_above m.rev l.rev ms i s.0 place.1) in
    rw e (ap (λ xs. m ∷ xs) (place_with l x ms i s.1 place.1 is))

-- those before it are below it
pub place_below : (r : Revision) (ls : List Link) (i : ℕ) → AreSorted ls → IsLinkAt r ls i → AreBelow r (take i ls)
place_below r [] i s place = absurd place
place_below r (l ∷ ls) zero s place = tt
place_below r (l ∷ ls) (suc i) s place = (place_above l.rev r ls i s.0 place.1, place_below r ls i s.1 place.1)

-- links below a revision that is less
pub are_below_less : (a b : Revision) (ls : List Link) → revision_order a b ≡ Less → AreBelow a ls → AreBelow b ls
are_below_less a b [] lt h = tt
are_below_less a b (l ∷ ls) lt h = (revision_total.trans l.rev a b h.0 lt, are_below_less a b ls lt h.1)

pub are_below-append : (r : Revision) (ls ms : List Link) → AreBelow r ls → AreBelow r ms → AreBelow r (ls ++ ms)
are_below-append r [] ms h k = k
are_below-append r (l ∷ ls) ms h k = (h.0, are_below-append r ls ms h.1 k)

-- one more link goes after those below it
pub with_passed : (l : Link) (ls ms : List Link) → AreBelow l.rev ls → with_link l (ls ++ ms) ≡ ls ++ with_link l ms
with_passed l [] ms h = refl
with_passed l (k ∷ ls) ms h = let e : revision_order l.rev k.rev ≡ Greater = reversed k.rev l.rev h.0 in rw e (ap (λ xs. k ∷ xs) (with_passed l ls ms h.1))

below_more : (a b : Revision) (ls : List Link) → revision_order a b ≡ Less → IsBelow b ls → IsBelow a ls
below_more a b [] lt h = tt
below_more a b (l ∷ ls) lt h = (revision_total.trans a b l.rev lt h.0, below_more a b ls lt h.1)

below_with : (a : Revision) (l : Link) (ls : List Link) → revision_order a l.rev ≡ Less → IsBelow a ls → IsBelow a (with_link l ls)
below_with a l [] lt h = (lt, tt)
below_with a l (m ∷ ms) lt h = go (revision_order l.rev m.rev) (below_with a l ms lt h.1)
  where
    go : (o : Ordering) → IsBelow a (with_link l ms) → IsBelow a (match_ordering o (l ∷ m ∷ ms) (record m { parent = option_or m.parent l.parent } ∷ ms) (m ∷ with_link l ms))
    go Less more = (lt, h)
    go Equal more = h
    go Greater more = (h.0, more)

sorted_with : (l : Link) (ls : List Link) → AreSorted ls → AreSorted (with_link l ls)
sorted_with l [] s = (tt, tt)
sorted_with l (m ∷ ms) s = go (revision_order l.rev m.rev) refl (sorted_with l ms s.1)
  where
    go : (o : Ordering) → revision_order l.rev m.rev ≡ o → AreSorted (with_link l ms) → AreSorted (match_ordering o (l ∷ m ∷ ms) (record m { parent = option_or m.parent l.parent } ∷ ms) (m ∷ with_link l ms))
    go Less e more = ((e, below_more l.rev m.rev ms e s.0), s)
    go Equal e more = s
    go Greater e more = (below_with m.rev l ms (revision_total.antisymm m.rev l.rev ∙ ap ordering_reverse e) s.0, more)

-- what is found of each revision after one more link
find_with : (l : Link) (ls : List Link) → AreSorted ls → (r : Revision) → find r (with_link l ls) ≡ put l r (find r ls)
find_with l [] s r = elim (two (same_revision r l.rev)) [ inl t ↦ rw t refl | inr f ↦ rw f refl ]
find_with l (m ∷ ms) s r = go (revision_order l.rev m.rev) refl (find_with l ms s.1 r)
  where
    go : (o : Ordering) → revision_order l.rev m.rev ≡ o → find r (with_link l ms) ≡ put l r (find r ms) → find r (match_ordering o (l ∷ m ∷ ms) (record m { parent = option_or m.parent l.parent } ∷ ms) (m ∷ with_link l ms)) ≡ put l r (find r (m ∷ ms))
    go Less e more = elim (two (same_revision r l.rev)) [
      | inl t ↦
          let is : r ≡ l.rev = same_is r l.rev t in
          let b : IsBelow l.rev (m ∷ ms) = (e, below_more l.rev m.rev ms e s.0) in
          let none : find r (m ∷ ms) ≡ None = ap (λ x. find x (m ∷ ms)) is ∙ below_none l.rev (m ∷ ms) b in
          ap (λ (b : _). if b then Some l.parent else find r (m ∷ ms)) t ∙ sym (ap (λ o. put l r o) none ∙ ap (λ (b : _). if b then Some l.parent else None) t)
      | inr f ↦ rw f refl
    ]
    go Equal e more =
        let is : l.rev ≡ m.rev = same_is l.rev m.rev (ap is_eq e) in
        elim (two (same_revision r m.rev)) [ inl t ↦ rw (is, t) refl | inr f ↦ rw (is, f) refl ]
    go Greater e more = elim (two (same_revision r m.rev)) [
      | inl t ↦ let d : same_revision l.rev m.rev ≡ false = ap is_eq e in rw (t, apart r l.rev m.rev d t) refl
      | inr f ↦ rw f more
    ]

-- ---- more links

pub sorted_all : (older newer : List Link) → AreSorted older → AreSorted (with_links older newer)
sorted_all older [] s = s
sorted_all older (l ∷ newer) s = sorted_all (with_link l older) newer (sorted_with l older s)

find_all : (older newer : List Link) → AreSorted older → AreSorted newer → (r : Revision) → find r (with_links older newer) ≡ kept_by_both (find r older) (find r newer)
find_all older [] s n r = refl
find_all older (l ∷ newer) s n r =
    find_all (with_link l older) newer (sorted_with l older s) n.1 r
    ∙ ap (λ o. kept_by_both o (find r newer)) (find_with l older s r)
    ∙ elim (two (same_revision r l.rev)) [
      | inl t ↦
          let none : find r newer ≡ None = ap (λ x. find x newer) (same_is r l.rev t) ∙ below_none l.rev newer n.0 in
          rw (t, none) refl
      | inr f ↦ rw f refl
    ]

-- one more of the newer links
pub with_more : (older newer : List Link) (l : Link) → with_link l (with_links older newer) ≡ with_links older (newer ++ l ∷ [])
with_more older [] l = refl
with_more older (m ∷ newer) l = with_more (with_link m older) newer l

-- a link that is above all
with_last : (l : Link) (ls : List Link) → AreSorted (ls ++ l ∷ []) → with_link l ls ≡ ls ++ l ∷ []
with_last l [] s = refl
with_last l (m ∷ ms) s =
    let e : revision_order l.rev m.rev ≡ Greater = reversed m.rev l.rev (last_above m.rev ms s.0) in
    rw e (ap (λ xs. m ∷ xs) (with_last l ms s.1))
  where
    last_above : (a : Revision) (ks : List Link) → IsBelow a (ks ++ l ∷ []) → revision_order a l.rev ≡ Less
    last_above a [] h = h.0
    last_above a (k ∷ ks) h = last_above a ks h.1

with_after : (ls newer : List Link) → AreSorted (ls ++ newer) → with_links ls newer ≡ ls ++ newer
with_after ls [] s = sym (append-nil ls)
with_after ls (l ∷ newer) s =
    let one : (ls ++ l ∷ []) ++ newer ≡ ls ++ l ∷ newer = append_assoc ls (l ∷ []) newer in
    let t : AreSorted ((ls ++ l ∷ []) ++ newer) = subst AreSorted (sym one) s in
    ap (λ xs. with_links xs newer) (with_last l ls (sorted_front (ls ++ l ∷ []) newer t)) ∙ with_after (ls ++ l ∷ []) newer t ∙ one

-- links in order, joined to the empty list
with_none : (newer : List Link) → AreSorted newer → newer ≡ with_links [] newer
with_none newer s = sym (with_after [] newer s)

pub copy_with : {E : Type 0} (older newer : List Link) (o : Result (List Link) E) → older ≡ [] → IfOk o (λ ls. ls ≡ newer) → IfOk o (λ ls. AreSorted older → AreSorted newer → ls ≡ with_links older newer)
copy_with older newer (Ok ls) is h = λ s n. h ∙ with_none newer n ∙ ap (λ xs. with_links xs newer) (sym is)
copy_with older newer (Err e) is h = tt

-- ---- what links say of themselves

below_unknown : (r : Revision) (ls : List Link) → IsBelow r ls → is_known r ls ≡ false
below_unknown r [] h = refl
below_unknown r (l ∷ ls) h = let e : same_revision r l.rev ≡ false = ap is_eq h.0 in rw e (below_unknown r ls h.1)

or_none : {A : Type 0} (a : Option A) → a ≡ option_or a None
or_none None = refl
or_none (Some x) = refl

self_same : (ls : List Link) → AreSorted ls → (r : Revision) → find r ls ≡ known_parent r ls
self_same [] s r = refl
self_same (l ∷ ls) s r = elim (two (same_revision r l.rev)) [
  | inl t ↦
      let none : parent_of r ls ≡ None = unknown_parent r ls (ap (λ x. is_known x ls) (same_is r l.rev t) ∙ below_unknown l.rev ls s.0) in
      rw (t, none) (ap Some (or_none l.parent))
  | inr f ↦ rw f (self_same ls s.1 r)
]

pub known_links_self : (ls : List Link) → AreSorted ls → AreKnownLinks ls ls
known_links_self ls s = record { same = self_same ls s; sorted = s }

-- ---- two lists

known_parent-append : (r : Revision) (ls ms : List Link) → kept_by_both (known_parent r ls) (known_parent r ms) ≡ known_parent r (ls ++ ms)
known_parent-append r ls ms = rw (known-append r ls ms, parent-append r ls ms) (elim (two (is_known r ls)) [
  | inl k ↦ elim (two (is_known r ms)) [
    | inl j ↦ rw (k, j) refl
    | inr j ↦ rw (k, j, unknown_parent r ms j) (ap Some (or_none (parent_of r ls)))
  ]
  | inr k ↦ elim (two (is_known r ms)) [
    | inl j ↦ rw (k, j, unknown_parent r ls k) refl
    | inr j ↦ rw (k, j) refl
  ]
])

both_assoc : (a b c : Option (Option Revision)) → kept_by_both a (kept_by_both b c) ≡ kept_by_both (kept_by_both a b) c
both_assoc a b None = refl
both_assoc a None (Some r) = refl
both_assoc None (Some q) (Some r) = refl
both_assoc (Some p) (Some q) (Some r) = ap Some (sym (or_else_assoc p q r))

module _ (older newer all : List Link) (s : AreSorted older) (n : AreSorted newer) (is : with_links older newer ≡ all) (r : Revision) where
  found : kept_by_both (find r older) (find r newer) ≡ find r all
  found = sym (find_all older newer s n r) ∙ ap (find r) is

  -- the older list has a parent
  pub found_older : (q : Revision) → Some (Some q) ≡ find r older → Some (Some q) ≡ find r all
  found_older q e = some (find r newer) ∙ ap (λ o. kept_by_both o (find r newer)) e ∙ found
    where
      some : (o : Option (Option Revision)) → Some (Some q) ≡ kept_by_both (Some (Some q)) o
      some None = refl
      some (Some p) = refl

  -- it has none
  pub found_both : (o : Option (Option Revision)) → Some None ≡ find r older → o ≡ find r newer → Some (option_flatten o) ≡ find r all
  found_both o e f = some o ∙ ap (kept_by_both (Some None)) f ∙ ap (λ p. kept_by_both p (find r newer)) e ∙ found
    where
      some : (p : Option (Option Revision)) → Some (option_flatten p) ≡ kept_by_both (Some None) p
      some None = refl
      some (Some q) = refl

  -- the revision is not in it
  pub found_newer : (o : Option (Option Revision)) → None ≡ find r older → o ≡ find r newer → o ≡ find r all
  found_newer o e f = some o ∙ ap (kept_by_both None) f ∙ ap (λ p. kept_by_both p (find r newer)) e ∙ found
    where
      some : (p : Option (Option Revision)) → p ≡ kept_by_both None p
      some None = refl
      some (Some q) = refl

-- the parent of a flattened look-up is the flattened parent
pub parent_flat : (n : ℕ) (o : Option (Option (Bor (List ℕ)))) → parent_below n (option_copied (option_flatten o)) ≡ option_flatten (option_map (λ p. parent_below n (option_copied p)) o)
parent_flat n None = refl
parent_flat n (Some p) = refl

-- a run joined to the newer links is joined to all known revisions
pub known_links_newer : (older newer more ls run : List Link) → AreSorted older → AreSorted newer → AreKnownLinks more (newer ++ run) → AreKnownLinks (with_links older newer) ls → AreKnownLinks (with_links older more) (ls ++ run)
known_links_newer older newer more ls run s n m nodes = record {
  same = λ r.
      find_all older more s m.sorted r
      ∙ ap (kept_by_both (find r older)) (m.same r ∙ sym (known_parent-append r newer run) ∙ ap (λ o. kept_by_both o (known_parent r run)) (sym (self_same newer n r)))
      ∙ both_assoc (find r older) (find r newer) (known_parent r run)
      ∙ ap (λ o. kept_by_both o (known_parent r run)) (sym (find_all older newer s n r) ∙ nodes.same r)
      ∙ known_parent-append r ls run;
  sorted = sorted_all older more s;
}
