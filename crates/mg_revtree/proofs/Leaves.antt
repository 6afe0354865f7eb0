-- What leaves are left, and what a history says of its leaves.
use Rattle.std.proofs.Common.{◌≡◌, ap, Option, option_and_then, subst, Bool, true, false, not, ◌||◌, if◌then◌else◌, Some, None, is_some, List, [], ◌∷◌, filter, inl, inr, refl, sym, ◌∙◌, arith}
use Rattle.std.specs.declared.cmp.Ordering.{Ordering}
use Rattle.std.specs.declared.cmp.Ordering.TheVariants.{Less, Equal, Greater}
use Rattle.mg_value.specs.Value.{Value}
use Rattle.mg_revtree.specs.Revision.{Revision, same_revision}
use Rattle.mg_revtree.specs.History.{Link, Leaf, Paths, is_known, has_child, is_this, newest_of, links, all_links, marked, leaf_order, ranked_with}
use Rattle.mg_revtree.specs.Tree.{leaf_in, AreApart}
use Rattle.mg_revtree.proofs.Same.{two, same_is, same_refl, apart}
use Rattle.mg_revtree.proofs.Ranks.{tied_same}
use Rattle.mg_revtree.proofs.Joins.{known-append, has_child-append}

-- the leaves that are no parents
pub leaf_in-filter : (r : Revision) (ks : List Link) (ls : List Leaf) → leaf_in r (filter (λ l. not (has_child l.rev ks)) ls) ≡ (if has_child r ks then None else leaf_in r ls)
leaf_in-filter r ks [] = elim (two (has_child r ks)) [ inl k ↦ rw k refl | inr k ↦ rw k refl ]
leaf_in-filter r ks (l ∷ ls) = elim (two (same_revision r l.rev)) [
  | inl t ↦
      let e : l.rev ≡ r = sym (same_is r l.rev t) in
      elim (two (has_child r ks)) [
        | inl k ↦ rw (e, k) (leaf_in-filter r ks ls ∙ rw k refl)
        | inr k ↦ rw (e, k, same_refl r) refl
      ]
  | inr f ↦ elim (two (has_child l.rev ks)) [
    | inl k ↦ rw (k, f) (leaf_in-filter r ks ls)
    | inr k ↦ rw (k, f) (leaf_in-filter r ks ls)
  ]
]

-- one more leaf, whose revision was no leaf
untied : (l m : Leaf) → same_revision l.rev m.rev ≡ false → leaf_order l m ≡ Equal → ⊥
untied l m p e = let t : true ≡ false = sym (tied_same l m e) ∙ p in cc

pub leaf_in-with : (l : Leaf) (ls : List Leaf) → leaf_in l.rev ls ≡ None → (r : Revision) → leaf_in r (ranked_with l ls) ≡ (if same_revision r l.rev then Some (l.deleted, l.body) else leaf_in r ls)
leaf_in-with l [] none r = refl
leaf_in-with l (y ∷ ls) none r =
    let p : same_revision l.rev y.rev ≡ false = grind arith in
    let n : leaf_in l.rev ls ≡ None = rw p at none in
    go (leaf_order l y) refl p (leaf_in-with l ls n r)
  where
    go : (o : Ordering) → leaf_order l y ≡ o → same_revision l.rev y.rev ≡ false → leaf_in r (ranked_with l ls) ≡ (if same_revision r l.rev then Some (l.deleted, l.body) else leaf_in r ls)
        → leaf_in r (ranked_with l (y ∷ ls)) ≡ (if same_revision r l.rev then Some (l.deleted, l.body) else leaf_in r (y ∷ ls))
    go Less e p rest = rw e (elim (two (same_revision r y.rev)) [
      | inl t ↦ rw (t, apart r l.rev y.rev p t) refl
      | inr f ↦ rw f rest
    ])
    go Equal e p rest = absurd (untied l y p e)
    go Greater e p rest = rw e refl

-- ---- leaves of different revisions

-- a revision that is not among some leaves is not among fewer of them
pub none-filter : (p : Leaf → Bool) (r : Revision) (ls : List Leaf) → leaf_in r ls ≡ None → leaf_in r (filter p ls) ≡ None
none-filter p r [] e = refl
none-filter p r (l ∷ ls) e = elim (two (same_revision r l.rev)) [
  | inl t ↦ let f : ◌≡◌ {A = Option (Bool × Value)} (Some (l.deleted, l.body)) None = rw t at e in absurd cc
  | inr f ↦
      let k : leaf_in r ls ≡ None = rw f at e in
      elim (two (p l)) [ inl t ↦ rw (t, f) (none-filter p r ls k) | inr t ↦ rw t (none-filter p r ls k) ]
]

pub apart-filter : (p : Leaf → Bool) (ls : List Leaf) → AreApart ls → AreApart (filter p ls)
apart-filter p [] h = tt
apart-filter p (l ∷ ls) h = elim (two (p l)) [
  | inl t ↦ rw t (none-filter p l.rev ls h.0, apart-filter p ls h.1)
  | inr t ↦ rw t (apart-filter p ls h.1)
]

apart_back : (r q : Revision) → same_revision r q ≡ false → same_revision q r ≡ false
apart_back r q f = elim (two (same_revision q r)) [
  | inl t ↦ absurd (let e : q ≡ r = same_is q r t in let g : same_revision r q ≡ true = subst (λ (x : Revision). same_revision r x ≡ true) (sym e) (same_refl r) in let k : true ≡ false = sym g ∙ f in cc)
  | inr t ↦ t
]

pub apart-with : (l : Leaf) (ls : List Leaf) → AreApart ls → leaf_in l.rev ls ≡ None → AreApart (ranked_with l ls)
apart-with l [] h none = (refl, tt)
apart-with l (m ∷ ls) h none =
    let f : same_revision l.rev m.rev ≡ false = grind arith in
    let n : leaf_in l.rev ls ≡ None = rw f at none in
    go (leaf_order l m) refl f (leaf_in-with l ls n m.rev ∙ rw (apart_back l.rev m.rev f) (h.0)) (apart-with l ls h.1 n)
  where
    go : (o : Ordering) → leaf_order l m ≡ o → same_revision l.rev m.rev ≡ false → leaf_in m.rev (ranked_with l ls) ≡ None → AreApart (ranked_with l ls) → AreApart (ranked_with l (m ∷ ls))
    go Less e f first rest = rw e (first, rest)
    go Equal e f first rest = absurd (untied l m f e)
    go Greater e f first rest = rw e (none, h)

-- among the leaves that a test keeps, a look-up finds what it finds among all, if that passes the test
pub leaf_in-kept : (p : Leaf → Bool) (r : Revision) (ls : List Leaf) → AreApart ls → leaf_in r (filter p ls) ≡ option_and_then (λ m. if p (record { rev = r; deleted = m.0; body = m.1 }) then Some m else None) (leaf_in r ls)
leaf_in-kept p r [] h = refl
leaf_in-kept p r (l ∷ ls) h = elim (two (same_revision r l.rev)) [
  | inl t ↦
      let e : r ≡ l.rev = same_is r l.rev t in
      let n : leaf_in r ls ≡ None = ap (λ x. leaf_in x ls) e ∙ h.0 in
      let q : p (record { rev = r; deleted = l.deleted; body = l.body }) ≡ p l = ap (λ x. p (record { rev = x; deleted = l.deleted; body = l.body })) e in
      elim (two (p l)) [
        | inl k ↦ rw (k, t, q, k) refl
        | inr k ↦ rw (k, t, q, k) (none-filter p r ls n)
      ]
  | inr f ↦ elim (two (p l)) [
    | inl k ↦ rw (k, f) (leaf_in-kept p r ls h.1)
    | inr k ↦ rw (k, f) (leaf_in-kept p r ls h.1)
  ]
]

-- ---- one path

or_true : (b : Bool) → b || true ≡ true
or_true true = refl
or_true false = refl

or_false : (a b : Bool) → a || b ≡ false → (a ≡ false) × (b ≡ false)
or_false true b h = cc
or_false false b h = (refl, h)

pub head_known : (r : Revision) (rs : List Revision) → is_this r (newest_of rs) ≡ true → is_known r (links rs) ≡ true
head_known r [] h = cc
head_known r (q ∷ qs) h = rw h refl

run_child_known : (r : Revision) (rs : List Revision) → has_child r (links rs) ≡ true → is_known r (links rs) ≡ true
run_child_known r [] h = cc
run_child_known r (q ∷ qs) h = elim (two (is_this r (newest_of qs))) [
  | inl t ↦ rw (head_known r qs t) (or_true (same_revision r q))
  | inr f ↦ let k : has_child r (links qs) ≡ true = rw f at h in rw (run_child_known r qs k) (or_true (same_revision r q))
]

run_leaf_newest : (r : Revision) (rs : List Revision) → is_known r (links rs) ≡ true → has_child r (links rs) ≡ false → is_this r (newest_of rs) ≡ true
run_leaf_newest r [] h k = cc
run_leaf_newest r (q ∷ qs) h k =
    let p = or_false (is_this r (newest_of qs)) (has_child r (links qs)) k in
    elim (two (same_revision r q)) [
      | inl t ↦ t
      | inr f ↦ let g : is_known r (links qs) ≡ true = rw f at h in absurd (let e : true ≡ false = sym (run_leaf_newest r qs g p.1) ∙ p.0 in cc)
    ]

-- ---- a history

-- a parent is known
pub child_known : (r : Revision) (h : Paths) → has_child r (all_links h) ≡ true → is_known r (all_links h) ≡ true
child_known r [] e = cc
child_known r (p ∷ h) e =
    let f : has_child r (links p.revs) || has_child r (all_links h) ≡ true = sym (has_child-append r (links p.revs) (all_links h)) ∙ e in
    rw (known-append r (links p.revs) (all_links h)) (elim (two (has_child r (links p.revs))) [
      | inl t ↦ rw (run_child_known r p.revs t) refl
      | inr n ↦ let k : has_child r (all_links h) ≡ true = rw n at f in rw (child_known r h k) (or_true (is_known r (links p.revs)))
    ])

-- an unknown revision has no mark
pub unknown_unmarked : (r : Revision) (h : Paths) → is_known r (all_links h) ≡ false → marked r h ≡ None
unknown_unmarked r [] e = refl
unknown_unmarked r (p ∷ h) e =
    let f = or_false (is_known r (links p.revs)) (is_known r (all_links h)) (sym (known-append r (links p.revs) (all_links h)) ∙ e) in
    elim (two (is_this r (newest_of p.revs))) [
      | inl t ↦ absurd (let g : true ≡ false = sym (head_known r p.revs t) ∙ f.0 in cc)
      | inr n ↦ rw n (unknown_unmarked r h f.1)
    ]

-- a known revision that is no parent has a mark
pub leaf_marked : (r : Revision) (h : Paths) → is_known r (all_links h) ≡ true → has_child r (all_links h) ≡ false → is_some (marked r h) ≡ true
leaf_marked r [] e n = cc
leaf_marked r (p ∷ h) e n =
    let f = or_false (has_child r (links p.revs)) (has_child r (all_links h)) (sym (has_child-append r (links p.revs) (all_links h)) ∙ n) in
    let k : is_known r (links p.revs) || is_known r (all_links h) ≡ true = sym (known-append r (links p.revs) (all_links h)) ∙ e in
    elim (two (is_this r (newest_of p.revs))) [
      | inl t ↦ rw t refl
      | inr m ↦ elim (two (is_known r (links p.revs))) [
        | inl t ↦ absurd (let g : true ≡ false = sym (run_leaf_newest r p.revs t f.0) ∙ m in cc)
        | inr u ↦ let v : is_known r (all_links h) ≡ true = rw u at k in rw m (leaf_marked r h v f.1)
      ]
    ]
