-- Replicas with the same paths agree.
use Rattle.std.proofs.Common.{◌≡◌, Bool, true, false, ◌||◌, ◌&&◌, Option, Some, None, is_some, List, [], ◌∷◌, ◌++◌, ◌⊎◌, inl, inr, refl, ap, sym, ◌∙◌, subst, length, ℕ, ◌-◌, ◌<◌, arith, if◌then◌else◌}
use Rattle.std.specs.List.{list_all}
use Rattle.mg_value.specs.Value.{Value}
use Rattle.mg_revtree.specs.Revision.{Revision, run_from, same_revision}
use Rattle.std.specs.Option.{option_or}
use Rattle.mg_revtree.specs.History.{Path, Paths, Link, newest_of, agrees, are_known_whole, fit, gives, is_known_whole, is_this, is_known, parent_of, has_child, marked, links, all_links, leaf_at}
use Rattle.mg_revtree.specs.Changes.{found_of, path_of, with_path}
use Rattle.mg_revtree.specs.Tree.{StandsFor, Tree}
use Rattle.mg_revtree.specs.declared.error.Merged.TheVariants.{Known}
use Rattle.mg_revtree.specs.Laws.{Among, AmongLinks, SamePaths, SameMarks, OneParent, ReplicasAgree, KnownChangesNothing, NothingIsLost}
use Rattle.mg_revtree.proofs.Same.{two, same_is, same_refl}
use Rattle.mg_revtree.proofs.Joins.{known-append, parent-append, has_child-append, all_links-append}
use Rattle.mg_revtree.proofs.Leaves.{leaf_marked, head_known}
use Rattle.mg_revtree.proofs.Step.{all_links-one, leaf_at-append, mark_of}
use Rattle.mg_revtree.proofs.Fits.{among_left, among_right, parent_among}
use Rattle.mg_revtree.proofs.Winners.{same_winner}

or_left : (a b : Bool) → a ≡ true → a || b ≡ true
or_left a b h = rw h refl

or_right : (a b : Bool) → b ≡ true → a || b ≡ true
or_right true b h = refl
or_right false b h = h

-- ---- a test that some link passes

module _ (f : List Link → Bool) (none : f [] ≡ false) (append : (ls ms : List Link) → f (ls ++ ms) ≡ f ls || f ms) where
  in_path : (h : Paths) → f (all_links h) ≡ true → (p : Path) × Among p h × (f (links p.revs) ≡ true)
  in_path [] e = absurd (let k : true ≡ false = sym e ∙ none in cc)
  in_path (q ∷ h) e =
      let g : f (links q.revs) || f (all_links h) ≡ true = sym (append (links q.revs) (all_links h)) ∙ e in
      elim (two (f (links q.revs))) [
        | inl t ↦ (q, inl refl, t)
        | inr n ↦ let k : f (all_links h) ≡ true = rw n at g in let d = in_path h k in (d.0, inr d.1, d.2)
      ]

  path_in : (h : Paths) (p : Path) → Among p h → f (links p.revs) ≡ true → f (all_links h) ≡ true
  path_in [] p a e = absurd a
  path_in (q ∷ h) p (inl s) e = append (links q.revs) (all_links h) ∙ or_left _ _ (subst (λ (x : Path). f (links x.revs) ≡ true) s e)
  path_in (q ∷ h) p (inr a) e = append (links q.revs) (all_links h) ∙ or_right _ _ (path_in h p a e)

  same_test : (h g : Paths) → SamePaths h g → f (all_links h) ≡ f (all_links g)
  same_test h g s = elim (two (f (all_links h))) [
    | inl t ↦ let d = in_path h t in t ∙ sym (path_in g d.0 (s.there d.0 d.1) d.2)
    | inr n ↦ elim (two (f (all_links g))) [
      | inl t ↦ let d = in_path g t in absurd (let e : true ≡ false = sym (path_in h d.0 (s.back d.0 d.1) d.2) ∙ n in cc)
      | inr k ↦ n ∙ sym k
    ]
  ]

-- ---- parents

link_path : (l : Link) (h : Paths) → AmongLinks l (all_links h) → (p : Path) × Among p h × AmongLinks l (links p.revs)
link_path l [] a = absurd a
link_path l (q ∷ h) a = elim (split l (links q.revs) (all_links h) a) [
  | inl b ↦ (q, inl refl, b)
  | inr b ↦ let d = link_path l h b in (d.0, inr d.1, d.2)
]
  where
    split : (l : Link) (ls ms : List Link) → AmongLinks l (ls ++ ms) → AmongLinks l ls ⊎ AmongLinks l ms
    split l [] ms a = inr a
    split l (k ∷ ls) ms (inl e) = inl (inl e)
    split l (k ∷ ls) ms (inr a) = elim (split l ls ms a) [ inl b ↦ inl (inr b) | inr b ↦ inr b ]

path_link : (l : Link) (h : Paths) (p : Path) → Among p h → AmongLinks l (links p.revs) → AmongLinks l (all_links h)
path_link l [] p a b = absurd a
path_link l (q ∷ h) p (inl s) b = among_left l (links q.revs) (all_links h) (subst (λ (x : Path). AmongLinks l (links x.revs)) s b)
path_link l (q ∷ h) p (inr a) b = among_right l (links q.revs) (all_links h) (path_link l h p a b)

given_parent : (r a : Revision) (ls : List Link) (l : Link) → AmongLinks l ls → r ≡ l.rev → l.parent ≡ Some a → is_some (parent_of r ls) ≡ true
given_parent r a [] l among is e = absurd among
given_parent r a (k ∷ ls) l (inl s) is e =
    let t : same_revision r k.rev ≡ true = subst (λ (x : Link). same_revision r x.rev ≡ true) s (subst (λ (x : Revision). same_revision r x ≡ true) is (same_refl r)) in
    let f : k.parent ≡ Some a = subst (λ (x : Link). x.parent ≡ Some a) s e in
    rw (t, f) refl
given_parent r a (k ∷ ls) l (inr b) is e = elim (two (same_revision r k.rev)) [
  | inl t ↦ rw t (either k.parent (parent_of r ls) (given_parent r a ls l b is e))
  | inr f ↦ rw f (given_parent r a ls l b is e)
]
  where
    either : (o p : Option Revision) → is_some p ≡ true → is_some (option_or o p) ≡ true
    either None p h = h
    either (Some x) p h = refl

same_parent : (r : Revision) (h g : Paths) → SamePaths h g → OneParent (all_links g) → parent_of r (all_links h) ≡ parent_of r (all_links g)
same_parent r h g s one = go (parent_of r (all_links h)) (parent_of r (all_links g)) refl refl
  where
    moved : (h g : Paths) → ((p : Path) → Among p h → Among p g) → (l : Link) → AmongLinks l (all_links h) → AmongLinks l (all_links g)
    moved h g f l a = let d = link_path l h a in path_link l g d.0 (f d.0 d.1) d.2

    go : (o p : Option Revision) → parent_of r (all_links h) ≡ o → parent_of r (all_links g) ≡ p → parent_of r (all_links h) ≡ parent_of r (all_links g)
    go None None e f = e ∙ sym f
    go None (Some b) e f =
        let d = parent_among r b (all_links g) f in
        absurd (let k : true ≡ false = sym (given_parent r b (all_links h) d.0 (moved g h s.back d.0 d.1) d.2 d.3) ∙ ap is_some e in cc)
    go (Some a) None e f =
        let d = parent_among r a (all_links h) e in
        absurd (let k : true ≡ false = sym (given_parent r a (all_links g) d.0 (moved h g s.there d.0 d.1) d.2 d.3) ∙ ap is_some f in cc)
    go (Some a) (Some b) e f =
        let d = parent_among r a (all_links h) e in
        let n = parent_among r b (all_links g) f in
        e ∙ ap Some (one d.0 n.0 a b (moved h g s.there d.0 d.1) n.1 (sym d.2 ∙ n.2) d.3 n.3) ∙ sym f

-- ---- marks

abbrev mark_in : Path → Bool × Value
mark_in p = (p.deleted, p.body)

-- the mark of a revision is that of some path
marked_among : (r : Revision) (h : Paths) → is_some (marked r h) ≡ true → (p : Path) × Among p h × (is_this r (newest_of p.revs) ≡ true) × (marked r h ≡ Some (mark_in p))
marked_among r [] e = cc
marked_among r (q ∷ h) e = elim (two (is_this r (newest_of q.revs))) [
  | inl t ↦ (q, inl refl, t, rw t refl)
  | inr n ↦ let k : is_some (marked r h) ≡ true = rw n at e in let d = marked_among r h k in (d.0, inr d.1, d.2, rw n (d.3))
]

among_marked : (r : Revision) (h : Paths) (p : Path) → Among p h → is_this r (newest_of p.revs) ≡ true → is_some (marked r h) ≡ true
among_marked r [] p a e = absurd a
among_marked r (q ∷ h) p a e = elim (two (is_this r (newest_of q.revs))) [
  | inl t ↦ rw t refl
  | inr n ↦ rw n (elim a [
    | inl s ↦ absurd (let f : true ≡ false = sym (subst (λ (x : Path). is_this r (newest_of x.revs) ≡ true) s e) ∙ n in cc)
    | inr b ↦ among_marked r h p b e
  ])
]

none_is : (o : Option (Bool × Value)) → is_some o ≡ false → o ≡ None
none_is None h = refl
none_is (Some x) h = cc

same_marked : (r : Revision) (h g : Paths) → SamePaths h g → SameMarks g → marked r h ≡ marked r g
same_marked r h g s m = elim (two (is_some (marked r h))) [
  | inl t ↦
      let d = marked_among r h t in
      let e = marked_among r g (among_marked r g d.0 (s.there d.0 d.1) d.2) in
      let k = m r d.0 e.0 (s.there d.0 d.1) e.1 d.2 e.2 in
      let n : mark_in d.0 ≡ mark_in e.0 = pair (d.0).deleted (e.0).deleted (d.0).body (e.0).body k.0 k.1 in
      d.3 ∙ ap Some n ∙ sym e.3
  | inr f ↦ elim (two (is_some (marked r g))) [
    | inl t ↦ let e = marked_among r g t in absurd (let k : true ≡ false = sym (among_marked r h e.0 (s.back e.0 e.1) e.2) ∙ f in cc)
    | inr k ↦ none_is (marked r h) f ∙ sym (none_is (marked r g) k)
  ]
]
  where
    pair : (a c : Bool) (b d : Value) → a ≡ c → b ≡ d → ◌≡◌ {A = Bool × Value} (a, b) (c, d)
    pair a c b d e f = rw (e, f) refl

pub replicas_agree : ReplicasAgree
replicas_agree h g s m one =
    let leaves : (r : Revision) → leaf_at r h ≡ leaf_at r g = λ r. rw (same_test (has_child r) refl (has_child-append r) h g s, same_marked r h g s m) refl in
    record {
      known = λ r. same_test (is_known r) refl (known-append r) h g s;
      parents = λ r. same_parent r h g s one;
      leaves = leaves;
      winners = same_winner h g leaves;
    }

-- ---- a path that is known whole

known_link : (r : Revision) (ls : List Link) → is_known r ls ≡ true → (l : Link) × AmongLinks l ls × (r ≡ l.rev)
known_link r [] e = cc
known_link r (k ∷ ls) e = elim (two (same_revision r k.rev)) [
  | inl t ↦ (k, inl refl, same_is r k.rev t)
  | inr f ↦ let g : is_known r ls ≡ true = rw f at e in let d = known_link r ls g in (d.0, inr d.1, d.2)
]

child_link : (r : Revision) (ls : List Link) → has_child r ls ≡ true → (l : Link) × AmongLinks l ls × (is_this r l.parent ≡ true)
child_link r [] e = cc
child_link r (k ∷ ls) e = elim (two (is_this r k.parent)) [
  | inl t ↦ (k, inl refl, t)
  | inr f ↦ let g : has_child r ls ≡ true = rw f at e in let d = child_link r ls g in (d.0, inr d.1, d.2)
]

link_child : (r : Revision) (ls : List Link) (l : Link) → AmongLinks l ls → l.parent ≡ Some r → has_child r ls ≡ true
link_child r [] l a e = absurd a
link_child r (k ∷ ls) l (inl s) e = let f : k.parent ≡ Some r = subst (λ (x : Link). x.parent ≡ Some r) s e in let t : is_this r k.parent ≡ true = rw f (same_refl r) in or_left (is_this r k.parent) (has_child r ls) t
link_child r (k ∷ ls) l (inr a) e = or_right (is_this r k.parent) (has_child r ls) (link_child r ls l a e)

at_some : (r : Revision) (o : Option Revision) → is_this r o ≡ true → o ≡ Some r
at_some r None e = cc
at_some r (Some q) e = ap Some (sym (same_is r q e))

or_same : (a b : Bool) → (b ≡ true → a ≡ true) → a || b ≡ a
or_same true b h = refl
or_same false true h = sym (h refl)
or_same false false h = refl

and_both : (a b : Bool) → (a && b) ≡ true → (a ≡ true) × (b ≡ true)
and_both true b e = (refl, e)
and_both false b e = cc

all_true : (P : Link → Bool) (ls : List Link) → list_all P ls ≡ true → (l : Link) → AmongLinks l ls → P l ≡ true
all_true P [] e l a = absurd a
all_true P (m ∷ ls) e l (inl is) = ap P is ∙ (and_both (P m) (list_all P ls) e).0
all_true P (m ∷ ls) e l (inr a) = all_true P ls (and_both (P m) (list_all P ls) e).1 l a

gives_known : (p o : Option Revision) (q : Revision) → gives p o ≡ true → o ≡ Some q → p ≡ Some q
gives_known p None q e is = cc
gives_known None (Some r) q e is = cc
gives_known (Some p) (Some r) q e is = let s : r ≡ q = cc in ap Some (same_is p r e ∙ s)

-- each link of a path that is known whole: its revision is known, with the parent that it gives
held_links : (known ls : List Link) → are_known_whole known ls ≡ true → (l : Link) → AmongLinks l ls → (is_known l.rev known ≡ true) × ((q : Revision) → l.parent ≡ Some q → parent_of l.rev known ≡ Some q)
held_links known ls e l a =
    let both = and_both (is_known l.rev known) (gives (parent_of l.rev known) l.parent) (all_true (λ m. is_known m.rev known && gives (parent_of m.rev known) m.parent) ls e l a) in
    (both.0, λ q is. gives_known (parent_of l.rev known) l.parent q both.1 is)

module _ (h : Paths) (p : Path) (whole : (l : Link) → AmongLinks l (links p.revs) → (is_known l.rev (all_links h) ≡ true) × ((q : Revision) → l.parent ≡ Some q → parent_of l.rev (all_links h) ≡ Some q)) where
  whole_known : (r : Revision) → is_known r (links p.revs) ≡ true → is_known r (all_links h) ≡ true
  whole_known r e = let d = known_link r (links p.revs) e in subst (λ (x : Revision). is_known x (all_links h) ≡ true) (sym d.2) (whole d.0 d.1).0

  whole_child : (r : Revision) → has_child r (links p.revs) ≡ true → has_child r (all_links h) ≡ true
  whole_child r e =
      let d = child_link r (links p.revs) e in
      let n = parent_among (d.0).rev r (all_links h) ((whole d.0 d.1).1 r (at_some r (d.0).parent d.2)) in
      link_child r (all_links h) n.0 n.1 n.3

  whole_parent : (r : Revision) → parent_of r (all_links (with_path h p)) ≡ parent_of r (all_links h)
  whole_parent r = ap (parent_of r) (all_links-one h p) ∙ parent-append r (all_links h) (links p.revs) ∙ go (parent_of r (links p.revs)) refl
    where
      or_none : (o : Option Revision) → option_or o None ≡ o
      or_none None = refl
      or_none (Some x) = refl

      go : (o : Option Revision) → parent_of r (links p.revs) ≡ o → option_or (parent_of r (all_links h)) (parent_of r (links p.revs)) ≡ parent_of r (all_links h)
      go None e = rw e (or_none (parent_of r (all_links h)))
      go (Some q) e =
          let d = parent_among r q (links p.revs) e in
          let k : parent_of r (all_links h) ≡ Some q = ap (λ x. parent_of x (all_links h)) d.2 ∙ (whole d.0 d.1).1 q d.3 in
          rw k refl

  whole_leaf : (r : Revision) → leaf_at r (with_path h p) ≡ leaf_at r h
  whole_leaf r = leaf_at-append r h p ∙ rw (or_same (has_child r (all_links h)) (has_child r (links p.revs)) (whole_child r)) (elim (two (has_child r (all_links h))) [
    | inl t ↦ rw t refl
    | inr f ↦ rw f (elim (two (is_this r (newest_of p.revs))) [
      | inl n ↦ kept (marked r h) (mark_of r p) (leaf_marked r h (whole_known r (head_known r p.revs n)) f)
      | inr n ↦ rw n (or_none (marked r h))
    ])
  ])
    where
      kept : (a b : Option (Bool × Value)) → is_some a ≡ true → option_or a b ≡ a
      kept None b e = cc
      kept (Some x) b e = refl

      or_none : (o : Option (Bool × Value)) → option_or o None ≡ o
      or_none None = refl
      or_none (Some x) = refl

pub known_changes_nothing : KnownChangesNothing
known_changes_nothing h p e = let whole = held_links (all_links h) (links p.revs) e in record {
  known = λ r. ap (is_known r) (all_links-one h p) ∙ known-append r (all_links h) (links p.revs) ∙ or_same (is_known r (all_links h)) (is_known r (links p.revs)) (whole_known h p whole r);
  parents = whole_parent h p whole;
  leaves = whole_leaf h p whole;
  winners = same_winner (with_path h p) h (whole_leaf h p whole);
}

pub nothing_is_lost : NothingIsLost
nothing_is_lost h ps = record {
  revisions = λ r e. ap (is_known r) (all_links-append h ps) ∙ known-append r (all_links h) (all_links ps) ∙ or_left _ _ e;
  parents = λ r q e. ap (parent_of r) (all_links-append h ps) ∙ parent-append r (all_links h) (all_links ps) ∙ rw e refl;
}

-- a tree stands for a history with a path that is known whole as it did before
pub whole_stands : (t : Tree) (h : Paths) (rs : List Revision) (d : Bool) (b : Value) → is_known_whole h rs ≡ true → StandsFor t h → StandsFor t (with_path h (path_of rs d b))
whole_stands t h rs d b e s =
    let same = known_changes_nothing h (path_of rs d b) e in
    record {
      known = record {
        same = λ r. s.known.same r ∙ sym (ap (λ k. if k then Some (parent_of r (all_links h)) else None) (same.known r)) ∙ sym (ap (λ p. if is_known r (all_links (with_path h (path_of rs d b))) then Some p else None) (same.parents r));
        sorted = s.known.sorted;
      };
      leaves = record {
        same = λ r. s.leaves.same r ∙ sym (same.leaves r);
        apart = s.leaves.apart;
        ranked = s.leaves.ranked;
      };
    }

-- the newest revision of a path that is known whole is known
pub whole_found : (h : Paths) (n : ℕ) (ids : List (List ℕ)) → 0 < length ids → is_known_whole h (run_from n ids) ≡ true → Known ≡ found_of h (run_from n ids)
whole_found h n [] lt e = absurd (omega arith)
whole_found h n (id ∷ ids) lt e =
    let rest = run_from (n - 1) ids in
    let k : is_known (n, id) (all_links h) ≡ true = (held_links (all_links h) (links (run_from n (id ∷ ids))) e (record { rev = (n, id); parent = newest_of rest }) (inl refl)).0 in
    rw k refl

agrees_held : (p o : Option Revision) → gives p o ≡ true → agrees p o ≡ true
agrees_held None o e = refl
agrees_held (Some p) None e = refl
agrees_held (Some p) (Some q) e = e

-- a path that is known whole fits
pub whole_fits : (known ls : List Link) → are_known_whole known ls ≡ true → fit known ls ≡ true
whole_fits known [] e = refl
whole_fits known (l ∷ ls) e =
    let both = and_both (is_known l.rev known && gives (parent_of l.rev known) l.parent) (are_known_whole known ls) e in
    let a : agrees (parent_of l.rev known) l.parent ≡ true = agrees_held (parent_of l.rev known) l.parent (and_both (is_known l.rev known) (gives (parent_of l.rev known) l.parent) both.0).1 in
    rw a (whole_fits known ls both.1)
