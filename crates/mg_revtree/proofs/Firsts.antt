-- Trees of one revision, which has no parent, and trees without revisions.
use Rattle.std.proofs.Common.{◌≡◌, ◌∙◌, ℕ, ◌-◌, ◌<◌, ◌&&◌, Bool, true, false, Option, Some, None, List, [], ◌∷◌, ◌++◌, append-nil, Bor, inl, inr, is_some, option_copied, get_or, length, map, refl, ap, sym, subst, arith}
use Rattle.mg_value.specs.Value.{Value}
use Rattle.mg_revtree.specs.Revision.{Revision, run_from, same_revision}
use Rattle.mg_revtree.specs.History.{Leaf, Link, Paths, all_links, are_known_whole, fit, is_known, links, newest_of}
use Rattle.mg_revtree.specs.Growth.{empty_tree, first_tree, is_empty, is_run_of, line_tree, tree_in}
use Rattle.mg_revtree.specs.declared.growth.Growth.{Growth}
use Rattle.mg_revtree.specs.declared.growth.Growth.TheVariants.{Empty, First, Pair, Line, Grown}
use Rattle.mg_revtree.specs.Tree.{AreKnownLinks, StandsFor, Tree, find, known_parent}
use Rattle.mg_revtree.specs.Steps.{agrees_found, known_found, put}
use Rattle.mg_revtree.specs.Changes.{found_of, path_of, with_path}
use Rattle.mg_revtree.specs.declared.error.Merged.TheVariants.{New}
use Rattle.mg_revtree.proofs.Same.{two}
use Rattle.mg_revtree.proofs.Joins.{agrees_known_parent, held_known_parent, known_parent-put-before}
use Rattle.mg_revtree.proofs.Step.{found_known, stands_new}

-- the link of a revision without a parent
abbrev pub alone : Revision → Link
alone q = record { rev = q; parent = None }

-- ---- the first revision of a tree

-- in a tree without revisions none is known
unknown_in_none : (h : Paths) (q : Revision) → AreKnownLinks [] (all_links h) → is_known q (all_links h) ≡ false
unknown_in_none h q nodes = sym (found_known q (all_links h) [] (nodes.same q))

pub found_first : (h : Paths) (q : Revision) → AreKnownLinks [] (all_links h) → New ≡ found_of h (q ∷ [])
found_first h q nodes = rw (unknown_in_none h q nodes) refl

joined_first : (h : Paths) (q : Revision) → AreKnownLinks [] (all_links h) → AreKnownLinks (alone q ∷ []) (all_links h ++ links (q ∷ []))
joined_first h q nodes = record {
  same = λ r.
      let none : None ≡ known_parent r (all_links h ++ []) = nodes.same r ∙ ap (known_parent r) (sym (append-nil (all_links h))) in
      ap (put (alone q) r) none ∙ known_parent-put-before r (all_links h) [] (alone q) refl;
  sorted = (tt, tt);
}

-- a tree without revisions stands for one more path after its first revision is made
pub stands_first : (h : Paths) (q : Revision) (d : Bool) (b : Value) → StandsFor empty_tree h → StandsFor (first_tree (record { rev = q; deleted = d; body = b })) (with_path h (path_of (q ∷ []) d b))
stands_first h q d b stands =
    let l : Leaf = record { rev = q; deleted = d; body = b } in
    stands_new h (q ∷ []) d b q [] (alone q ∷ []) [] [] refl stands (joined_first h q stands.known) refl refl (λ r e. refl) (l ∷ []) refl

-- ---- lists of one revision

-- in a run of one revision, both look-ups give the same
known_parent_alone : (q r : Revision) → known_parent r (links (q ∷ [])) ≡ find r (alone q ∷ [])
known_parent_alone q r = elim (two (same_revision r q)) [ inl t ↦ rw t refl | inr f ↦ rw f refl ]

-- lists whose only known revision is the leaf's stand for each history that the tree of that leaf stands for
pub stands_grown : (h : Paths) (l : Leaf) (kept : List Link) → AreKnownLinks kept (links (l.rev ∷ [])) → StandsFor (first_tree l) h → StandsFor (record { links = kept; leaves = l ∷ [] }) h
stands_grown h l kept joined stands = record {
  known = record {
    same = λ r. joined.same r ∙ known_parent_alone l.rev r ∙ stands.known.same r;
    sorted = joined.sorted;
  };
  leaves = stands.leaves;
}

-- ---- where no parent is known, each run fits

-- links that give no revision a parent
abbrev pub GiveNoParent : List Link → Type 0
GiveNoParent kept = (r : Revision) (q : Option Revision) → agrees_found (find r kept) q ≡ true

pub none_give_none : GiveNoParent []
none_give_none r q = refl

pub alone_gives_none : (p : Revision) → GiveNoParent (alone p ∷ [])
alone_gives_none p r q = elim (two (same_revision r p)) [ inl t ↦ rw t refl | inr f ↦ rw f refl ]

pub all_fit : (kept ls ms : List Link) → AreKnownLinks kept ls → GiveNoParent kept → fit ls ms ≡ true
all_fit kept ls [] nodes none = refl
all_fit kept ls (m ∷ ms) nodes none =
    let e : agrees_found (known_parent m.rev ls) m.parent ≡ true = subst (λ (o : Option (Option Revision)). agrees_found o m.parent ≡ true) (nodes.same m.rev) (none m.rev m.parent) in
    rw (sym (agrees_known_parent m.rev ls m.parent) ∙ e) (all_fit kept ls ms nodes none)

-- ---- which runs are known

held_at : (kept ls : List Link) (m : Link) (ms : List Link) → AreKnownLinks kept ls → are_known_whole ls (m ∷ ms) ≡ known_found (find m.rev kept) m.parent && are_known_whole ls ms
held_at kept ls m ms nodes =
    ap (λ (b : Bool). b && are_known_whole ls ms) (sym (held_known_parent m.rev ls m.parent) ∙ ap (λ (o : Option (Option Revision)). known_found o m.parent) (sym (nodes.same m.rev)))

pub none_held : (n : ℕ) (ids : List (List ℕ)) (ls : List Link) → 0 < length ids → AreKnownLinks [] ls → false ≡ are_known_whole ls (links (run_from n ids))
none_held n [] ls some nodes = absurd (omega arith)
none_held n (x ∷ ids) ls some nodes = sym (held_at [] ls (record { rev = (n, x); parent = newest_of (run_from (n - 1) ids) }) (links (run_from (n - 1) ids)) nodes)

pub alone_held : (q : Revision) (n : ℕ) (ids : List (List ℕ)) (ls : List Link) → 0 < length ids → AreKnownLinks (alone q ∷ []) ls → is_run_of q (run_from n ids) ≡ are_known_whole ls (links (run_from n ids))
alone_held q n [] ls some nodes = absurd (omega arith)
alone_held q n (x ∷ []) ls some nodes = sym (held_at (alone q ∷ []) ls (alone (n, x)) [] nodes ∙ one)
  where
    one : known_found (find (n, x) (alone q ∷ [])) None && true ≡ same_revision (n, x) q
    one = elim (two (same_revision (n, x) q)) [ inl t ↦ rw t refl | inr f ↦ rw f refl ]
alone_held q n (x ∷ y ∷ ids) ls some nodes =
    let m : Link = record { rev = (n, x); parent = Some (n - 1, y) } in
    let rest = links (run_from (n - 1) (y ∷ ids)) in
    sym (held_at (alone q ∷ []) ls m rest nodes ∙ no)
  where
    no : known_found (find (n, x) (alone q ∷ [])) (Some (n - 1, y)) && are_known_whole ls (links (run_from (n - 1) (y ∷ ids))) ≡ false
    no = elim (two (same_revision (n, x) q)) [ inl t ↦ rw t refl | inr f ↦ rw f refl ]

-- ---- runs of one revision

module _ {X : Type 0} (f : X → List ℕ) where
  pub one_run : (n : ℕ) (xs : List X) (x : X) → length xs ≡ 1 → x ≡ get_or xs 0 x → run_from n (map f xs) ≡ (n, f x) ∷ []
  one_run n [] x len is = absurd (omega (arith, len))
  one_run n (y ∷ []) x len is = ap (λ (z : X). (let rs : List Revision = (n, f z) ∷ [] in rs)) (sym is)
  one_run n (y ∷ z ∷ ys) x len is = absurd (omega (arith, len))

  pub no_run_of : (q : Revision) (n : ℕ) (xs : List X) → (length xs ≡ 1 → ⊥) → false ≡ is_run_of q (run_from n (map f xs))
  no_run_of q n [] not = refl
  no_run_of q n (y ∷ []) not = absurd (not refl)
  no_run_of q n (y ∷ z ∷ ys) not = refl

-- without links, no revision is known
pub nothing_known : AreKnownLinks [] []
nothing_known = record { same = λ r. refl; sorted = tt }

pub empty_is : (g : Growth) → is_empty g ≡ true → tree_in g ≡ empty_tree
empty_is Empty e = refl
empty_is (First leaf) e = cc
empty_is (Pair pair) e = cc
empty_is (Line leaf known) e = cc
empty_is (Grown grown) e = cc

pub none_copied : {X : Type 0} (o : Option (Bor X)) → is_some o ≡ false → option_copied o ≡ None
none_copied None e = refl
none_copied (Some x) e = cc

-- a tree of one leaf
pub line_is : (t : Tree) (known : List Link) (l : Leaf) → known ≡ t.links → t.leaves ≡ l ∷ [] → t ≡ line_tree known l
line_is t known l e f = ap (λ (ls : List Leaf). (let u : Tree = record { links = t.links; leaves = ls } in u)) f ∙ ap (λ (ks : List Link). line_tree ks l) (sym e)
