-- What a tree stands for after one more path.
use Rattle.std.proofs.Common.{◌≡◌, Bool, true, false, not, ◌||◌, if◌then◌else◌, Option, Some, None, is_some, List, [], ◌∷◌, ◌++◌, append-nil, filter, inl, inr, refl, ap, sym, ◌∙◌, subst}
use Rattle.mg_value.specs.Value.{Value}
use Rattle.mg_revtree.specs.Revision.{Revision, same_revision}
use Rattle.std.specs.Option.{option_or}
use Rattle.mg_revtree.specs.History.{Link, Leaf, Path, Paths, is_known, has_child, is_this, newest_of, links, all_links, marked, leaf_at, ranked_with}
use Rattle.mg_revtree.specs.Tree.{StandsFor, AreKnownLinks, known_parent, find, leaf_in}
use Rattle.mg_revtree.specs.Changes.{path_of, with_path}
use Rattle.mg_revtree.proofs.Same.{two, same_is}
use Rattle.mg_revtree.proofs.Runs.{IsRun}
use Rattle.mg_revtree.proofs.Joins.{has_child-append, all_links-append}
use Rattle.mg_revtree.proofs.Ranks.{are_ranked-filter, are_ranked-with}
use Rattle.mg_revtree.proofs.Leaves.{apart-filter, apart-with, leaf_in-filter, leaf_in-with, child_known, unknown_unmarked, leaf_marked}

-- the mark and body that a path gives a revision: its own, if the revision is its newest
abbrev pub mark_of : Revision → Path → Option (Bool × Value)
mark_of r p = if is_this r (newest_of p.revs) then Some (p.deleted, p.body) else None

marked-append : (r : Revision) (h : Paths) (p : Path) → marked r (h ++ p ∷ []) ≡ option_or (marked r h) (mark_of r p)
marked-append r [] p = refl
marked-append r (q ∷ h) p = elim (two (is_this r (newest_of q.revs))) [ inl t ↦ rw t refl | inr f ↦ rw f (marked-append r h p) ]

pub all_links-one : (h : Paths) (p : Path) → all_links (h ++ p ∷ []) ≡ all_links h ++ links p.revs
all_links-one h p = all_links-append h (p ∷ []) ∙ ap (λ ls. all_links h ++ ls) (append-nil (links p.revs))

pub leaf_at-append : (r : Revision) (h : Paths) (p : Path) → leaf_at r (h ++ p ∷ []) ≡ (if has_child r (all_links h) || has_child r (links p.revs) then None else option_or (marked r h) (mark_of r p))
leaf_at-append r h p = rw (all_links-one h p, has_child-append r (all_links h) (links p.revs), marked-append r h p) refl

or_else_some : {A : Type 0} (a b : Option A) → is_some a ≡ true → a ≡ option_or a b
or_else_some None b h = cc
or_else_some (Some x) b h = refl

or_else_none : {A : Type 0} (a : Option A) → a ≡ option_or a None
or_else_none None = refl
or_else_none (Some x) = refl

is_at_is : (r q : Revision) (o : Option Revision) → o ≡ Some q → is_this r o ≡ true → r ≡ q
is_at_is r q None e h = cc
is_at_is r q (Some s) e h = let f : s ≡ q = cc in same_is r s h ∙ f

module _ (h : Paths) (p : Path) (q : Revision) (newest : newest_of p.revs ≡ Some q) (ls : List Leaf) (leaves : (r : Revision) → leaf_in r ls ≡ leaf_at r h) where
  kept : List Leaf
  kept = filter (λ l. not (has_child l.rev (links p.revs))) ls

  kept_leaf : (r : Revision) → leaf_in r (filter (λ l. not (has_child l.rev (links p.revs))) ls) ≡ (if has_child r (links p.revs) then None else leaf_at r h)
  kept_leaf r = leaf_in-filter r (links p.revs) ls ∙ ap (λ o. if has_child r (links p.revs) then None else o) (leaves r)

  -- the newest was known
  pub leaves-known : is_known q (all_links h) ≡ true → (r : Revision) → leaf_in r (filter (λ l. not (has_child l.rev (links p.revs))) ls) ≡ leaf_at r (h ++ p ∷ [])
  leaves-known k r = rw (kept_leaf r, leaf_at-append r h p) (elim (two (has_child r (links p.revs))) [
    | inl t ↦ elim (two (has_child r (all_links h))) [ inl u ↦ rw (t, u) refl | inr u ↦ rw (t, u) refl ]
    | inr f ↦ elim (two (has_child r (all_links h))) [
      | inl u ↦ rw (f, u) refl
      | inr u ↦ rw (f, u) (elim (two (is_this r (newest_of p.revs))) [
        | inl n ↦
            let e : q ≡ r = sym (is_at_is r q (newest_of p.revs) newest n) in
            or_else_some (marked r h) (mark_of r p) (leaf_marked r h (subst (λ (x : Revision). is_known x (all_links h) ≡ true) e k) u)
        | inr n ↦ rw n (or_else_none (marked r h))
      ])
    ]
  ])

  -- the newest was unknown: it was not a leaf, and becomes one
  pub unknown_no_leaf : is_known q (all_links h) ≡ false → leaf_in q (filter (λ l. not (has_child l.rev (links p.revs))) ls) ≡ None
  unknown_no_leaf k = rw (kept_leaf q, unknown_unmarked q h k) (elim (two (has_child q (links p.revs))) [
    | inl t ↦ rw t refl
    | inr f ↦ rw f (elim (two (has_child q (all_links h))) [ inl u ↦ rw u refl | inr u ↦ rw u refl ])
  ])

  pub leaves-new : IsRun p.revs → is_known q (all_links h) ≡ false → (r : Revision) → (if same_revision r q then Some (p.deleted, p.body) else leaf_in r (filter (λ l. not (has_child l.rev (links p.revs))) ls)) ≡ leaf_at r (h ++ p ∷ [])
  leaves-new run k r = rw (kept_leaf r, leaf_at-append r h p) (elim (two (same_revision r q)) [
    | inl t ↦
        let e : q ≡ r = sym (same_is r q t) in
        let n : is_this r (newest_of p.revs) ≡ true = rw newest t in
        let v : is_known r (all_links h) ≡ false = subst (λ (x : Revision). is_known x (all_links h) ≡ false) e k in
        let c : has_child r (all_links h) ≡ false = elim (two (has_child r (all_links h))) [
          | inl u ↦ absurd (let g : true ≡ false = sym (child_known r h u) ∙ v in cc)
          | inr u ↦ u
        ] in
        rw (t, c, run r n, unknown_unmarked r h v, n) refl
    | inr f ↦
        let n : is_this r (newest_of p.revs) ≡ false = rw newest f in
        elim (two (has_child r (links p.revs))) [
          | inl t ↦ elim (two (has_child r (all_links h))) [ inl u ↦ rw (f, t, u) refl | inr u ↦ rw (f, t, u) refl ]
          | inr g ↦ elim (two (has_child r (all_links h))) [
            | inl u ↦ rw (f, g, u) refl
            | inr u ↦ rw (f, g, u, n) (or_else_none (marked r h))
          ]
        ]
  ])

-- ---- a merge

pub found_known : (q : Revision) (ls ks : List Link) → find q ks ≡ known_parent q ls → is_some (find q ks) ≡ is_known q ls
found_known q ls ks e = rw e (elim (two (is_known q ls)) [ inl t ↦ rw t refl | inr f ↦ rw f refl ])

module _ (h : Paths) (rs : List Revision) (d : Bool) (b : Value) (q : Revision) (kept nodes : List Link) (leaves left : List Leaf) (newest : newest_of rs ≡ Some q) (stands : StandsFor (record { links = kept; leaves = leaves }) h) (joined : AreKnownLinks nodes (all_links h ++ links rs)) (unleafed : left ≡ filter (λ l. not (has_child l.rev (links rs))) leaves) where
  known_links_next : AreKnownLinks nodes (all_links (h ++ path_of rs d b ∷ []))
  known_links_next = subst (λ (ls : List Link). AreKnownLinks nodes ls) (sym (all_links-one h (path_of rs d b))) joined

  pub stands_known : is_some (find q kept) ≡ true → StandsFor (record { links = nodes; leaves = left }) (with_path h (path_of rs d b))
  stands_known k = record {
    known = known_links_next;
    leaves = record {
      same = λ r. rw unleafed (leaves-known h (path_of rs d b) q newest leaves stands.leaves.same (sym (found_known q (all_links h) kept (stands.known.same q)) ∙ k) r);
      apart = rw unleafed (apart-filter (λ l. not (has_child l.rev (links rs))) leaves stands.leaves.apart);
      ranked = rw unleafed (are_ranked-filter (λ l. not (has_child l.rev (links rs))) leaves stands.leaves.ranked);
    };
  }

  pub stands_new : is_some (find q kept) ≡ false → IsRun rs → (more : List Leaf) → more ≡ ranked_with (record { rev = q; deleted = d; body = b }) left → StandsFor (record { links = nodes; leaves = more }) (with_path h (path_of rs d b))
  stands_new k run more is_more =
      let l : Leaf = record { rev = q; deleted = d; body = b } in
      let u : is_known q (all_links h) ≡ false = sym (found_known q (all_links h) kept (stands.known.same q)) ∙ k in
      let none : leaf_in q left ≡ None = rw unleafed (unknown_no_leaf h (path_of rs d b) q newest leaves stands.leaves.same u) in
      record {
        known = known_links_next;
        leaves = record {
          same = λ r. rw is_more (leaf_in-with l left none r ∙ rw unleafed (leaves-new h (path_of rs d b) q newest leaves stands.leaves.same run u r));
          apart = rw is_more (apart-with l left (rw unleafed (apart-filter (λ x. not (has_child x.rev (links rs))) leaves stands.leaves.apart)) none);
          ranked = rw is_more (are_ranked-with l left (rw unleafed (are_ranked-filter (λ x. not (has_child x.rev (links rs))) leaves stands.leaves.ranked)));
        };
      }
