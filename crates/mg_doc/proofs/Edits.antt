-- What an edit adds to a history, by what its tree accepts.
use Rattle.std.proofs.Common.{◌≡◌, ℕ, ◌+◌, List, [], ◌∷◌, Bool, true, false, ◌==◌, if◌then◌else◌, inl, inr, Option, Some, None, option_map, Result, Ok, Err, refl, sym, ap, ◌∙◌, subst}
use Rattle.std.specs.Option.{option_to_list}
use Rattle.std.specs.Result.{IsErrAnd, result_err, result_map_both}
use Rattle.mg_value.specs.Value.{Value}
use Rattle.mg_revtree.specs.Revision.{Revision}
use Rattle.mg_revtree.specs.History.{Leaf, Paths, newest_of, fits, all_links, winner_of}
use Rattle.mg_revtree.specs.Changes.{Decides, extension, may_extend, next_position, next_revision, path_of, position_below, refusal_of, run_over, with_path}
use Rattle.mg_revtree.specs.Tree.{Tree, StandsFor}
use Rattle.mg_revtree.specs.declared.error.MergeError.{MergeError}
use Rattle.mg_revtree.specs.declared.error.MergeError.TheVariants.{BadHistory as misfit, NoMemory as merge_refused}
use Rattle.mg_revtree.specs.declared.error.TreeRefusal.{TreeRefusal}
use Rattle.mg_revtree.specs.declared.error.TreeRefusal.TheVariants.{NotLeaf, Full, Known}
use Rattle.mg_revtree.specs.declared.error.TreeError.{TreeError}
use Rattle.mg_revtree.specs.declared.error.TreeError.TheVariants.{NotLeaf as not_leaf, Full as full, Known as known, NoMemory as tree_refused}
use Rattle.mg_revtree.proofs.Extend.{refused_position}
use Rattle.mg_revtree.proofs.Replicas.{whole_fits, whole_stands}
use Rattle.mg_doc.specs.Applied.{Applied, Foreseen, Refuses, error_of, refusal_in}
use Rattle.mg_doc.specs.Acceptance.{AcceptsAs, ReportsRefusal}
use Rattle.mg_doc.specs.Base.{LooksFor, MisfitReport, base_found, extended_by, look_of, extended_found, extended_over, unplaced}
use Rattle.mg_doc.specs.Digest.{digest_of}
use Rattle.mg_doc.specs.Document.{Edit}
use Rattle.mg_doc.specs.Edit.{Accepted, accepted_by, base_of, extended, first_refusal, history_after, is_alive, must_name, path_over, newest_accepted, refused_by, replicated, unless}
use Rattle.mg_doc.specs.Conversions.{error_of_merge, error_of_tree}
use Rattle.mg_doc.specs.declared.change.Change.TheVariants.{New, Replica}
use Rattle.mg_doc.specs.declared.error.EditError.{EditError}
use Rattle.mg_doc.specs.declared.error.EditError.TheVariants.{Conflict as conflict, BadHistory as bad_history, NoMemory as no_memory}
use Rattle.mg_doc.specs.declared.error.EditRefusal.{EditRefusal}
use Rattle.mg_doc.specs.declared.error.EditRefusal.TheVariants.{Conflict, BadHistory}
use Rattle.mg_doc.proofs.Cases.{two}

-- ---- errors

pub refusal_in_error : (refused : EditRefusal) → refusal_in (error_of refused) ≡ Some refused
refusal_in_error Conflict = refl
refusal_in_error BadHistory = refl

-- ---- a path of a replica

replicated_ok : (h : Paths) (run : List Revision) (r : Revision) → newest_of run ≡ Some r → fits h run ≡ true → (rs : List Revision) × (replicated h run ≡ Ok (r, rs)) × (run ≡ r ∷ rs)
replicated_ok h [] r n f = absurd cc
replicated_ok h (q ∷ qs) r n f =
    let e : q ≡ r = cc in
    (qs, rw f (ap (λ x. Ok (x, qs)) e), ap (λ x. x ∷ qs) e)

pub merged : (h : Paths) (d : Bool) (b : Value) (run : List Revision) (r : Revision) (t : Tree) → newest_of run ≡ Some r → fits h run ≡ true → StandsFor t (with_path h (path_of run d b))
    → AcceptsAs h d b (replicated h run) (Ok r) t
merged h d b run r t n f s =
    let k = replicated_ok h run r n f in
    let P : List Revision → Type 0 = λ x. StandsFor t (with_path h (path_of x d b)) in
    (k.0, k.1, subst P k.2 s)

misfits : (h : Paths) (run : List Revision) → fits h run ≡ false → replicated h run ≡ Err BadHistory
misfits h [] f = refl
misfits h (q ∷ qs) f = rw f refl

pub not_merged : (h : Paths) (run : List Revision) (x : MergeError) → (fits h run ≡ true → x ≡ merge_refused) → ReportsRefusal (replicated h run) (refusal_in (error_of_merge x))
not_merged h run misfit f = elim (two (fits h run)) [
  | inl t ↦ absurd (let e : misfit ≡ merge_refused = f t in cc)
  | inr n ↦ misfits h run n
]
not_merged h run merge_refused f = tt

-- ---- a new edit

pub not_made : (o : Option TreeRefusal) (x : TreeError) (a : Accepted) → Decides o (Err x) → ReportsRefusal (unless (option_map refused_by o) a) (refusal_in (error_of_tree x))
not_made None not_leaf a d = absurd (let e : not_leaf ≡ tree_refused = d in cc)
not_made None full a d = absurd (let e : full ≡ tree_refused = d in cc)
not_made None known a d = absurd (let e : known ≡ tree_refused = d in cc)
not_made None tree_refused a d = tt
not_made (Some NotLeaf) not_leaf a d = refl
not_made (Some NotLeaf) full a d = absurd cc
not_made (Some NotLeaf) known a d = absurd cc
not_made (Some NotLeaf) tree_refused a d = tt
not_made (Some Full) not_leaf a d = absurd cc
not_made (Some Full) full a d = refl
not_made (Some Full) known a d = absurd cc
not_made (Some Full) tree_refused a d = tt
not_made (Some Known) not_leaf a d = absurd cc
not_made (Some Known) full a d = absurd cc
not_made (Some Known) known a d = refl
not_made (Some Known) tree_refused a d = tt

pub no_refusal : (o : Option TreeRefusal) (u : Unit {0}) → Decides o (Ok u) → o ≡ None
no_refusal None u d = refl
no_refusal (Some refusal) u d = absurd cc

-- a revision that may be made has a position
has_position : (h : Paths) (base : Option Revision) (id : List ℕ) → refusal_of h base id ≡ None → (position_below base == 4294967295) ≡ false
has_position h base id e = elim (two (may_extend h base)) [
  | inr f ↦ absurd (let n : Some NotLeaf ≡ None = rw f at e in cc)
  | inl m ↦ elim (two (position_below base == 4294967295)) [
    | inl p ↦ absurd (let n : Some Full ≡ None = rw (m, p) at e in cc)
    | inr p ↦ p
  ]
]

run_over-older : (r : Revision) (base : Option Revision) → run_over r base ≡ r ∷ option_to_list base
run_over-older r None = refl
run_over-older r (Some q) = refl

made_now : (h : Paths) (d : Bool) (b : Value) (base : Option Revision) (n : ℕ) (t : Tree) → refusal_of h base (digest_of d base b) ≡ None
    → ((position_below base == 4294967295) ≡ false → n ≡ position_below base + 1) → StandsFor t (with_path h (extension base (digest_of d base b) d b))
    → AcceptsAs h d b (extended_over h d b base) (Ok (n, digest_of d base b)) t
made_now h d b base n t r p s =
    let at : n ≡ position_below base + 1 = p (has_position h base (digest_of d base b) r) in
    let P : List Revision → Type 0 = λ run. StandsFor t (with_path h (path_of run d b)) in
    let Q : ℕ → Type 0 = λ m. AcceptsAs h d b (extended_over h d b base) (Ok (m, digest_of d base b)) t in
    subst Q (sym at) (option_to_list base, ap (λ o. unless (option_map refused_by o) (path_over base (digest_of d base b))) r, subst P (run_over-older (next_revision base (digest_of d base b)) base) s)

pub extended_over_base : (h : Paths) (d : Bool) (b : Value) (base : Option Revision) (id copy : List ℕ) (n : ℕ) (t : Tree) → id ≡ digest_of d base b → copy ≡ id → refusal_of h base id ≡ None
    → ((position_below base == 4294967295) ≡ false → n ≡ position_below base + 1) → StandsFor t (with_path h (extension base id d b))
    → AcceptsAs h d b (extended_over h d b base) (Ok (n, copy)) t
extended_over_base h d b base id copy n t e f r p s =
    let R : List ℕ → Type 0 = λ i. refusal_of h base i ≡ None in
    let S : List ℕ → Type 0 = λ i. StandsFor t (with_path h (extension base i d b)) in
    let Q : List ℕ → Type 0 = λ i. AcceptsAs h d b (extended_over h d b base) (Ok (n, i)) t in
    subst Q (sym (f ∙ e)) (made_now h d b base n t (subst R e r) p (subst S e s))

-- a refusal of the tree is that of the edit
refused_made : (o : Option TreeRefusal) (x : TreeError) (a : Accepted) (refused : EditRefusal) → Decides o (Err x) → unless (option_map refused_by o) a ≡ Err refused → error_of_tree x ≡ error_of refused
refused_made None x a refused d said = absurd cc
refused_made (Some NotLeaf) x a refused d said = let e : x ≡ not_leaf = cc in let k : Conflict ≡ refused = cc in ap error_of_tree e ∙ ap error_of k
refused_made (Some Full) x a refused d said = let e : x ≡ full = cc in let k : BadHistory ≡ refused = cc in ap error_of_tree e ∙ ap error_of k
refused_made (Some Known) x a refused d said = let e : x ≡ known = cc in let k : Conflict ≡ refused = cc in ap error_of_tree e ∙ ap error_of k

pub refused_over : (h : Paths) (d : Bool) (b : Value) (base : Option Revision) (id : List ℕ) (x : TreeError) (refused : EditRefusal) → id ≡ digest_of d base b → Decides (refusal_of h base id) (Err x)
    → extended_over h d b base ≡ Err refused → error_of_tree x ≡ error_of refused
refused_over h d b base id x refused e decided said =
    let P : List ℕ → Type 0 = λ i. Decides (refusal_of h base i) (Err x) in
    refused_made (refusal_of h base (digest_of d base b)) x (path_over base (digest_of d base b)) refused (subst P e decided) said

accepted_not_refused : (o : Option TreeRefusal) (a : Accepted) (refused : EditRefusal) → o ≡ None → unless (option_map refused_by o) a ≡ Err refused → ⊥
accepted_not_refused None a refused e said = absurd cc
accepted_not_refused (Some x) a refused e said = absurd cc

pub not_refused_over : (h : Paths) (d : Bool) (b : Value) (base : Option Revision) (id : List ℕ) (refused : EditRefusal) → id ≡ digest_of d base b → refusal_of h base id ≡ None → extended_over h d b base ≡ Err refused → ⊥
not_refused_over h d b base id refused e none said =
    let P : List ℕ → Type 0 = λ i. refusal_of h base i ≡ None in
    accepted_not_refused (refusal_of h base (digest_of d base b)) (path_over base (digest_of d base b)) refused (subst P e none) said

-- an edit that names no revision has no base if the document has no winner
unnamed_with : (w : Option Leaf) → option_map (λ (l : Leaf). l.rev) w ≡ None → (if is_alive w then Err Conflict else Ok (option_map (λ (l : Leaf). l.rev) w)) ≡ Ok None
unnamed_with None e = refl
unnamed_with (Some l) e = absurd cc

pub unnamed_first : (h : Paths) → base_of h None ≡ None → base_found h None ≡ Ok None
unnamed_first h e = unnamed_with (winner_of h) e

-- the refusal of an edit is that of its path
pub newest_refused : (a : Result Accepted EditRefusal) (refused : EditRefusal) → newest_accepted a ≡ Err refused → a ≡ Err refused
newest_refused (Ok a) refused e = absurd cc
newest_refused (Err x) refused e = let k : x ≡ refused = cc in ap Err k

-- if no base is found, a new edit is refused for the same reason
pub no_base : (h : Paths) (d : Bool) (b : Value) (named : Option Revision) (o : Option EditRefusal) → ReportsRefusal (base_found h named) o → ReportsRefusal (extended_by h d b named) o
no_base h d b named None k = tt
no_base h d b named (Some refused) k = ap (extended_found h d b) k

-- if a base is found, a new edit makes a revision over it
pub found_made : (h : Paths) (d : Bool) (b : Value) (named base : Option Revision) (r : Result Revision EditError) (t : Tree) → base_found h named ≡ Ok base
    → AcceptsAs h d b (extended_over h d b base) r t → AcceptsAs h d b (extended_by h d b named) r t
found_made h d b named base r t e k = let P : Result Accepted EditRefusal → Type 0 = λ s. AcceptsAs h d b s r t in subst P (sym (ap (extended_found h d b) e)) k

-- the steps of the code give what the definition gives
pub extended_is : (h : Paths) (d : Bool) (b : Value) (named : Option Revision) → extended_by h d b named ≡ extended h d b named
extended_is h d b named = elim (two (must_name h named)) [ inl t ↦ rw t refl | inr f ↦ rw f refl ]

pub first_is : (h : Paths) (named : Option Revision) → unplaced h (base_found h named) ≡ first_refusal h (New named)
first_is h named = elim (two (must_name h named)) [ inl t ↦ rw t refl | inr f ↦ rw f refl ]

-- the first refusal of a new edit: that of the base, or that of the position over it
pub base_refused : (h : Paths) (named : Option Revision) (refused : EditRefusal) → base_found h named ≡ Err refused → first_refusal h (New named) ≡ Some refused
base_refused h named refused e = sym (first_is h named) ∙ ap (unplaced h) e

pub place_refused : (h : Paths) (named base : Option Revision) (refusal : TreeRefusal) → base_found h named ≡ Ok base → Err refusal ≡ next_position h base → first_refusal h (New named) ≡ Some (refused_by refusal)
place_refused h named base refusal e k = sym (first_is h named) ∙ ap (unplaced h) e ∙ ap (λ o. option_map refused_by (result_err o)) (sym k)

pub not_refused_yet : (h : Paths) (named base : Option Revision) (n : ℕ) → base_found h named ≡ Ok base → Ok n ≡ next_position h base → first_refusal h (New named) ≡ None
not_refused_yet h named base n e k = sym (first_is h named) ∙ ap (unplaced h) e ∙ ap (λ o. option_map refused_by (result_err o)) (sym k)

-- a refusal that is found before the revision is made is that of the edit
unplaced_over : (h : Paths) (d : Bool) (b : Value) (base : Option Revision) (o : Result ℕ TreeRefusal) (refused : EditRefusal) → next_position h base ≡ o → option_map refused_by (result_err o) ≡ Some refused → extended_over h d b base ≡ Err refused
unplaced_over h d b base (Ok n) refused e k = absurd cc
unplaced_over h d b base (Err refusal) refused e k =
    let id = digest_of d base b in
    let same : refused_by refusal ≡ refused = cc in
    let is : refusal_of h base id ≡ Some refusal = sym (refused_position h base id refusal (sym e)) in
    ap (λ o. unless (option_map refused_by o) (path_over base id)) is ∙ ap Err same

unplaced_found : (h : Paths) (d : Bool) (b : Value) (base : Result (Option Revision) EditRefusal) (refused : EditRefusal) → unplaced h base ≡ Some refused → extended_found h d b base ≡ Err refused
unplaced_found h d b (Err x) refused k = let e : x ≡ refused = cc in ap Err e
unplaced_found h d b (Ok base) refused k = unplaced_over h d b base (next_position h base) refused refl k

pub refuses_new : (h : Paths) (e : Edit) (named : Option Revision) (x : EditError) (refused : EditRefusal) → e.change ≡ New named → first_refusal h (New named) ≡ Some refused → x ≡ error_of refused → Refuses h e (refusal_in x)
refuses_new h e named x refused is k to =
    let P : Option EditRefusal → Type 0 = Refuses h e in
    let made : extended h e.deleted e.body named ≡ Err refused =
    sym (extended_is h e.deleted e.body named) ∙ unplaced_found h e.deleted e.body (base_found h named) refused (first_is h named ∙ k) in
    let said : accepted_by h e ≡ Err refused = rw is made in
    subst P (sym (ap refusal_in to ∙ refusal_in_error refused)) (ap newest_accepted said)

-- ---- the look-up of a replica's path

module _ (h : Paths) (e : Edit) (run : List Revision) (is : e.change ≡ Replica run) (t : Tree) where
  accepted_run : accepted_by h e ≡ replicated h run
  accepted_run = rw is refl

  refuses_run : (o : Option EditRefusal) → MisfitReport h run o → Refuses h e o
  refuses_run None k = rw is (rw k refl)
  refuses_run (Some refused) k = ap newest_accepted (accepted_run ∙ misfits h run k.1) ∙ ap Err (sym k.0)

  pub looks_for : (r : Result (Option Revision) EditError) → StandsFor t h → LooksFor h run r → Foreseen h e (result_map_both (look_of e) (λ x. x) r) t
  looks_for (Ok None) s k = (rw is (rw k.0 refl), rw is k.1)
  looks_for (Err x) s k = refuses_run (refusal_in x) k
  looks_for (Ok (Some r)) s k =
      let f : fits h run ≡ true = whole_fits (all_links h) _ k.1 in
      let d = replicated_ok h run r k.0 f in
      let said : accepted_by h e ≡ Ok (r, d.0) = accepted_run ∙ d.1 in
      let P : Paths → Type 0 = StandsFor t in
      let Q : List Revision → Type 0 = λ x. StandsFor t (with_path h (path_of x e.deleted e.body)) in
      (rw is k.1, ap newest_accepted said, subst P (sym (ap (history_after h e) said)) (subst Q d.2 (whole_stands t h run e.deleted e.body k.1 s)))

-- memory runs out for a path that fits
pub looks_want : (h : Paths) (run : List Revision) (r : Result (Option Revision) EditError) → fits h run ≡ true → IsErrAnd r (λ x. x ≡ no_memory) → LooksFor h run r
looks_want h run (Ok o) f k = absurd k
looks_want h run (Err x) f k = let P : EditError → Type 0 = λ y. MisfitReport h run (refusal_in y) in subst P (sym k) f

-- ---- either

pub applied : (h : Paths) (e : Edit) (r : Result Revision EditError) (t : Tree) → first_refusal h e.change ≡ None → AcceptsAs h e.deleted e.body (accepted_by h e) r t → Applied h e r t
applied h e (Ok r) t first k =
    let P : Paths → Type 0 = StandsFor t in
    (ap newest_accepted k.1, subst P (sym (ap (history_after h e) k.1)) k.2)
applied h e (Err conflict) t first k = ap newest_accepted k
applied h e (Err bad_history) t first k = ap newest_accepted k
applied h e (Err no_memory) t first k = first
