-- What an extension needs.
use Rattle.std.proofs.Common.{◌≡◌, ℕ, ◌<◌, ◌^◌, ◌==◌, Result, Ok, Err, IsOkUnless, ok_or, IfOk, ◌∙◌, if◌then◌else◌, inl, inr, true, false, ◌+◌, ◌-◌, Option, Some, None, is_some, is_none, List, [], ◌∷◌, refl, ap, sym, subst, arith}
use Rattle.std.specs.Option.{SomeIff}
use Rattle.std.specs.Result.{IsErrAnd}
use Rattle.std.proofs.lemmas.Bool.Decides.{nat_tests}
use Rattle.mg_revtree.specs.declared.error.TreeError.{TreeError}
use Rattle.mg_revtree.specs.declared.error.TreeError.TheVariants.{NoMemory as no_memory}
use Rattle.mg_revtree.specs.declared.error.TreeRefusal.{TreeRefusal}
use Rattle.mg_revtree.specs.declared.error.TreeRefusal.TheVariants.{NotLeaf, Full, Known}
use Rattle.mg_revtree.specs.Revision.{Revision, run_from}
use Rattle.mg_revtree.specs.History.{Paths, Link, all_links, Leaf, is_known}
use Rattle.mg_revtree.specs.Tree.{AreLeaves}
use Rattle.mg_revtree.specs.Changes.{Decides, error_of, may_extend, next_position, next_revision, position_below, position_unless, refusal_of, run_over}
use Rattle.mg_revtree.specs.Steps.{base_in, ids_over}
use Rattle.mg_revtree.proofs.Same.{two}
use Rattle.mg_revtree.proofs.Winners.{no_winner, first_wins}

-- a new revision over its parent, as a run
pub run_over_is : (base : Option Revision) (id : List ℕ) → run_from (position_below base + 1) (ids_over id base) ≡ run_over (next_revision base id) base
run_over_is None id = refl
run_over_is (Some q) id = let e : q.0 + 1 - 1 ≡ q.0 = omega arith in ap (λ (m : ℕ). (let rs : List Revision = (q.0 + 1, id) ∷ (m, q.1) ∷ [] in rs)) e

pub base_is : (h : Paths) (ls : List Leaf) → AreLeaves h ls → (base : Option Revision) → base_in ls base ≡ may_extend h base
base_is h [] leaves None = sym (ap is_none (no_winner h leaves))
base_is h (l ∷ ls) leaves None = sym (ap is_none (first_wins h l ls leaves))
base_is h [] leaves (Some q) = ap is_some (leaves.same q)
base_is h (l ∷ ls) leaves (Some q) = ap is_some (leaves.same q)

-- ---- where a new revision may be made

pub position_refused : (h : Paths) (base : Option Revision) → may_extend h base ≡ false → Err NotLeaf ≡ next_position h base
position_refused h base e = rw e refl

-- the position above the base, or `Full`
pub position_is : (h : Paths) (base : Option Revision) (n : ℕ) (o : Option ℕ) (r : Result ℕ TreeRefusal) → may_extend h base ≡ true → n ≡ position_below base → SomeIff o (n + 1 < 2 ^ 32) (n + 1) → n < 2 ^ 32 → r ≡ ok_or o Full → r ≡ next_position h base
position_is h base n None r e is none fits to =
    let top : n ≡ 4294967295 = omega (arith, none, fits) in
    let t : (position_below base == 4294967295) ≡ true = grind (arith, nat_tests) in
    to ∙ rw (e, t) refl
position_is h base n (Some m) r e is some fits to =
    let t : (position_below base == 4294967295) ≡ false = grind (arith, nat_tests) in
    to ∙ rw (e, t) (ap Ok (some.1 ∙ ap (λ k. k + 1) is))

pub position_ok : (base : Option Revision) (n : ℕ) (o : Option ℕ) (r : Result ℕ TreeRefusal) → n ≡ position_below base → SomeIff o (n + 1 < 2 ^ 32) (n + 1) → r ≡ ok_or o Full → IfOk r (λ m. m ≡ position_below base + 1)
position_ok base n None (Ok m) is none to = absurd cc
position_ok base n None (Err e) is none to = tt
position_ok base n (Some k) (Ok m) is some to = let e : m ≡ k = cc in e ∙ some.1 ∙ ap (λ j. j + 1) is
position_ok base n (Some k) (Err e) is some to = tt

-- ---- why a new revision is not made

-- why a new revision is refused: for lack of a position, or because it is already known there
abbrev pub refusal_at : Result ℕ TreeRefusal → List ℕ → List Link → Option TreeRefusal
refusal_at (Err refusal) id ls = Some refusal
refusal_at (Ok n) id ls = if is_known (n, id) ls then Some Known else None

pub refusal_is : (h : Paths) (base : Option Revision) (id : List ℕ) → refusal_at (next_position h base) id (all_links h) ≡ refusal_of h base id
refusal_is h base id = elim (two (may_extend h base)) [
  | inl t ↦ elim (two (position_below base == 4294967295)) [ inl u ↦ rw (t, u) refl | inr u ↦ rw (t, u) refl ]
  | inr f ↦ rw f refl
]

pub refused_position : (h : Paths) (base : Option Revision) (id : List ℕ) (refusal : TreeRefusal) → Err refusal ≡ next_position h base → Some refusal ≡ refusal_of h base id
refused_position h base id refusal e = ap (λ p. refusal_at p id (all_links h)) e ∙ refusal_is h base id

pub refused_known : (h : Paths) (base : Option Revision) (id : List ℕ) (n : ℕ) → Ok n ≡ next_position h base → is_known (n, id) (all_links h) ≡ true → Some Known ≡ refusal_of h base id
refused_known h base id n e k = (let t : Some Known ≡ refusal_at (Ok n) id (all_links h) = rw k refl in t) ∙ ap (λ p. refusal_at p id (all_links h)) e ∙ refusal_is h base id

pub not_refused : (h : Paths) (base : Option Revision) (id : List ℕ) (n : ℕ) → Ok n ≡ next_position h base → is_known (n, id) (all_links h) ≡ false → None ≡ refusal_of h base id
not_refused h base id n e k = (let t : None ≡ refusal_at (Ok n) id (all_links h) = rw k refl in t) ∙ ap (λ p. refusal_at p id (all_links h)) e ∙ refusal_is h base id

-- ---- where a new revision is made

pub open_refused : (o : Option TreeRefusal) (base : Option Revision) (refusal : TreeRefusal) (r : Result ℕ TreeError) → Some refusal ≡ o → IsErrAnd r (λ e. e ≡ error_of refusal) → r ≡ position_unless o base
open_refused o base refusal (Ok n) is h = absurd h
open_refused o base refusal (Err e) is h = subst (λ (x : Option TreeRefusal). Err e ≡ position_unless x base) is (ap Err h)

pub open_above : (o : Option TreeRefusal) (base : Option Revision) (n : ℕ) → None ≡ o → n ≡ position_below base + 1 → Ok n ≡ position_unless o base
open_above o base n is e = subst (λ (x : Option TreeRefusal). Ok n ≡ position_unless x base) is (ap Ok e)

-- there is a position only without a refusal
pub unrefused : (o : Option TreeRefusal) (base : Option Revision) (n : ℕ) → Ok n ≡ position_unless o base → None ≡ o
unrefused None base n e = refl
unrefused (Some refusal) base n e = cc

-- ---- the result of an extension

pub decides_refused : (o : Option TreeRefusal) (base : Option Revision) (e : TreeError) (r : Result (Unit {0}) TreeError) → Err e ≡ position_unless o base → IsErrAnd r (λ f. f ≡ e) → Decides o r
decides_refused None base e r is h = cc
decides_refused (Some refusal) base e (Ok u) is h = absurd h
decides_refused (Some refusal) base e (Err f) is h = let same : e ≡ error_of refusal = cc in ap Err (h ∙ same)

pub decides_made : (o : Option TreeRefusal) (r : Result (Unit {0}) TreeError) → None ≡ o → IsOkUnless r no_memory → Decides o r
decides_made o r is h = subst (λ (x : Option TreeRefusal). Decides x r) is h

-- memory runs out
pub only_memory : (r : Result (Unit {0}) TreeError) → IsErrAnd r (λ e. e ≡ no_memory) → IsOkUnless r no_memory
only_memory (Ok u) h = tt
only_memory (Err e) h = h
