-- The index that serves a query is usable for it.
use Rattle.std.proofs.Common.{◌≡◌, Bool, true, false, cond, List, [], ◌∷◌, Option, Some, None, Ordering, is_gt, refl, sym, ap, subst}
use Rattle.std.specs.List.{AllByRecursion, filter}
use Rattle.std.specs.Prelude.{unwrap_or}
use Rattle.mg_normal.specs.Atoms.{Atom}
use Rattle.mg_index.specs.Choice.{Hint, Source, all_docs, defined, all_docs_usable, choice_of, id_path, is_usable, least, lesser, or_all_docs, preference, usable_of}
use Rattle.mg_index.specs.Definition.{IndexDefinition, Steps}
use Rattle.mg_index.proofs.Paths.{path_eq-Decides}
use Rattle.mg_query.specs.Page.{source_columns}

pub same : {X : Type 0} (x y : X) → Some x ≡ Some y → x ≡ y
same x y e = ap (λ o. unwrap_or o x) e

lesser_has : {X : Type 0} (P : X → Type 0) (order : X → X → Ordering) (x : X) (o : Option X) → P x → ((y : X) → o ≡ Some y → P y) → P (lesser order x o)
lesser_has P order x None h k = h
lesser_has P order x (Some y) h k = elim (is_gt (order x y)) as (λ b. P (cond b y x)) [ true ↦ k y refl | false ↦ h ]

pub least_has : {X : Type 0} (P : X → Type 0) (order : X → X → Ordering) (xs : List X) → AllByRecursion P xs → (z : X) → least order xs ≡ Some z → P z
least_has P order [] h z e = absurd cc
least_has P order (x ∷ xs) h z e = subst P (same (lesser order x (least order xs)) z e) (lesser_has P order x (least order xs) h.0 (λ y k. least_has P order xs h.1 y k))

kept_if : {X : Type 0} (p : X → Bool) (x : X) (xs : List X) (b : Bool) → p x ≡ b → AllByRecursion (λ y. p y ≡ true) xs → AllByRecursion (λ y. p y ≡ true) (cond b (x ∷ xs) xs)
kept_if p x xs true e h = (e, h)
kept_if p x xs false e h = h

all_pass : {X : Type 0} (p : X → Bool) (xs : List X) → AllByRecursion (λ y. p y ≡ true) (filter p xs)
all_pass p [] = tt
all_pass p (x ∷ xs) = kept_if p x (filter p xs) (p x) refl (all_pass p xs)

usable_by_id : (atoms : List Atom) (sort : List Steps) → all_docs_usable sort ≡ true → is_usable atoms sort (id_path ∷ []) ≡ true
usable_by_id atoms [] e = refl
usable_by_id atoms (path ∷ []) e = let p : path ≡ id_path = (path_eq-Decides path id_path).0 e in subst (λ q. is_usable atoms (q ∷ []) (id_path ∷ []) ≡ true) (sym p) refl
usable_by_id atoms (path ∷ other ∷ sort) e = absurd cc

by_id : (atoms : List Atom) (sort : List Steps) (b : Bool) (s : Source) → all_docs_usable sort ≡ b → cond b (Some all_docs) None ≡ Some s → is_usable atoms sort (source_columns s) ≡ true
by_id atoms sort false s e h = absurd cc
by_id atoms sort true s e h = subst (λ t. is_usable atoms sort (source_columns t) ≡ true) (same all_docs s h) (usable_by_id atoms sort e)

chosen : (atoms : List Atom) (sort : List Steps) (o : Option IndexDefinition) (s : Source) → ((d : IndexDefinition) → o ≡ Some d → is_usable atoms sort d.columns ≡ true)
    → or_all_docs sort o ≡ Some s → is_usable atoms sort (source_columns s) ≡ true
chosen atoms sort None s h e = by_id atoms sort (all_docs_usable sort) s refl e
chosen atoms sort (Some d) s h e = subst (λ t. is_usable atoms sort (source_columns t) ≡ true) (same (defined d) s e) (h d refl)

-- the chosen index is usable
pub choice_usable : (ds : List IndexDefinition) (atoms : List Atom) (sort : List Steps) (hint : Hint) (s : Source) → choice_of ds atoms sort hint ≡ Some s → is_usable atoms sort (source_columns s) ≡ true
choice_usable ds atoms sort hint s e =
    chosen atoms sort (least (preference atoms hint) (usable_of atoms sort ds)) s
    (λ d k. least_has (λ x. is_usable atoms sort x.columns ≡ true) (preference atoms hint) (usable_of atoms sort ds) (all_pass (λ x. is_usable atoms sort x.columns) ds) d k) e
