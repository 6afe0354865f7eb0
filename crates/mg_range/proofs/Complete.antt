-- No document that a query finds is outside the range of a usable index.
use Rattle.std.proofs.Common.{◌≡◌, Bool, true, false, cond, not, ◌||◌, List, [], ◌∷◌, Option, Some, None, is_some, option_and_then, option_map, IsSome, refl, sym, subst, ap, ap₂, ◌∙◌, ⊎_elim}
use Rattle.std.proofs.lemmas.Bool.{false≢true, and_parts, and_from, or_cases}
use Rattle.std.proofs.lemmas.List.Elements.{All-head, All-tail}
use Rattle.std.specs.List.{All, list_any, list_all, starts_with}
use Rattle.mg_value.specs.Value.{Value}
use Rattle.mg_path.specs.Equal.{path_eq}
use Rattle.mg_path.specs.Part.{part_of}
use Rattle.mg_selector.specs.Meaning.{operator_holds}
use Rattle.mg_normal.specs.Atoms.{Atom, atoms_of, atom_holds}
use Rattle.mg_normal.specs.Laws.{AtomsAreNecessary}
use Rattle.mg_index.specs.Bound.{bound_on, bounds_on, meets_all, is_fixed}
use Rattle.mg_index.specs.Choice.{is_covered, requires_column, needs_part, id_path, rev_path}
use Rattle.mg_index.specs.Definition.{Steps}
use Rattle.mg_index.proofs.Paths.{path_eq-Decides}
use Rattle.mg_range.proofs.Bounded.{bounds_hold}
use Rattle.mg_range.specs.Laws.{Has, HasKey, RangesAreComplete}
use Rattle.mg_range.specs.Range.{in_range}

-- each atom holds of the document
abbrev Hold : Value → List Atom → Type 0
Hold v atoms = All (λ a. atom_holds (Some v) a ≡ true) atoms

-- ---- the column is there

-- the part is there
abbrev Part : Option Value → Type 0
Part o = (w : Value) × (o ≡ Some w)

there_at : (o : Option Value) → IsSome o → Part o
there_at None h = absurd (false≢true h)
there_at (Some w) h = (w, refl)

there : (v : Value) (c : Steps) → Has v c → Part (part_of c v)
there v c h = there_at (part_of c v) h

along : (v : Value) (c d : Steps) → path_eq c d ≡ true → Part (part_of d v) → Part (part_of c v)
along v c d e h = subst (λ s. Part (part_of s v)) (sym ((path_eq-Decides c d).0 e)) h

in_sort : (v : Value) (c : Steps) (sort : List Steps) → All (Has v) sort → list_any (path_eq c) sort ≡ true → Part (part_of c v)
in_sort v c [] h k = absurd (false≢true k)
in_sort v c (d ∷ ds) h k =
    ⊎_elim (λ e. along v c d e (there v d (All-head (Has v) d ds h))) (λ e. in_sort v c ds (All-tail (Has v) d ds h) e) (or_cases (path_eq c d) (list_any (path_eq c) ds) k)

needed : (a : Atom) (o : Option Value) → operator_holds a.operator a.sense o ≡ true → needs_part a ≡ true → Part o
needed a None h k = absurd (false≢true (ap not (sym h) ∙ k))
needed a (Some w) h k = (w, refl)

asked : (v : Value) (c : Steps) (atoms : List Atom) → Hold v atoms → list_any (requires_column c) atoms ≡ true → Part (part_of c v)
asked v c [] h k = absurd (false≢true k)
asked v c (a ∷ atoms) h k =
    ⊎_elim
    (λ e.
    let p = and_parts (path_eq a.steps c) (needs_part a) e in
    subst (λ s. Part (part_of s v)) ((path_eq-Decides a.steps c).0 p.0) (needed a (part_of a.steps v) (All-head (λ b. atom_holds (Some v) b ≡ true) a atoms h) p.1))
    (λ e. asked v c atoms (All-tail (λ b. atom_holds (Some v) b ≡ true) a atoms h) e)
    (or_cases (requires_column c a) (list_any (requires_column c) atoms) k)

covered : (v : Value) (atoms : List Atom) (sort : List Steps) (c : Steps) → Hold v atoms → Has v id_path → Has v rev_path → All (Has v) sort
    → is_covered atoms sort c ≡ true → Part (part_of c v)
covered v atoms sort c h i r s k =
    ⊎_elim (λ e. along v c id_path e (there v id_path i))
    (λ e. ⊎_elim (λ f. along v c rev_path f (there v rev_path r))
    (λ f. ⊎_elim (in_sort v c sort s) (asked v c atoms h) (or_cases (list_any (path_eq c) sort) (list_any (requires_column c) atoms) f))
    (or_cases (path_eq c rev_path) (list_any (path_eq c) sort || list_any (requires_column c) atoms) e))
    (or_cases (path_eq c id_path) (path_eq c rev_path || (list_any (path_eq c) sort || list_any (requires_column c) atoms)) k)

-- ---- its value meets the bounds

either_holds : (b h : Bool) → h ≡ true → (not b || h) ≡ true
either_holds true h e = e
either_holds false h e = refl

all_hold : (v : Value) (c : Steps) (atoms : List Atom) → Hold v atoms → list_all (λ a. not (is_some (bound_on c a)) || atom_holds (Some v) a) atoms ≡ true
all_hold v c [] h = refl
all_hold v c (a ∷ atoms) h =
    and_from (not (is_some (bound_on c a)) || atom_holds (Some v) a) (list_all (λ b. not (is_some (bound_on c b)) || atom_holds (Some v) b) atoms)
    (either_holds (is_some (bound_on c a)) (atom_holds (Some v) a) (All-head (λ b. atom_holds (Some v) b ≡ true) a atoms h))
    (all_hold v c atoms (All-tail (λ b. atom_holds (Some v) b ≡ true) a atoms h))

all_met : (v : Value) (c : Steps) (w : Value) (atoms : List Atom) → part_of c v ≡ Some w → Hold v atoms → meets_all w (bounds_on atoms c) ≡ true
all_met v c w atoms e h = sym (bounds_hold v c w e atoms) ∙ all_hold v c atoms h

-- ---- the key

either_way : (b r : Bool) → r ≡ true → cond b r true ≡ true
either_way true r h = h
either_way false r h = refl

key_there : (v : Value) (atoms : List Atom) (sort columns : List Steps) → Hold v atoms → Has v id_path → Has v rev_path → All (Has v) sort
    → list_all (is_covered atoms sort) columns ≡ true → (key : List Value) × HasKey columns v key × (in_range atoms columns key ≡ true)
key_there v atoms sort [] h i r s k = ([], refl, refl)
key_there v atoms sort (c ∷ cs) h i r s k =
    let p = and_parts (is_covered atoms sort c) (list_all (is_covered atoms sort) cs) k in
    let first = covered v atoms sort c h i r s p.0 in
    let more = key_there v atoms sort cs h i r s p.1 in (
      first.0 ∷ more.0,
      ap₂ (λ o os. option_and_then (λ y. option_map (λ ys. y ∷ ys) os) o) first.1 more.1,
      and_from (meets_all first.0 (bounds_on atoms c)) (cond (is_fixed atoms c) (in_range atoms cs more.0) true) (all_met v c first.0 atoms first.1 h)
          (either_way (is_fixed atoms c) (in_range atoms cs more.0) more.2),
    )

pub complete : AtomsAreNecessary → RangesAreComplete
complete necessary s sort columns v usable i r present holds =
    let p = and_parts (list_all (is_covered (atoms_of s) sort) columns) (starts_with path_eq columns sort) usable in
    key_there v (atoms_of s) sort columns (necessary s (Some v) holds) i r present p.0
