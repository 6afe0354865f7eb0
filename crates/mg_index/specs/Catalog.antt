-- The indexes of a database, as a map from design document and name: a list sorted by design document, then name, in which no two
-- definitions have equal design documents and names.
use Rattle.std.specs.Prelude.{◌≡◌, ⊤, ℕ, List, [], ◌∷◌, Bool, ◌&&◌, Option, if◌then◌else◌}
use Rattle.std.specs.List.{find, AllByRecursion}
use Rattle.std.specs.Cmp.Lexicographic.{slice_cmp}
use Rattle.std.specs.Ordering.{nat_cmp, match_ordering, on, then_cmp}
use Rattle.std.specs.Str.{bytes_eq}
use Rattle.std.specs.declared.cmp.Ordering.{Ordering}
use Rattle.std.specs.declared.cmp.Ordering.TheVariants.{Less}
use Rattle.mg_index.specs.Definition.{IndexDefinition}

-- orders by design document, then name
abbrev pub definition_order : IndexDefinition → IndexDefinition → Ordering
definition_order = then_cmp (on (λ d. d.ddoc) (slice_cmp nat_cmp)) (on (λ d. d.name) (slice_cmp nat_cmp))

-- the definition has this design document and name
abbrev pub is_named : List ℕ → List ℕ → IndexDefinition → Bool
is_named ddoc name d = bytes_eq ddoc d.ddoc && bytes_eq name d.name

-- the definition of that design document and name, if there is one
abbrev pub definition_at : List ℕ → List ℕ → List IndexDefinition → Option IndexDefinition
definition_at ddoc name ds = find (is_named ddoc name) ds

-- the definitions with d at its place in the order, where d replaces one of the same design document and name
abbrev pub with_definition : IndexDefinition → List IndexDefinition → List IndexDefinition
with_definition d [] = d ∷ []
with_definition d (e ∷ es) = match_ordering (definition_order d e) (d ∷ e ∷ es) (d ∷ es) (e ∷ with_definition d es)

-- the definitions without the one of that design document and name
abbrev pub without_definition : List ℕ → List ℕ → List IndexDefinition → List IndexDefinition
without_definition ddoc name [] = []
without_definition ddoc name (d ∷ ds) = if is_named ddoc name d then ds else d ∷ without_definition ddoc name ds

-- the definitions are sorted by design document, then name, and no two tie: each is below all definitions after it
abbrev pub IsCatalog : List IndexDefinition → Type 0
IsCatalog [] = ⊤
IsCatalog (d ∷ ds) = AllByRecursion (λ e. definition_order d e ≡ Less) ds × IsCatalog ds
