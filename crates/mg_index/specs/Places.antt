-- For private clauses: where a definition goes in a catalog.
use Rattle.std.specs.Prelude.{◌≡◌, ◌<◌, ◌≤◌, ℕ, List, length, Some, None, slice_index_or, slice_set}
use Rattle.std.specs.Cmp.Lexicographic.{slice_cmp}
use Rattle.std.specs.List.{insert, remove}
use Rattle.std.specs.Ordering.{nat_cmp, ordering_then}
use Rattle.std.specs.declared.cmp.Ordering.{Ordering}
use Rattle.mg_index.specs.Catalog.{with_definition, without_definition, definition_at}
use Rattle.mg_index.specs.Definition.{IndexDefinition}
use Rattle.mg_index.specs.declared.catalog.Slot.{Slot}
use Rattle.mg_index.specs.declared.catalog.Slot.TheVariants.{At, Before}

-- the order of a design document and a name against those of a definition
abbrev pub name_order : List ℕ → List ℕ → IndexDefinition → Ordering
name_order ddoc name d = ordering_then (slice_cmp nat_cmp ddoc d.ddoc) (slice_cmp nat_cmp name d.name)

-- the slot is right for this design document and name: `At` the place of the definition that has both; if there is no such definition,
-- `Before` the place at which adding one inserts it, which is the length of the list if it goes to the end
abbrev pub IsSlotOf : List ℕ → List ℕ → List IndexDefinition → Slot → Type 0
IsSlotOf ddoc name ds (At n) =
    (n < length ds) × ((x : IndexDefinition) → definition_at ddoc name ds ≡ Some (slice_index_or ds n x)) × (without_definition ddoc name ds ≡ remove ds n)
    × ((d : IndexDefinition) → d.ddoc ≡ ddoc → d.name ≡ name → with_definition d ds ≡ slice_set ds n d)
IsSlotOf ddoc name ds (Before n) =
    (n ≤ length ds) × (definition_at ddoc name ds ≡ None) × (without_definition ddoc name ds ≡ ds)
    × ((d : IndexDefinition) → d.ddoc ≡ ddoc → d.name ≡ name → with_definition d ds ≡ insert ds n d)
