-- The laws of the order of preference, in which `Choice` takes the least usable index: it is total, no two definitions of a
-- catalog tie, and the least of some definitions is one of them and is not above any of them.
use Rattle.std.specs.Prelude.{◌≡◌, List, false, Some}
use Rattle.std.specs.List.{All, Contains}
use Rattle.std.specs.Cmp.{IsTotalOrder}
use Rattle.std.specs.Ordering.{is_gt}
use Rattle.std.specs.declared.cmp.Ordering.{Ordering}
use Rattle.std.specs.declared.cmp.Ordering.TheVariants.{Equal}
use Rattle.mg_normal.specs.Atoms.{Atom}
use Rattle.mg_index.specs.Choice.{Hint, least, preference}
use Rattle.mg_index.specs.Definition.{IndexDefinition}

-- x is in the list, and is not above any item of it
abbrev pub IsLeast : {X : Type 0} → (X → X → Ordering) → List X → X → Type 0
IsLeast order xs x = Contains xs x × All (λ y. is_gt (order x y) ≡ false) xs

-- the order of preference is total
abbrev pub PreferenceIsTotal : Type 0
PreferenceIsTotal = (atoms : List Atom) (hint : Hint) → IsTotalOrder (preference atoms hint)

-- only definitions with equal design documents and names tie in the order of preference
abbrev pub PreferenceDecides : Type 0
PreferenceDecides = (atoms : List Atom) (hint : Hint) (a b : IndexDefinition) → preference atoms hint a b ≡ Equal → (a.ddoc ≡ b.ddoc) × (a.name ≡ b.name)

-- the least of definitions is one of them, and none of them is preferred to it
abbrev pub LeastIsLeast : Type 0
LeastIsLeast = (atoms : List Atom) (hint : Hint) (ds : List IndexDefinition) (d : IndexDefinition) → least (preference atoms hint) ds ≡ Some d → IsLeast (preference atoms hint) ds d
