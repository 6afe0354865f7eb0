-- For private clauses: a usable index with what, besides its definition, decides how it is preferred; and the best of those
-- seen so far.
use Rattle.std.specs.Prelude.{◌≡◌, ℕ, List, Option, Some, None, slice_get}
use Rattle.mg_normal.specs.Atoms.{Atom}
use Rattle.mg_index.specs.Bound.{bounded_count}
use Rattle.mg_index.specs.Choice.{Hint, is_hinted, lesser, preference}
use Rattle.mg_index.specs.Definition.{IndexDefinition}
use Rattle.mg_index.specs.declared.choice.Candidate.{Candidate}

-- the place is that of the best definition; there is no place if there is no best definition
abbrev pub IsBestPlace : List IndexDefinition → Option IndexDefinition → Option ℕ → Type 0
IsBestPlace ds best None = best ≡ None
IsBestPlace ds best (Some place) = (d : IndexDefinition) × (slice_get ds place ≡ Some d) × (best ≡ Some d)

-- the candidate is right about its definition: whether the hint names it, and how many of its columns are bounded
pub record IsRanked (atoms : List Atom) (hint : Hint) (c : Candidate) : Type 0 where
  pub hinted : c.hinted ≡ is_hinted hint c.definition.now
  pub bounded : c.bounded ≡ bounded_count atoms c.definition.now.columns

-- the candidate is right about its definition, and the definition is the one at its place
pub record Describes (atoms : List Atom) (hint : Hint) (ds : List IndexDefinition) (c : Candidate) : Type 0 where
  pub ranked : IsRanked atoms hint c
  pub at : slice_get ds c.place ≡ Some c.definition.now

-- the best candidate so far, if there is one, is right
abbrev pub DescribesBest : List Atom → Hint → List IndexDefinition → Option Candidate → Type 0
DescribesBest atoms hint ds None = Unit {0}
DescribesBest atoms hint ds (Some c) = Describes atoms hint ds c

-- the lesser of the best candidate so far and the least of other definitions; if one is absent, the other
abbrev pub least_with : List Atom → Hint → Option Candidate → Option IndexDefinition → Option IndexDefinition
least_with atoms hint None others = others
least_with atoms hint (Some c) others = Some (lesser (preference atoms hint) c.definition.now others)
