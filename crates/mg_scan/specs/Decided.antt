-- Searches whose range decides the whole selector: the key of a row alone shows whether the search finds that row.
use Rattle.std.specs.Prelude.{◌≡◌, true, false, List, [], Some, None, is_some}
use Rattle.mg_index.specs.Definition.{Steps}
use Rattle.mg_normal.specs.Normal.{NormalForm}
use Rattle.mg_range.specs.Decided.{decides_of}
use Rattle.mg_range.specs.Range.{Range, range_of}
use Rattle.mg_scan.specs.Found.{target_columns}
use Rattle.mg_scan.specs.declared.target_ref.TargetRef.{TargetRef}
use Rattle.mg_shard.specs.Shard.{ShardView}

-- the normal form that every document matches
abbrev pub everything : NormalForm
everything = record { atoms = []; rest = None }

-- the shard has the target; the normal form has only atoms; the range is that of the atoms, and decides each of them
pub record IsDecidedIn (target : TargetRef) (normal : NormalForm) (range : Range) (s : ShardView) : Type 0 where
  pub columns : List Steps
  pub there : target_columns target s.definitions ≡ Some columns
  pub alone : is_some normal.rest ≡ false
  pub decides : decides_of normal.atoms columns ≡ true
  pub bounds : range ≡ range_of normal.atoms columns
