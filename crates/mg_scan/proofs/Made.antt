-- A search whose range and first row are given as bytes finds what it finds with the values, and a target what the reference finds that it lends.
use Rattle.std.proofs.Common.{◌≡◌, ℕ, List, [], ◌∷◌, Option, map, refl, ap, ap₂}
use Rattle.std.specs.Option.{option_map_or}
use Rattle.mg_collate.specs.Row.{RowValue}
use Rattle.mg_collate.specs.declared.direction.Direction.{Direction}
use Rattle.mg_index.specs.Definition.{IndexDefinition, Steps}
use Rattle.mg_normal.specs.Normal.{NormalForm}
use Rattle.mg_range.specs.Range.{Range}
use Rattle.mg_scan.specs.Found.{input_of_parts, found_in, target_columns}
use Rattle.mg_scan.specs.Named.{found_named, named_columns}
use Rattle.mg_scan.specs.Scan.{SearchInput, first_matches}
use Rattle.mg_scan.specs.declared.target.Target.{Target}
use Rattle.mg_scan.specs.declared.target_ref.TargetRef.{TargetRef}
use Rattle.mg_shard.specs.Documents.{docs_of}
use Rattle.mg_shard.specs.Shard.{ShardView}

pub same_found : (target : TargetRef) (normal : NormalForm) (range q : Range) (after p : Option RowValue) (take : ℕ) (direction : Direction) → range ≡ q → after ≡ p
    → ◌≡◌ {A = ShardView → List RowValue} (found_in target (input_of_parts normal range after take direction)) (found_in target (input_of_parts normal q p take direction))
same_found target normal range q after p take direction e f =
    let found : Range → Option RowValue → ShardView → List RowValue = λ x y. found_in target (input_of_parts normal x y take direction) in
    ap₂ found e f

-- a target and the reference that it lends have the same columns, so a search finds the same in each shard
pub same_named : (lent : TargetRef) (target : Target) (input : List Steps → SearchInput) → ((ds : List IndexDefinition) → target_columns lent ds ≡ named_columns target ds)
    → (shards : List ShardView) → map (found_in lent input) shards ≡ map (found_named target input) shards
same_named lent target input h [] = refl
same_named lent target input h (s ∷ ss) =
    let found : Option (List Steps) → List RowValue = λ o. option_map_or (λ columns. first_matches (input columns) (docs_of s.documents)) o [] in
    ap₂ ◌∷◌ (ap found (h s.definitions)) (same_named lent target input h ss)
