-- Shards that have the indexes of a catalog, and maybe others: what is listed in the catalog is listed in each of them.
use Rattle.std.proofs.Common.{◌≡◌, ℕ, Bool, true, false, cond, List, [], ◌∷◌, Option, Some, All, Contains, slice_index_or, sym, subst}
use Rattle.std.proofs.lemmas.List.Elements.{All-contains, All-contains_itself, All-from_recursion, recursion_from_All}
use Rattle.std.specs.List.{AllByRecursion}
use Rattle.mg_index.specs.Catalog.{IsCatalog, definition_at, is_named, without_definition}
use Rattle.mg_index.specs.Choice.{Source, all_docs, defined}
use Rattle.mg_index.specs.Definition.{IndexDefinition}
use Rattle.mg_shard.specs.Shard.{HaveIndexes, ShardView}
use Rattle.mg_query.specs.Served.{IsInCatalog}
use Rattle.mg_query.proofs.Listed.{IsFound, all_found}
use Rattle.mg_query.proofs.Usable.{same}

-- ---- one shard

-- a definition among those of a catalog is the one of its design document and name
among : (ds : List IndexDefinition) (d : IndexDefinition) → IsCatalog ds → Contains ds d → IsFound ds d
among ds d catalog there = All-contains (IsFound ds) ds d (All-from_recursion (IsFound ds) ds (all_found ds catalog)) there

first_or_later : (P : IndexDefinition → Type 0) (x d : IndexDefinition) (rest : Option IndexDefinition) (b : Bool) → P x → (rest ≡ Some d → P d) → cond b (Some x) rest ≡ Some d → P d
first_or_later P x d rest true h later e = subst P (same x d e) h
first_or_later P x d rest false h later e = later e

-- what holds of each definition holds of the one that is found
holds_of_found : (P : IndexDefinition → Type 0) (ddoc name : List ℕ) (d : IndexDefinition) (ds : List IndexDefinition) → AllByRecursion P ds → definition_at ddoc name ds ≡ Some d → P d
holds_of_found P ddoc name d [] h e = absurd cc
holds_of_found P ddoc name d (x ∷ ds) h e = first_or_later P x d (definition_at ddoc name ds) (is_named ddoc name x) h.0 (λ f. holds_of_found P ddoc name d ds h.1 f) e

listed_in : (ds own : List IndexDefinition) (source : Source) → IsInCatalog ds source → IsCatalog own → All (Contains own) ds → IsInCatalog own source
listed_in ds own all_docs listed catalog has = tt
listed_in ds own (defined d) listed catalog has = among own d catalog (holds_of_found (Contains own) d.ddoc d.name d ds (recursion_from_All (Contains own) ds has) listed)

-- ---- all shards

-- what is listed in the catalog is listed in each shard
pub listed_in_each : (ds : List IndexDefinition) (source : Source) (shards : List ShardView) → IsInCatalog ds source → All (λ s. IsCatalog s.definitions) shards → HaveIndexes ds shards
    → All (λ s. IsInCatalog s.definitions source) shards
listed_in_each ds source shards listed catalogs have k d less = listed_in ds (slice_index_or shards k d).definitions source listed (catalogs k d less) (have k d less)

-- shards of exactly these definitions have them
pub have_all : (ds : List IndexDefinition) (shards : List ShardView) → All (λ s. s.definitions ≡ ds) shards → HaveIndexes ds shards
have_all ds shards exact k d less = subst (λ (own : List IndexDefinition). All (Contains own) ds) (sym (exact k d less)) (All-contains_itself ds)

left_or_gone : (P : IndexDefinition → Type 0) (x : IndexDefinition) (ds left : List IndexDefinition) (b : Bool) → P x → AllByRecursion P ds → AllByRecursion P left → AllByRecursion P (cond b ds (x ∷ left))
left_or_gone P x ds left true h all some = all
left_or_gone P x ds left false h all some = (h, some)

holds_of_left : (P : IndexDefinition → Type 0) (ddoc name : List ℕ) (ds : List IndexDefinition) → AllByRecursion P ds → AllByRecursion P (without_definition ddoc name ds)
holds_of_left P ddoc name [] h = tt
holds_of_left P ddoc name (x ∷ ds) h = left_or_gone P x ds (without_definition ddoc name ds) (is_named ddoc name x) h.0 h.1 (holds_of_left P ddoc name ds h.1)

-- shards that have the indexes of a catalog have those that it keeps when one is removed
pub have_left : (ddoc name : List ℕ) (ds : List IndexDefinition) (shards : List ShardView) → HaveIndexes ds shards → HaveIndexes (without_definition ddoc name ds) shards
have_left ddoc name ds shards have k d less =
    let P = Contains (slice_index_or shards k d).definitions in
    All-from_recursion P (without_definition ddoc name ds) (holds_of_left P ddoc name ds (recursion_from_All P ds (have k d less)))
