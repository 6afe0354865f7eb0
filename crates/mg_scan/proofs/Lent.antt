-- What workers are lent, and the closure that captures it, may be shared by threads (`Sync`).
use base.Fml.{Lft}
use denote.Builtin.{usize}
use denote.Param.Send.{AllSync, IsSync, recorded_sync, sendable, shr_slice_sync, shr_sync, struct_sync}
use denote.RattleType.{RattleType}
use denote.Ref.{ShrRef}
use denote.Slice.{ShrSlice}
use denote.Struct.Declared as S
use denote.Struct.Field.{rows}
use denote.Struct.Struct.{Struct}
use denote.Struct.Tuple.{TupleAt, parts, type_at}
use mir.Syntax.{named}
use Rattle.std.proofs.Common.{List, [], ◌∷◌}
use Rattle.std.proofs.Crossing.{Arc-sync, crosses, sync}
use Rattle.std.specs.contracts.alloc.Global as Global
use Rattle.std.specs.contracts.impls.GlobalAllocator.TheImpl as allocator
use Rattle.std.specs.contracts.sync.Arc as Arc
use Rattle.std.specs.contracts.sync.atomic.AtomicU64 as Word
use Rattle.mg_index.specs.contracts.definition.IndexDef as IndexDef
use Rattle.mg_scan.proofs.Asked.{definition_sync, search_sync}
use Rattle.mg_shard.proofs.Crossing.{shard_send, shard_sync}
use Rattle.mg_scan.specs.contracts.search.Search as Search
use Rattle.mg_shard.specs.contracts.shard.Shard as Shard

all_parts : (Ts : List RattleType) → AllSync Ts → AllSync (rows (parts Ts))
all_parts [] s = tt
all_parts (T ∷ Ts) s = (s.0, all_parts Ts s.1)

-- a closure may be shared if what it captures may be; its name and the names of lifetimes make no difference, so any are used here
closure_sync : (Ts : List RattleType) → AllSync Ts → IsSync (TupleAt [] Ts)
closure_sync Ts s = let T = type_at [] Ts in recorded_sync (Struct (S.shape T)) T.D T.to T.to_one (struct_sync (S.shape T) (all_parts Ts s))

abbrev lent : Lft → RattleType → RattleType
lent κ R = ShrRef (named 0) κ R

abbrev shards_for : Lft → RattleType
shards_for κ = ShrSlice (named 0) κ (Arc.the_row Shard.the_row Global.the_row allocator.ghosts)

lent_sync : (κ : Lft) (R : RattleType) → IsSync R → IsSync (lent κ R)
lent_sync κ R s = shr_sync (named 0) κ R s

shards_sync : (κ : Lft) → IsSync (shards_for κ)
shards_sync κ = shr_slice_sync (named 0) κ _ (Arc-sync _ shard_send shard_sync)

word_sync : IsSync Word.the_row
word_sync = search (sendable, crosses) depth 20

count_sync : IsSync usize
count_sync = search sendable depth 20

-- what a worker of a scan holds: the allocator, the shards, the search, the number of the next shard to claim, and the gate
abbrev scan_holds : Lft → Lft → Lft → Lft → Lft → RattleType → List RattleType
scan_holds a b c d e G = lent [] Global.the_row ∷ shards_for a ∷ lent b (Search.the_row (record { mir = named 0; lft = c })) ∷ lent d Word.the_row ∷ lent e G ∷ []

pub scan_sync : (a b c d e : Lft) (G : RattleType) → IsSync G → IsSync (TupleAt [] (scan_holds a b c d e G))
scan_sync a b c d e G gate =
    closure_sync (scan_holds a b c d e G)
    (lent_sync [] Global.the_row sync, (shards_sync a, (lent_sync b _ (search_sync (record { mir = named 0; lft = c })), (lent_sync d Word.the_row word_sync, (lent_sync e G gate, tt)))))

-- what a worker of a build holds: the threads, the allocator, the shards, the definition, the number of the first shard, the number of
-- workers per shard, and the gate
abbrev build_holds : Lft → Lft → Lft → Lft → RattleType → RattleType → List RattleType
build_holds a b c d R G = lent a R ∷ lent [] Global.the_row ∷ shards_for b ∷ lent c IndexDef.the_row ∷ lent [] usize ∷ lent [] usize ∷ lent d G ∷ []

pub build_sync : (a b c d : Lft) (R G : RattleType) → IsSync R → IsSync G → IsSync (TupleAt [] (build_holds a b c d R G))
build_sync a b c d R G threads gate =
    closure_sync (build_holds a b c d R G)
    (lent_sync a R threads, (lent_sync [] Global.the_row sync, (shards_sync b, (lent_sync c IndexDef.the_row definition_sync, (lent_sync [] usize count_sync, (lent_sync [] usize count_sync, (lent_sync d G gate, tt)))))))
