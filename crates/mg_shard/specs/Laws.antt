-- Laws of what shards stand for.
use Rattle.std.specs.Prelude.{◌≡◌, ℕ, List, Some, length, slice_get, slice_set}
use Rattle.std.specs.FinMap.{empty, get}
use Rattle.mg_doc.specs.Document.{Edit}
use Rattle.mg_shard.specs.Dealt.{DraftsStandFor, Placing, ShardStandsFor, ShardsStandFor, kept_at}
use Rattle.mg_shard.specs.Documents.{KeptDocuments, StandFor, StandsAt, deleted_of, docs_of}
use Rattle.mg_shard.specs.Draft.{DraftStandsFor, DraftView}
use Rattle.mg_shard.specs.Edits.{after_edit, id_in, outcome_in}
use Rattle.mg_shard.specs.Histories.{Histories, deleted_documents, served_documents}
use Rattle.mg_shard.specs.Shard.{ShardView}

-- the served documents of a shard are those of the histories that it stands for
abbrev pub TheServedAreKept : Type 0
TheServedAreKept = (ds : KeptDocuments) (hs : Histories) → StandFor ds hs → docs_of ds ≡ served_documents hs

-- the deleted documents of a shard are those of the histories that it stands for
abbrev pub TheDeletedAreKept : Type 0
TheDeletedAreKept = (ds : KeptDocuments) (hs : Histories) → StandFor ds hs → deleted_of ds ≡ deleted_documents hs

-- shards that have no document stand for the empty map of histories
abbrev pub NothingIsDealt : Type 0
NothingIsDealt =
    (place : Placing) (shards : List ShardView) → ((i : ℕ) (s : ShardView) → slice_get shards i ≡ Some s → s.documents ≡ empty)
    → ShardsStandFor place shards empty

-- the shard on which an id is placed has the document that stands for the id's history, or no document of the id if it has no history
abbrev pub EachIdHasItsShard : Type 0
EachIdHasItsShard =
    (place : Placing) (shards : List ShardView) (hs : Histories) (id : List ℕ) → ShardsStandFor place shards hs
    → StandsAt id (kept_at place shards id) (get hs id)

-- the outcome of an edit depends only on the draft of its shard
abbrev pub ItsShardDecidesEachEdit : Type 0
ItsShardDecidesEachEdit =
    (place : Placing) (drafts : List DraftView) (hs : Histories) (e : Edit) (d : DraftView) → slice_get drafts (place (id_in e) (length drafts)) ≡ Some d
    → DraftsStandFor place drafts hs → (gs : Histories) × DraftStandsFor d gs × (outcome_in gs e ≡ outcome_in hs e)

-- if drafts stand for histories, and then the draft of an edit's shard applies the edit and the others do not change, the drafts stand for
-- the histories after the edit
abbrev pub ItsShardMakesEachEdit : Type 0
ItsShardMakesEachEdit =
    (place : Placing) (drafts : List DraftView) (hs : Histories) (e : Edit) (before after : DraftView) → slice_get drafts (place (id_in e) (length drafts)) ≡ Some before
    → ((gs : Histories) → DraftStandsFor before gs → DraftStandsFor after (after_edit gs e)) → DraftsStandFor place drafts hs
    → DraftsStandFor place (slice_set drafts (place (id_in e) (length drafts)) after) (after_edit hs e)

-- if each draft stands for what the shard at its position stands for, the drafts together stand for what the shards together stand for
abbrev pub ShardsBecomeDrafts : Type 0
ShardsBecomeDrafts =
    (place : Placing) (shards : List ShardView) (drafts : List DraftView) (hs : Histories) → length drafts ≡ length shards
    → ((i : ℕ) (d : DraftView) → slice_get drafts i ≡ Some d
    → (s : ShardView) × (slice_get shards i ≡ Some s) × ((gs : Histories) → ShardStandsFor s gs → DraftStandsFor d gs))
    → ShardsStandFor place shards hs → DraftsStandFor place drafts hs

-- if each shard stands for what the draft at its position stands for, the shards together stand for what the drafts together stand for
abbrev pub DraftsBecomeShards : Type 0
DraftsBecomeShards =
    (place : Placing) (drafts : List DraftView) (shards : List ShardView) (hs : Histories) → length shards ≡ length drafts
    → ((i : ℕ) (s : ShardView) → slice_get shards i ≡ Some s
    → (d : DraftView) × (slice_get drafts i ≡ Some d) × ((gs : Histories) → DraftStandsFor d gs → ShardStandsFor s gs))
    → DraftsStandFor place drafts hs → ShardsStandFor place shards hs
