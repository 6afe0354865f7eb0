-- The documents of some shards, dealt to others by a placement of their ids.
use denote.Ref.{Bor}
use Rattle.std.specs.Prelude.{◌≡◌, ℕ, ◌<◌, ◌==◌, List, [], ◌∷◌, All, length, map, cond, Option, Some, None, option_map, unwrap_or, slice_get}
use Rattle.std.specs.Cmp.Lexicographic.{slice_cmp}
use Rattle.std.specs.FinMap.{get}
use Rattle.std.specs.List.{AllZip}
use Rattle.std.specs.Option.{option_or}
use Rattle.std.specs.Ordering.{eq_by_cmp, nat_cmp}
use Rattle.mg_index.specs.Definition.{IndexDefinition}
use Rattle.mg_shard.specs.Dealt.{Placing, ShardsStandFor}
use Rattle.mg_shard.specs.Documents.{KeptDocument, KeptDocuments, id_bytes, kept_of}
use Rattle.mg_shard.specs.Histories.{Histories}
use Rattle.mg_shard.specs.Shard.{ShardView}
use Rattle.mg_shard.specs.declared.document.Document.{Document}

-- the documents of each of these shards
abbrev pub documents_in : List ShardView → List KeptDocuments
documents_in shards = map (λ s. s.documents) shards

-- the document of an id on any of these shards: the one of the last shard that has one; `None` if no shard has one
abbrev pub kept_in : List KeptDocuments → List ℕ → Option KeptDocument
kept_in [] id = None
kept_in (ds ∷ more) id = option_or (kept_in more id) (get ds id)

-- the documents of some shards are dealt to new ones: each id of a document is placed on one of the new shards, and each of these has
-- the documents of the former shards whose ids are placed there, and no others
pub record AreRedealt (place : Placing) (from to : List KeptDocuments) : Type 0 where
  pub placed : (id : List ℕ) (d : KeptDocument) → kept_in from id ≡ Some d → place id (length to) < length to
  pub each : (i : ℕ) (ds : KeptDocuments) → slice_get to i ≡ Some ds → (id : List ℕ)
      → get ds id ≡ cond (place id (length to) == i) (kept_in from id) None

-- the definitions of the first of these shards; none if there is no shard
abbrev pub first_definitions : List ShardView → List IndexDefinition
first_definitions shards = unwrap_or (option_map (λ s. s.definitions) (slice_get shards 0)) []

-- `count` new shards are made of former ones: the documents are dealt to them, they stand for what the former ones stand for, whatever
-- placement dealt these, and they have the definitions of the first of them, or of each, if all have the same
pub record Redeals (place : Placing) (count : ℕ) (from to : List ShardView) : Type 0 where
  pub number : length to ≡ count
  pub documents : AreRedealt place (documents_in from) (documents_in to)
  pub stands : (before : Placing) (hs : Histories) → ShardsStandFor before from hs → ShardsStandFor place to hs
  pub first : All (λ s. s.definitions ≡ first_definitions from) to
  pub indexes : (ds : List IndexDefinition) → 0 < length from → All (λ s. s.definitions ≡ ds) from → All (λ s. s.definitions ≡ ds) to

-- ---- for private clauses

-- the documents behind lent references
abbrev pub documents_view : List (Bor Document) → List Document
documents_view documents = map (λ d. d.now) documents

-- the last of these documents with this id, as it is kept; `None` if none of them has the id
abbrev pub last_kept : List Document → List ℕ → Option KeptDocument
last_kept [] id = None
last_kept (d ∷ ds) id = option_or (last_kept ds id) (cond (eq_by_cmp (slice_cmp nat_cmp) id (id_bytes d)) (Some (kept_of d)) None)

-- the document is placed on shard `i` of `n`, counted from 0
abbrev pub IsPlace : Placing → ℕ → Document → ℕ → Type 0
IsPlace place n d i = (i ≡ place (id_bytes d) n) × (i < n)

-- each document is placed on one of `n` shards: the one whose number `places` has at the document's position. There are as many places as
-- documents
abbrev pub ArePlaces : Placing → ℕ → List Document → List ℕ → Type 0
ArePlaces place n ds places = AllZip (IsPlace place n) ds places

-- for every placement that gives the documents these places, among any number `n` of shards, `to` has the documents whose ids are placed on
-- shard `i`, and no others; of several documents with one id it has the last
abbrev pub KeepsThose : List Document → List ℕ → ℕ → KeptDocuments → Type 0
KeepsThose ds places i to =
    (place : Placing) (n : ℕ) → ArePlaces place n ds places → (id : List ℕ) → get to id ≡ cond (place id n == i) (last_kept ds id) None

-- the shard `s` has the documents that are placed on shard `i`, and indexes of these definitions
pub record IsMade (ds : List Document) (places : List ℕ) (definitions : List IndexDefinition) (i : ℕ) (s : ShardView) : Type 0 where
  pub keeps : KeepsThose ds places i s.documents
  pub indexes : s.definitions ≡ definitions

-- each of these shards has the documents that are placed on the shard of its position, and indexes of these definitions
abbrev pub AreMade : List Document → List ℕ → List IndexDefinition → List ShardView → Type 0
AreMade ds places definitions shards = (i : ℕ) (s : ShardView) → slice_get shards i ≡ Some s → IsMade ds places definitions i s
