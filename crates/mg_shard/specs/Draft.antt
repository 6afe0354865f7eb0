-- What contracts see of a shard while a bulk is applied, and the histories that it stands for.
use Rattle.std.specs.Prelude.{◌≡◌, ℕ, List, map, String, string_bytes, Option, Some, None, Result, Ok, Err, refl}
use Rattle.std.specs.Cmp.Lexicographic.{slice_cmp}
use Rattle.std.specs.Coded.{Coded, code_by, coded×, coded_ℕ, coded_list}
use Rattle.std.specs.FinMap as finite
use Rattle.std.specs.FinMap.{FinMap, from_entries, get, insert}
use Rattle.std.specs.Ordering.{nat_cmp}
use Rattle.std.specs.declared.alloc.Global.{Global}
use Rattle.mg_revtree.specs.Revision.{Revision}
use Rattle.mg_revtree.specs.History.{Paths}
use Rattle.mg_revtree.specs.Tree.{Tree, StandsFor, tree_code}
use Rattle.mg_doc.specs.Document.{Edit}
use Rattle.mg_doc.specs.Edit.{edited}
use Rattle.mg_doc.specs.declared.error.EditRefusal.{EditRefusal}
use Rattle.mg_shard.specs.Documents.{KeptDocument, KeptDocuments, StandsAt}
use Rattle.mg_shard.specs.Edits.{id_in}
use Rattle.mg_shard.specs.Histories.{Histories}
use Rattle.mg_shard.specs.Shard.{ShardView, shard_code}

-- trees by the ids of their documents
abbrev pub Trees : Type 0
Trees = FinMap (slice_cmp nat_cmp) Tree

-- what a draft holds: the shard before the bulk, and the trees that the bulk has touched, as they are now
pub record DraftView : Type 0 where
  pub shard : ShardView
  pub touched : Trees

-- how the logic stores what a draft holds
abbrev pub draft_code : Coded DraftView
draft_code =
    code_by (ShardView × Trees) (coded× shard_code (finite.code (coded_list coded_ℕ) tree_code))
    (λ d. (d.shard, d.touched)) (λ p. record { shard = p.0; touched = p.1 }) (λ _. refl)

-- the code's list of touched trees, as trees by the ids of their documents
abbrev pub touched_of : List (String Global × Tree) → Trees
touched_of es = from_entries (map (λ e. (string_bytes e.0, e.1)) es)

-- at an id that the bulk has touched, there is a history, and the touched tree stands for it. At any other id, the kept document stands for
-- the history, or there is neither
abbrev pub DraftAt : List ℕ → Option Tree → Option KeptDocument → Option Paths → Type 0
DraftAt id (Some t) kept None = ⊥
DraftAt id (Some t) kept (Some h) = StandsFor t h
DraftAt id None kept o = StandsAt id kept o

-- documents and touched trees stand for histories if at each id the touched tree, or else the document, stands for the id's history
abbrev pub TouchedStandFor : KeptDocuments → Trees → Histories → Type 0
TouchedStandFor ds ts hs = (id : List ℕ) → DraftAt id (get ts id) (get ds id) (get hs id)

-- a draft stands for histories if its documents and touched trees do
abbrev pub DraftStandsFor : DraftView → Histories → Type 0
DraftStandsFor d hs = TouchedStandFor d.shard.documents d.touched hs

-- an edit of a document with the history `h`, which a look found ready, changes the touched trees `ts` to `us`, by its outcome: if the edit
-- is refused, `us` is `ts`; otherwise a tree that stands for `h` after the edit is put under the edit's id
abbrev pub Touches : Paths → Edit → Result Revision EditRefusal → Trees → Trees → Type 0
Touches h e (Ok r) ts us = (t : Tree) × StandsFor t (edited h e) × (us ≡ insert ts (id_in e) t)
Touches h e (Err x) ts us = us ≡ ts
