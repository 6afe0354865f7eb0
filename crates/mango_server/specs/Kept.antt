-- What the program keeps of its commits: one row of its file for each.
use Rattle.std.specs.Prelude.{◌≡◌, Bool, false, List, [], ◌∷◌, Option, Some, None, IsTrue}
use Rattle.sqlite.specs.Store.{Ghosts}
use Rattle.mg_engine.specs.Commands.{Asked}
use Rattle.mg_live.specs.Keeping.{IsTextOf}
use Rattle.mg_live.specs.declared.record.RecordKind.{RecordKind}
use Rattle.mg_live.specs.declared.record.RecordKind.TheVariants as write
use Rattle.mg_log.specs.Entry.{Entry, kind_name}
use Rattle.mg_log.specs.Log.{connection_of, IsHonest, Keeps}
use Rattle.mg_log.specs.declared.commit.Kind.{Kind}
use Rattle.mg_log.specs.declared.commit.Kind.TheVariants as row
use Rattle.mg_log.specs.declared.log.Log.{Log}

-- the kind of the row for a write of this kind
abbrev pub row_kind : RecordKind → Kind
row_kind write.Bulk = row.Bulk
row_kind write.CreateIndex = row.CreateIndex
row_kind write.DropIndex = row.DropIndex
row_kind write.Reshard = row.Reshard

-- the row is the text of this write
abbrev pub IsRowOf : Entry → Asked → Type 0
IsRowOf e c = (kind : RecordKind) × (e.kind ≡ kind_name (row_kind kind)) × IsTextOf kind e.body c

-- the rows are the texts of these writes, in their order
abbrev pub AreRowsOf : List Entry → List Asked → Type 0
AreRowsOf [] [] = Unit {0}
AreRowsOf (e ∷ es) (c ∷ cs) = IsRowOf e c × AreRowsOf es cs
AreRowsOf es cs = ⊥

module _ {S : Type 0} {g : Ghosts S} where
  -- the file of the log has the rows of these writes, as long as the disk returns what was written
  pub record HasRowsOf (log : Log S g) (writes : List Asked) : Type 0 where
    pub rows : List Entry
    pub are : AreRowsOf rows writes
    pub kept : IsHonest g log → IsTrue (connection_of g log).is_open → Keeps g log rows

  -- without a log nothing is kept; with one that is not lost, its file has the rows of these writes
  abbrev pub KeepsIn : Option (Log S g) → Bool → List Asked → Type 0
  KeepsIn None lost writes = Unit {0}
  KeepsIn (Some log) lost writes = lost ≡ false → HasRowsOf log writes
