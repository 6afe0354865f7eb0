-- For public clauses: the text by which a write outlives the program.
use Rattle.std.specs.Prelude.{◌≡◌, ◌≤◌, ℕ, List, codes, string_bytes}
use Rattle.mg_value.specs.Stored.{IsStored}
use Rattle.mg_value.specs.Text.{Reads}
use Rattle.mg_value.specs.Value.{Value, text, object, no_members, member, depth}
use Rattle.mg_engine.specs.Commands.{Asked, bulk, create_index, drop_index, reshard}
use Rattle.mg_live.specs.declared.record.Record.{Record}
use Rattle.mg_live.specs.declared.record.RecordKind.{RecordKind}
use Rattle.mg_live.specs.declared.record.RecordKind.TheVariants.{Bulk, CreateIndex, DropIndex, Reshard}

-- the bytes are a JSON text (RFC 8259) of the value, if a text can carry it: every value that is read from a text can be carried
abbrev pub HasText : List ℕ → Value → Type 0
HasText bytes v = IsStored v → depth v ≤ 127 → Reads bytes v

-- the index of this name in this design document, as the body of a record
abbrev pub dropped_value : List ℕ → List ℕ → Value
dropped_value ddoc name = object (member (codes "ddoc") (text ddoc) (member (codes "name") (text name) no_members))

-- the bytes are the text of this write, which is of this kind
abbrev pub IsTextOf : RecordKind → List ℕ → Asked → Type 0
IsTextOf Bulk bytes (bulk v) = HasText bytes v
IsTextOf CreateIndex bytes (create_index v) = HasText bytes v
IsTextOf DropIndex bytes (drop_index ddoc name) = HasText bytes (dropped_value ddoc name)
IsTextOf Reshard bytes (reshard v) = HasText bytes v
IsTextOf kind bytes c = ⊥

-- the record is one of this write
abbrev pub IsRecordOf : Record → Asked → Type 0
IsRecordOf r c = IsTextOf r.kind (string_bytes r.body) c
