-- The header of a log: what row 0 says, as a JSON text (RFC 8259).
use Rattle.std.specs.Prelude.{◌≡◌, ℕ, pos, List, Some, codes, string_bytes}
use Rattle.mg_value.specs.Value.{Value, whole, text, member_of}
use Rattle.mg_value.specs.Text.{Reads}
use Rattle.mg_log.specs.declared.header.Header.{Header}

-- a header without where it lies in memory: the database's name, the counter of ids and the number of commits with which the log begins
pub record Heading : Type 0 where
  pub database : List ℕ
  pub counter : ℕ
  pub commits : ℕ

abbrev pub heading_of : Header → Heading
heading_of h = record { database = string_bytes h.database; counter = h.counter; commits = h.commits }

-- the header of a new log
abbrev pub new_heading : List ℕ → Heading
new_heading name = record { database = name; counter = 0; commits = 0 }

-- what tells a log from the files of other programs
abbrev pub mark : List ℕ
mark = codes "mango_server 1"

-- A value says what a header says; it may have other members.
pub record IsHeader (h : Heading) (v : Value) : Type 0 where
  pub mark : member_of (codes "mark") v ≡ Some (text mark)
  pub database : member_of (codes "database") v ≡ Some (text h.database)
  pub counter : member_of (codes "counter") v ≡ Some (whole (pos h.counter))
  pub commits : member_of (codes "commits") v ≡ Some (whole (pos h.commits))

-- The bytes are a JSON text of this header.
pub record IsHeaderText (h : Heading) (bytes : List ℕ) : Type 0 where
  pub value : Value
  pub reads : Reads bytes value
  pub says : IsHeader h value
