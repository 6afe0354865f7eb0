-- Commits as the file has them.
use Rattle.std.specs.Prelude.{ℕ, List, codes, map, string_bytes}
use Rattle.mg_log.specs.declared.commit.Kind.{Kind}
use Rattle.mg_log.specs.declared.commit.Kind.TheVariants.{Bulk, CreateIndex, DropIndex, Reshard}
use Rattle.mg_log.specs.declared.commit.Commit.{Commit}

-- a row without its number
pub record Entry : Type 0 where
  pub kind : List ℕ
  pub body : List ℕ

-- a kind as the file spells it
abbrev pub kind_name : Kind → List ℕ
kind_name Bulk = codes "bulk"
kind_name CreateIndex = codes "create_index"
kind_name DropIndex = codes "drop_index"
kind_name Reshard = codes "reshard"

-- a commit without where it lies in memory
abbrev pub entry_of : Commit → Entry
entry_of c = record { kind = kind_name c.kind; body = string_bytes c.body }

abbrev pub entries_of : List Commit → List Entry
entries_of = map entry_of

-- the header's row, of this text
abbrev pub head_entry : List ℕ → Entry
head_entry bytes = record { kind = codes "header"; body = bytes }
