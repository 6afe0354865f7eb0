-- The schema of a log: one table of numbered rows.
use Rattle.std.specs.Prelude.{ℕ, Bool, List, true, false, [], ◌∷◌, Some, codes}
use Rattle.sqlite.specs.Collation.TheVariants.{Binary}
use Rattle.sqlite.specs.declared.types.Value.TheVariants.{Null}
use Rattle.sqlite.specs.Table.{Table}
use Rattle.sqlite.specs.Schema.{Schema}
use Rattle.sqlite_schema.specs.declared.schema.Kind.{Kind}
use Rattle.sqlite.specs.Kind.TheVariants.{Integer, Text}
use Rattle.sqlite_schema.specs.declared.schema.Column.{Column}

-- a column of a strict table, with no default
abbrev pub column_named : List ℕ → Kind → Bool → Column
column_named name kind not_null = record { name = name; kind = kind; is_strict = true; not_null = not_null; default = Null; collation = Binary }

-- CREATE TABLE commits (number INTEGER PRIMARY KEY, kind TEXT NOT NULL, body TEXT NOT NULL) STRICT
abbrev pub commits_table : Table
commits_table = record {
  name = codes "commits";
  tree = 0;
  columns = column_named (codes "number") Integer false ∷ column_named (codes "kind") Text true ∷ column_named (codes "body") Text true ∷ [];
  key = Some 0;
  primary = 0 ∷ [];
  uniques = [];
  orders = [];
  checks = [];
  references = [];
  computed = [];
  stamps = record { places = []; terms = []; formats = [] };
  is_counted = false;
}

-- that table and nothing else
abbrev pub log_schema : Schema
log_schema = record { tables = commits_table ∷ []; indexes = []; views = [] }

-- the schema of an empty database
abbrev pub no_schema : Schema
no_schema = record { tables = []; indexes = []; views = [] }
