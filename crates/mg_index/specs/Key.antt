-- The key of a document in an index, after the JSON indexes of the CouchDB 3.x API reference: the values of the columns.
use Rattle.std.specs.Prelude.{List, Option}
use Rattle.mg_value.specs.Value.{Value}
use Rattle.mg_path.specs.Part.{part_of}
use Rattle.mg_index.specs.Definition.{Steps}
use Rattle.mg_index.specs.Reading.{each_of}

-- the values of the columns in a document; `None` if the document lacks one of the columns
abbrev pub key_of : List Steps → Value → Option (List Value)
key_of columns v = each_of (λ column. part_of column v) columns
