-- The bodies of replies: the compact text of a value and a line feed.
use Rattle.std.specs.Prelude.{ℕ, suc, pos, List, [], ◌∷◌, ◌++◌, codes, length, map, true}
use Rattle.mg_value.specs.Value.{Value, flag, whole, text, list, object, member, no_members}
use Rattle.mg_value.specs.View.{items_of}
use Rattle.mg_value.specs.Text.{compact}
use Rattle.mg_index.specs.Definition.{IndexDefinition, listed_of, listed_all_docs}

-- the compact text of a value and a line feed
abbrev pub line_of : Value → List ℕ
line_of v = compact v ++ 10 ∷ []

-- `{"id":..,"name":..,"result":..}`: the index, and a word that says whether it was created or existed already
abbrev pub index_value : IndexDefinition → List ℕ → Value
index_value d word = object (member (codes "id") (text d.ddoc) (member (codes "name") (text d.name) (member (codes "result") (text word) no_members)))

-- `{"indexes":[..],"total_rows":..}`: all indexes, the index of all documents first, and their number
abbrev pub indexes_value : List IndexDefinition → Value
indexes_value ds =
    object (member (codes "indexes") (list (items_of (listed_all_docs ∷ map listed_of ds))) (member (codes "total_rows") (whole (pos (suc (length ds)))) no_members))

-- `{"ok":true}`
abbrev pub done_value : Value
done_value = object (member (codes "ok") (flag true) no_members)
