-- For private clauses: the text of a row, part by part.
use Rattle.std.specs.Prelude.{ℕ, List, [], ◌∷◌, ◌++◌, Bool, true, false}
use Rattle.mg_value.specs.Text.{compact}
use Rattle.mg_value.specs.Value.{Value}

-- `{"doc":`
abbrev pub before_doc : List ℕ
before_doc = 123 ∷ 34 ∷ 100 ∷ 111 ∷ 99 ∷ 34 ∷ 58 ∷ []

-- `,"id":` after a document, and `{"id":` without one
abbrev pub before_id : Bool → List ℕ
before_id true = 44 ∷ 34 ∷ 105 ∷ 100 ∷ 34 ∷ 58 ∷ []
before_id false = 123 ∷ 34 ∷ 105 ∷ 100 ∷ 34 ∷ 58 ∷ []

-- what the row of a document has before its id: the document, if it is asked for
abbrev pub row_front : Bool → Value → List ℕ
row_front true v = (before_doc ++ compact v) ++ before_id true
row_front false v = before_id false
