-- The placement of the tests: the documents of the worked examples are `d1`, `d2` .., each on the shard of its number.
use Rattle.std.specs.Prelude.{ℕ, ◌-◌, ◌%◌, List, [], ◌∷◌}

-- the value of the second byte of an id as a digit; 0 if there is no such byte
abbrev pub number_of : List ℕ → ℕ
number_of [] = 0
number_of (_ ∷ []) = 0
number_of (_ ∷ digit ∷ _) = digit - 48

-- the shard of a document: its number modulo the number of shards
abbrev pub number_place : List ℕ → ℕ → ℕ
number_place id shards = number_of id % shards
