-- For private clauses: how the pieces of a container are added one after another.
use Rattle.std.specs.Prelude.{◌≡◌, ℕ, zero, suc, ◌+◌, ◌-◌, ◌≤◌, ◌<◌, ◌^◌, List, [], ◌∷◌, ◌++◌, length, take, drop, Bool, false, if◌then◌else◌}
use Rattle.mg_packed.specs.declared.mark.Mark.{Mark}
use Rattle.mg_packed.specs.Tables.{Piece, run, deeper, marks}
use Rattle.mg_packed.specs.Read.{at_of, deep_of, HasMark}

-- the mark at these places; at the container's first byte if no piece comes before
abbrev pub here : Bool → ℕ → ℕ → Mark
here later at deep = record { at = if later then at else 0; deep = deep }

-- after the texts b0 and the tables t0, a container with this bracket has been begun in the text b and the tables t, and has these pieces so
-- far: its text begins at `begin`, its tables at `base`, and its pieces at the marks ms
pub record IsOpen (b0 t0 : List ℕ) (bracket : ℕ) (ps : List Piece) (b t : List ℕ) (begin base : ℕ) (ms : List Mark) : Type 0 where
  pub text : b ≡ b0 ++ bracket ∷ run false ps
  pub tables : t ≡ t0 ++ deeper ps
  pub marks : ms ≡ marks 0 0 ps
  pub begun : begin ≡ length b0
  pub based : base ≡ length t0

-- some container has been begun
abbrev pub IsSomeOpen : List ℕ → List ℕ → ℕ → ℕ → List Mark → Type 0
IsSomeOpen b t begin base ms = (b0 : List ℕ) × (t0 : List ℕ) × (bracket : ℕ) × (ps : List Piece) × IsOpen b0 t0 bracket ps b t begin base ms

-- the i-th mark of the tables t
abbrev pub mark_in : List ℕ → ℕ → Mark
mark_in t i = record { at = at_of t i; deep = deep_of t i }

-- n marks of the tables t, from the i-th on, moved as the mark `from` is to the mark `to`
abbrev pub moved : List ℕ → Mark → Mark → ℕ → ℕ → List Mark
moved t from to i zero = []
moved t from to i (suc n) = record { at = at_of t i - from.at + to.at; deep = deep_of t i - from.deep + to.deep } ∷ moved t from to (suc i) n

-- the text of the pieces from index i up to, but not including, index j, with the byte before each but the first
abbrev pub range_text : List ℕ → List ℕ → ℕ → ℕ → List ℕ
range_text b t i j = take (at_of t j - (at_of t i + 1)) (drop (at_of t i + 1) b)

-- the tables of the pieces from index i up to, but not including, index j
abbrev pub range_tables : List ℕ → ℕ → ℕ → List ℕ
range_tables t i j = take (deep_of t j - deep_of t i) (drop (deep_of t i) t)

-- the marks with indexes from i to j are there, and the places between them
pub record HasMarks (b t : List ℕ) (i j : ℕ) : Type 0 where
  pub ordered : i ≤ j
  pub there : (k : ℕ) → i ≤ k → k ≤ j → HasMark t k
  pub at : (k : ℕ) → i ≤ k → k ≤ j → at_of t i ≤ at_of t k
  pub deep : (k : ℕ) → i ≤ k → k ≤ j → deep_of t i ≤ deep_of t k
  pub short : (k : ℕ) → i ≤ k → k ≤ j → at_of t k ≤ length b
  pub low : (k : ℕ) → i ≤ k → k ≤ j → deep_of t k ≤ length t
  pub some : at_of t i + 1 ≤ at_of t j
  pub small : (length b < 2 ^ 32) × (length t < 2 ^ 32)
