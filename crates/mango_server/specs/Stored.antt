-- The answers of the program: those of a seat, and the refusal of a write that may or may not be stored.
use Rattle.std.specs.Prelude.{◌≡◌, List, ℕ, Option, Some, None, codes}
use Rattle.mg_engine.specs.Commands.{Asked, Answer}
use Rattle.mg_live.specs.SeatView.{Answered, SeatView}

-- what a client gets whose write may or may not be stored
abbrev pub storage_refusal : Answer
storage_refusal = record { status = 503; body = codes "{\"error\":\"storage\",\"reason\":\"The write may or may not be stored.\"}\n" }

-- a complete answer is passed on; in the place of `None`, that memory ran out, the client may get the refusal
abbrev pub IsPassedOn : Option Answer → Option Answer → Type 0
IsPassedOn (Some a) given = given ≡ Some a
IsPassedOn None None = Unit {0}
IsPassedOn None (Some given) = given ≡ storage_refusal

-- the seat answers the command, and its answer is passed on
abbrev pub StoredAnswer : List ℕ → SeatView → Asked → Option Answer → SeatView → Type 0
StoredAnswer name old c given new = (a : Option Answer) × IsPassedOn a given × Answered name old c a new
