-- What the calls of a seat do. Contracts see the seat's number, the commits that it has seen, and how many commits it has made.
use Rattle.std.specs.Prelude.{◌≡◌, ◌+◌, ℕ, zero, suc, List, [], ◌∷◌, ◌++◌, All, Any, ◌<◌, length, Option, Some, None, MatchBool, if◌then◌else◌, refl}
use Rattle.std.specs.Coded.{Coded, code_by, coded×, coded_ℕ}
use Rattle.std.specs.List.{sum_by}
use Rattle.mg_engine.specs.Commands.{Asked, Answer, is_write, reply_of}
use Rattle.mg_engine.specs.Questions.{Question, answer_to}
use Rattle.mg_engine.specs.Settled.{is_accepted}
use Rattle.mg_live.specs.Code.{commits_code}
use Rattle.mg_machine.specs.Laws.{IsPrefix}
use Rattle.mg_machine.specs.Machine.{Commit, after_write, longer_of, world_of, write_reply}

-- a seat: its number, the commits that it has seen, oldest first, and how many commits it has made
pub record SeatView : Type 0 where
  pub number : ℕ
  pub seen : List Commit
  pub tally : ℕ

-- how the logic stores a seat
abbrev pub seat_view_code : Coded SeatView
seat_view_code = code_by (ℕ × (List Commit × ℕ)) (coded× coded_ℕ (coded× commits_code coded_ℕ)) (λ s. (s.number, (s.seen, s.tally))) (λ p. record { number = p.0; seen = p.1.0; tally = p.1.1 }) (λ _. refl)

-- a seat that has seen nothing and made no commit
abbrev pub at_first : ℕ → SeatView
at_first n = record { number = n; seen = []; tally = 0 }

-- this many new seats, which are numbered from 0
abbrev pub new_seats : ℕ → List SeatView
new_seats zero = []
new_seats (suc n) = new_seats n ++ at_first n ∷ []

-- a seat later: its number and its tally are unchanged, and it has seen what it had seen, or more
pub record IsLater (old new : SeatView) : Type 0 where
  pub number : new.number ≡ old.number
  pub seen : IsPrefix old.seen new.seen
  pub tally : new.tally ≡ old.tally

-- ---- reading

-- the seat may have caught up, and the reply is the one that the definitions give after the commits that the seat has then seen. `None`:
-- the reply is `NoMemory`; the seat may still have caught up
abbrev pub SeatReads : List ℕ → SeatView → Asked → Option Answer → SeatView → Type 0
SeatReads name old c None new = IsLater old new
SeatReads name old c (Some a) new = IsLater old new × (a ≡ reply_of (world_of name new.seen) c)

-- the seat may have caught up, and the reply is the one that the definitions give to the question after the commits that the seat has then
-- seen. `None`: the reply is `NoMemory`; the seat may still have caught up
abbrev pub SeatLooks : List ℕ → SeatView → Question → Option Answer → SeatView → Type 0
SeatLooks name old q None new = IsLater old new
SeatLooks name old q (Some a) new = IsLater old new × (a ≡ answer_to (world_of name new.seen) (length new.seen) q)

-- ---- writing

-- the tally after an answer: one more if the answer accepts its command
abbrev pub tally_after : ℕ → Answer → ℕ
tally_after tally a = if is_accepted a then tally + 1 else tally

-- the write is answered after a list of commits, of which the seat had seen a prefix. The seat has then seen this list and, if the write
-- was accepted, the write as its last commit, which the seat's tally counts
pub record HasWritten (name : List ℕ) (old : SeatView) (c : Asked) (a : Answer) (new : SeatView) : Type 0 where
  pub commits : List Commit
  pub later : IsPrefix old.seen commits
  pub answer : a ≡ write_reply name commits c
  pub seen : new.seen ≡ after_write name commits old.number c
  pub tally : new.tally ≡ tally_after old.tally a
  pub number : new.number ≡ old.number

-- the write is answered; or the reply is `NoMemory`, and the seat is as it was
abbrev pub SeatWrites : List ℕ → SeatView → Asked → Option Answer → SeatView → Type 0
SeatWrites name old c None new = new ≡ old
SeatWrites name old c (Some a) new = HasWritten name old c a new

-- ---- reading or writing

-- a write is answered as by `SeatWrites`, any other command as by `SeatReads`
abbrev pub Answered : List ℕ → SeatView → Asked → Option Answer → SeatView → Type 0
Answered name old c o new = MatchBool (is_write c) (SeatWrites name old c o new) (SeatReads name old c o new)

-- ---- learning

-- the seat has learned a list of commits: it has then seen the longer of this list and its own, and both are prefixes of what it has seen
pub record Learned (old : SeatView) (heard : List Commit) (new : SeatView) : Type 0 where
  pub longer : new.seen ≡ longer_of old.seen heard
  pub own : IsPrefix old.seen new.seen
  pub other : IsPrefix heard new.seen
  pub number : new.number ≡ old.number
  pub tally : new.tally ≡ old.tally

-- ---- closing

-- how many commits these seats have made
abbrev pub all_tallies : List SeatView → ℕ
all_tallies seats = sum_by (λ s. s.tally) seats

-- some seat has seen more than `made` commits
abbrev pub HasSeenMore : List SeatView → ℕ → Type 0
HasSeenMore seats made = Any (λ s. made < length s.seen) seats

-- these are all commits of the seats: what each seat has seen is a prefix of them, and their number `n` is the sum of the tallies
pub record AreAll (commits : List Commit) (seats : List SeatView) (n : ℕ) : Type 0 where
  pub begin : All (λ s. IsPrefix s.seen commits) seats
  pub number : n ≡ length commits
  pub sum : n ≡ all_tallies seats
