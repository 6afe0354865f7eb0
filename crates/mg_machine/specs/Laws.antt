-- What holds of sessions side by side, for every number of seats and every list of events at these seats.
use Rattle.std.specs.Prelude.{◌≡◌, ◌≢◌, ◌<◌, ℕ, List, [], ◌∷◌, ◌++◌, true, false, Option, Some, None, if◌then◌else◌, map, option_and_then}
use Rattle.std.specs.List.{cons_option}
use Rattle.mg_engine.specs.World.{empty_world}
use Rattle.mg_engine.specs.Commands.{Asked, Answer, is_write, reply_of, replies_of}
use Rattle.mg_machine.specs.Machine.{Commit, Event, publish, enter, answer, told, Machine, opened, seen_by, commands_of, world_of, happens, machine_after}
use Rattle.mg_engine.specs.Settled.{is_accepted}

-- each seat that an event names is one of this many seats, which are numbered from 0
abbrev pub IsAt : ℕ → Event → Type 0
IsAt seats (publish seat c) = seat < seats
IsAt seats (enter seat) = seat < seats
IsAt seats (answer seat c) = seat < seats
IsAt seats (told seat by) = (seat < seats) × (by < seats)

-- each seat that the events name is one of this many seats
abbrev pub AreAt : ℕ → List Event → Type 0
AreAt seats [] = Unit {0}
AreAt seats (e ∷ es) = IsAt seats e × AreAt seats es

-- the machine after events, from its start with this number of seats
abbrev pub after : List ℕ → ℕ → List Event → Machine
after name seats es = machine_after name (opened seats) es

-- the first list is a prefix of the second
abbrev pub IsPrefix : List Commit → List Commit → Type 0
IsPrefix cs ds = (rest : List Commit) × (ds ≡ cs ++ rest)

-- ---- what a command decides

-- the command decides what is done: a write is published, also by `answer`; and to publish a read is to catch up and then to read
pub record TheCommandDecides : Type 0 where
  pub writes : (name : List ℕ) (m : Machine) (seat : ℕ) (c : Asked) → is_write c ≡ true → happens name m (answer seat c) ≡ happens name m (publish seat c)
  pub reads : (name : List ℕ) (m : Machine) (seat : ℕ) (c : Asked) → is_write c ≡ false → happens name m (publish seat c) ≡ happens name (happens name m (enter seat)).0 (answer seat c)

-- ---- what seats have seen

-- each seat has seen a prefix of the commit log
abbrev pub SeatsSeePrefixes : Type 0
SeatsSeePrefixes =
    (name : List ℕ) (seats : ℕ) (es : List Event) → AreAt seats es
    → (seat : ℕ) → IsPrefix (seen_by (after name seats es) seat) (after name seats es).commits

-- commits are only added at the end, and what a seat has seen stays seen
pub record IsLaterMachine (m n : Machine) : Type 0 where
  pub commits : IsPrefix m.commits n.commits
  pub seen : (seat : ℕ) → IsPrefix (seen_by m seat) (seen_by n seat)

-- further events remove no commit, and what a seat has seen stays seen
abbrev pub NothingIsLost : Type 0
NothingIsLost = (name : List ℕ) (seats : ℕ) (es more : List Event) → AreAt seats (es ++ more) → IsLaterMachine (after name seats es) (after name seats (es ++ more))

-- a seat that learns from another has seen, from then on, all that the other had seen
abbrev pub WhatIsLearnedIsSeen : Type 0
WhatIsLearnedIsSeen =
    (name : List ℕ) (seats : ℕ) (es more : List Event) (seat by : ℕ) → AreAt seats (es ++ told seat by ∷ more)
    → IsPrefix (seen_by (after name seats es) by) (seen_by (after name seats (es ++ told seat by ∷ more)) seat)

-- ---- the replies to writes

-- the write that an event asks for, with its seat; `None` if the event has no command, or its command is a read
abbrev pub write_of : Event → Option Commit
write_of (publish seat c) = if is_write c then Some (seat, c) else None
write_of (enter seat) = None
write_of (answer seat c) = if is_write c then Some (seat, c) else None
write_of (told seat by) = None

-- a write with its reply, if the reply says that the write is accepted
abbrev pub if_accepted : Commit → Answer → Option (Commit × Answer)
if_accepted c a = if is_accepted a then Some (c, a) else None

-- the accepted write of an event, with its reply; `None` if the event asks for no write, or the write is refused
abbrev pub accepted_of : List ℕ → Machine → Event → Option (Commit × Answer)
accepted_of name m e = option_and_then (λ c. option_and_then (if_accepted c) (happens name m e).1) (write_of e)

-- the accepted writes of all events, with their replies, in order
abbrev pub all_accepted : List ℕ → Machine → List Event → List (Commit × Answer)
all_accepted name m [] = []
all_accepted name m (e ∷ es) = cons_option (accepted_of name m e) (all_accepted name (happens name m e).0 es)

-- the commits are the accepted writes, each once and in order. Their replies are those that a single caller gets for these commands
-- alone, one after another
pub record AreAnswered (name : List ℕ) (cs : List Commit) (accepted : List (Commit × Answer)) : Type 0 where
  pub commits : map (λ p. p.0) accepted ≡ cs
  pub replies : map (λ p. p.1) accepted ≡ replies_of (empty_world name) (commands_of cs)

-- after every list of events, the commits are the accepted writes, with the replies that a single caller gets
abbrev pub CommitsAreAnswered : Type 0
CommitsAreAnswered = (name : List ℕ) (seats : ℕ) (es : List Event) → AreAt seats es → AreAnswered name (after name seats es).commits (all_accepted name (opened seats) es)

-- ---- the replies to reads

-- a read has the reply that a single caller gets for it after the commands of the commits that its seat has seen
abbrev pub ReadsAreOfTheSeen : Type 0
ReadsAreOfTheSeen =
    (name : List ℕ) (seats : ℕ) (es : List Event) (seat : ℕ) (c : Asked) (a : Answer) → AreAt seats es → is_write c ≡ false
    → (happens name (after name seats es) (answer seat c)).1 ≡ Some a
    → replies_of (empty_world name) (commands_of (seen_by (after name seats es) seat) ++ c ∷ [])
    ≡ replies_of (empty_world name) (commands_of (seen_by (after name seats es) seat)) ++ a ∷ []

-- an event is at another seat, and therefore does not change what this seat has seen
abbrev pub IsAtOtherSeat : ℕ → Event → Type 0
IsAtOtherSeat seat (publish other c) = other ≢ seat
IsAtOtherSeat seat (enter other) = other ≢ seat
IsAtOtherSeat seat (answer other c) = other ≢ seat
IsAtOtherSeat seat (told other by) = other ≢ seat

-- all events are at other seats
abbrev pub AreAtOtherSeats : ℕ → List Event → Type 0
AreAtOtherSeats seat [] = Unit {0}
AreAtOtherSeats seat (e ∷ es) = IsAtOtherSeat seat e × AreAtOtherSeats seat es

-- if a seat has caught up, and only other seats had events since, a read at the seat has the reply of the world after all commits that
-- there were when the seat caught up
abbrev pub SnapshotsAreKept : Type 0
SnapshotsAreKept =
    (name : List ℕ) (seats : ℕ) (es others : List Event) (seat : ℕ) (c : Asked) → AreAt seats (es ++ enter seat ∷ others) → AreAtOtherSeats seat others → is_write c ≡ false
    → (happens name (after name seats (es ++ enter seat ∷ others)) (answer seat c)).1 ≡ Some (reply_of (world_of name (after name seats es).commits) c)
