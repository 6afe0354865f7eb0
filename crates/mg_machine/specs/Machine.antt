-- The machine of events, which is this project's own: one database and several seats, at each of which a session reads and writes while
-- the others do. There is one commit log, which holds the accepted writes in order, and each seat has seen a prefix of it. A write is
-- answered after all commits, a read after the commits that its seat has seen.
use Rattle.std.specs.Prelude.{ℕ, ◌==◌, List, [], ◌∷◌, ◌++◌, Bool, Option, Some, None, if◌then◌else◌, length, map, nat_lt, replicate, slice_get, slice_set, unwrap_or}
use Rattle.mg_engine.specs.declared.refusal.Refusal.TheVariants.{TooLarge}
use Rattle.mg_engine.specs.World.{World, empty_world}
use Rattle.mg_engine.specs.Commands.{Asked, Answer, is_write, refused, reply_of, shards_after_all, world_after}
use Rattle.mg_engine.specs.Settled.{is_accepted}

-- a commit: the number of the seat that made it, and the write command
abbrev pub Commit : Type 0
Commit = ℕ × Asked

-- an event at a seat, whose number comes first: it publishes a command, catches up with all commits, answers a command, or learns what
-- another seat has seen, whose number is the second one of `told`
pub data Event : Type 0 where
  publish : ℕ → Asked → Event
  enter : ℕ → Event
  answer : ℕ → Asked → Event
  told : ℕ → ℕ → Event

-- the commits, oldest first, and what each seat has seen of them
pub record Machine : Type 0 where
  pub commits : List Commit
  pub seen : List (List Commit)

-- the machine at its start, with this number of seats: no commit, and nothing seen
abbrev pub opened : ℕ → Machine
opened seats = record { commits = []; seen = replicate seats [] }

-- what a seat has seen; nothing if there is no such seat
abbrev pub seen_by : Machine → ℕ → List Commit
seen_by m seat = unwrap_or (slice_get m.seen seat) []

-- the machine in which a seat has now seen these commits
abbrev pub with_seen : Machine → ℕ → List Commit → Machine
with_seen m seat cs = record m { seen = slice_set m.seen seat cs }

-- the commands of commits
abbrev pub commands_of : List Commit → List Asked
commands_of cs = map (λ c. c.1) cs

-- the world that these commits leave in a database of this name
abbrev pub world_of : List ℕ → List Commit → World
world_of name cs = world_after (empty_world name) (commands_of cs)

-- how many shards there are after commits: as many as the last reshard asked for, or `first`, as the database was opened with, if there was
-- no reshard
abbrev pub shards_of : ℕ → List Commit → ℕ
shards_of first cs = shards_after_all first (commands_of cs)

-- ---- writing

-- whether there are as many commits as a log can hold
abbrev pub are_full : List Commit → Bool
are_full cs = length cs == 18446744073709551615

-- the reply to a write after these commits. If there can be no more commits, the write is refused as `TooLarge`, before any other refusal
abbrev pub write_reply : List ℕ → List Commit → Asked → Answer
write_reply name cs c = if are_full cs then refused TooLarge else reply_of (world_of name cs) c

-- the commits after a write of a seat: one more if the write is accepted, otherwise no more
abbrev pub after_write : List ℕ → List Commit → ℕ → Asked → List Commit
after_write name cs seat c = if is_accepted (write_reply name cs c) then cs ++ (seat, c) ∷ [] else cs

-- the machine in which these are all commits, and a seat has seen all of them
abbrev pub with_commits : Machine → ℕ → List Commit → Machine
with_commits m seat cs = with_seen (record m { commits = cs }) seat cs

-- the machine after a write of a seat, which has then seen all commits, and the reply
abbrev pub written : List ℕ → Machine → ℕ → Asked → Machine × Option Answer
written name m seat c = (with_commits m seat (after_write name m.commits seat c), Some (write_reply name m.commits c))

-- ---- catching up, reading and learning

-- the machine after a seat has caught up: the seat has then seen all commits
abbrev pub entered : Machine → ℕ → Machine
entered m seat = with_seen m seat m.commits

-- the machine, which a read of a seat does not change, and the reply after the commits that the seat has seen
abbrev pub read : List ℕ → Machine → ℕ → Asked → Machine × Option Answer
read name m seat c = (m, Some (reply_of (world_of name (seen_by m seat)) c))

-- the longer of two lists; the first if both are equally long
abbrev pub longer_of : List Commit → List Commit → List Commit
longer_of cs ds = if nat_lt (length cs) (length ds) then ds else cs

-- ---- all events

-- the machine after an event, and its reply, if it has one. The command decides what is done: to publish a read is to catch up and then
-- to read, and to answer a write is to publish it
abbrev pub happens : List ℕ → Machine → Event → Machine × Option Answer
happens name m (publish seat c) = if is_write c then written name m seat c else read name (entered m seat) seat c
happens name m (enter seat) = (entered m seat, None)
happens name m (answer seat c) = if is_write c then written name m seat c else read name m seat c
happens name m (told seat by) = (with_seen m seat (longer_of (seen_by m seat) (seen_by m by)), None)

-- the replies to events, in order
abbrev pub replies_of_events : List ℕ → Machine → List Event → List (Option Answer)
replies_of_events name m [] = []
replies_of_events name m (e ∷ es) = (happens name m e).1 ∷ replies_of_events name (happens name m e).0 es

-- the machine after all events
abbrev pub machine_after : List ℕ → Machine → List Event → Machine
machine_after name m [] = m
machine_after name m (e ∷ es) = machine_after name (happens name m e).0 es
