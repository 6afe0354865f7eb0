-- What holds of resharding and of pages, for every world and every list of commands.
use Rattle.std.specs.Prelude.{◌≡◌, ◌≤◌, ℕ, List, [], ◌∷◌, Bool, true, false, codes, map, Ok, if◌then◌else◌}
use Rattle.std.specs.List.{AllByRecursion}
use Rattle.mg_value.specs.Stored.{IsStored}
use Rattle.mg_value.specs.Value.{depth}
use Rattle.mg_index.specs.Choice.{Source}
use Rattle.mg_merge.specs.Merged.{joined}
use Rattle.mg_query.specs.Laws.{Follow, from_first}
use Rattle.mg_query.specs.Page.{Page, candidates_found, candidates_of, served_by, shown_of, source_columns}
use Rattle.mg_query.specs.Query.{Query}
use Rattle.mg_engine.specs.World.{World, empty_world}
use Rattle.mg_engine.specs.Commands.{Asked, Answer, bulk, create_index, reshard, replies_of, world_after}

-- whether a command is a reshard, accepted or refused
abbrev pub is_reshard : Asked → Bool
is_reshard (reshard v) = true
is_reshard c = false

-- the commands without the reshards
abbrev pub without_reshards : List Asked → List Asked
without_reshards [] = []
without_reshards (c ∷ cs) = if is_reshard c then without_reshards cs else c ∷ without_reshards cs

-- the answers to commands, one for each command, without the answers to reshards
abbrev pub other_answers : List Asked → List Answer → List Answer
other_answers (c ∷ cs) (a ∷ answers) = if is_reshard c then other_answers cs answers else a ∷ other_answers cs answers
other_answers cs answers = []

-- reshards change no other reply: every other command has the reply that it has without the reshards
abbrev pub ReshardsChangeNoReply : Type 0
ReshardsChangeNoReply = (w : World) (cs : List Asked) → other_answers cs (replies_of w cs) ≡ replies_of w (without_reshards cs)

-- reshards do not change the world that the other commands leave
abbrev pub ReshardsChangeNoWorld : Type 0
ReshardsChangeNoWorld = (w : World) (cs : List Asked) → world_after w cs ≡ world_after w (without_reshards cs)

-- ---- pages

-- the code can hold the body of a write (its texts are UTF-8, its numbers are i64, the names of its objects ascend), and the body of a bulk
-- nests at most 127 deep: both are true of every value that is read from a JSON text
abbrev pub CanBeCarried : Asked → Type 0
CanBeCarried (bulk v) = IsStored v × (depth v ≤ 127)
CanBeCarried (create_index v) = IsStored v
CanBeCarried c = Unit {0}

-- in this world pages join: if an index serves a query without a bookmark, the query skips nothing and its limit is at least 1, then there
-- are pages that follow one another from the first on. Together they show what the query finds, in order
abbrev pub PagesJoinIn : World → Type 0
PagesJoinIn w =
    (s : Source) (q : Query) → served_by w.indexes (from_first q) ≡ Ok s → q.skip ≡ 0 → 1 ≤ q.limit
    → (pages : List Page) × Follow w.indexes q (candidates_of w.docs) (codes "nil") pages
    × (joined (map (λ page. page.docs) pages) ≡ map (shown_of q) (candidates_found (source_columns s) (from_first q) (candidates_of w.docs)))

-- pages join in every world that such commands leave
abbrev pub PagesJoin : Type 0
PagesJoin = (name : List ℕ) (cs : List Asked) → AllByRecursion CanBeCarried cs → PagesJoinIn (world_after (empty_world name) cs)
