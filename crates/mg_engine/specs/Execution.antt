-- The execution of one command, and of a list of commands. `ends w` says that w is the world at the end.
use Rattle.std.specs.Prelude.{◌≡◌, List, [], ◌∷◌, Option, Some, None, length}
use Rattle.mg_engine.specs.World.{World}
use Rattle.mg_engine.specs.Commands.{Asked, Answer, reply_of, next, replies_of, world_after}

-- in the world w the command gets the answer `reply_of` and leaves the world `next`; if memory was refused (`None`), the world is still w
abbrev pub Answers : World → Asked → Option Answer → (World → Type 0) → Type 0
Answers w c None ends = ends w
Answers w c (Some a) ends = (a ≡ reply_of w c) × ends (next w c)

-- the commands without those that were refused memory; commands past the last reply are kept
abbrev pub answered_commands : List Asked → List (Option Answer) → List Asked
answered_commands [] rs = []
answered_commands (c ∷ cs) [] = c ∷ cs
answered_commands (c ∷ cs) (None ∷ rs) = answered_commands cs rs
answered_commands (c ∷ cs) (Some a ∷ rs) = c ∷ answered_commands cs rs

-- the answers, without the replies that were refused memory
abbrev pub answers_of : List (Option Answer) → List Answer
answers_of [] = []
answers_of (None ∷ rs) = answers_of rs
answers_of (Some a ∷ rs) = a ∷ answers_of rs

-- from w the commands get these replies. A command that was refused memory counts as not given; the others get
-- the answers `replies_of`
pub record IsExecution (w : World) (cs : List Asked) (rs : List (Option Answer)) (ends : World → Type 0) : Type 0 where
  pub one_each : length rs ≡ length cs
  pub replies : answers_of rs ≡ replies_of w (answered_commands cs rs)
  pub world : ends (world_after w (answered_commands cs rs))
