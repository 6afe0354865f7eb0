-- An engine that answers one command after another.
use Rattle.std.specs.Prelude.{ℕ, List, Option}
use Rattle.mg_engine.specs.Commands.{Asked, Answer}
use Rattle.mg_engine.specs.Execution.{Answers}
use Rattle.mg_engine.specs.Stands.{StateView, Stands}
use Rattle.mg_engine.specs.World.{World}

-- At each world that the old engine stands for, this is the right answer to the command, and the new engine stands for the world after it;
-- or memory ran out (`None`), and the new engine stands for the same world.
abbrev pub EngineAnswers
    : {P : Type 0} → (P → List ℕ → ℕ → ℕ) → P × StateView → Asked → Option Answer → P × StateView → Type 0
EngineAnswers place old command answer new = (w : World) → Stands place old w → Answers w command answer (Stands place new)
