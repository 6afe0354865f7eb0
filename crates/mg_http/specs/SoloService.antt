-- An engine for one caller, which answers with a number of workers.
use Rattle.std.specs.Prelude.{◌≡◌, ℕ, List, Option, IfNone}
use Rattle.mg_engine.specs.Commands.{Asked, Answer}
use Rattle.mg_http.specs.Solo.{EngineAnswers}
use Rattle.mg_http.specs.declared.sessions.service.Solo.{Solo}

-- the engine gives this answer, which is right at each world that it stands for; or memory ran out, and the engine is unchanged
abbrev pub SoloAnswers : {P : Type 0} → (P → List ℕ → ℕ → ℕ) → Solo P → Asked → Option Answer → Solo P → Type 0
SoloAnswers place old command answer new = EngineAnswers place old.engine command answer new.engine × IfNone answer (new.engine ≡ old.engine)
