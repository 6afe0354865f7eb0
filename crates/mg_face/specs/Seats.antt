-- What a face over a seat answers: the answer of the definition, at the world after a list of commits that begins with what the seat had seen.
use Rattle.std.specs.Prelude.{◌≡◌, ℕ, ◌<◌, ◌^◌, List, false, length, MatchBool, if◌then◌else◌}
use Rattle.http1.specs.Fields.{Header}
use Rattle.mg_engine.specs.Commands.{Asked, get, is_write, reply_of}
use Rattle.mg_engine.specs.Questions.{Question, answer_to}
use Rattle.mg_live.specs.SeatView.{SeatView, IsLater}
use Rattle.mg_machine.specs.Laws.{IsPrefix}
use Rattle.mg_machine.specs.Machine.{Commit, world_of, after_write, are_full}
use Rattle.mg_wire.specs.declared.request.Request.{Request}
use Rattle.mg_wire.specs.declared.response.Response.{Response}
use Rattle.mg_wire.specs.Request.{fields_in}
use Rattle.mg_face.specs.Answer.{IsAnswered, answer_of_said, passed}
use Rattle.mg_face.specs.Face.{is_found}
use Rattle.mg_face.specs.Plan.{Plan, says, asks, finds, looks, plan_of}
use Rattle.mg_face.specs.Shown.{shown}
use Rattle.mg_face.specs.Way.{Way}

-- the commits after a command that the seat of this number executed after these commits
abbrev pub commits_after : List ℕ → List Commit → ℕ → Asked → List Commit
commits_after db commits seat command = if is_write command then after_write db commits seat command else commits

-- The response shows the answer to the command at the world that some commits leave. They begin with those that the seat had seen, and it has
-- then seen them, and the commit of the command, if that made one. A log that can hold no more commits refuses each write.
pub record IsExecuted (db : List ℕ) (fields : List Header) (old : SeatView) (command : Asked) (way : Way) (response : Response) (new : SeatView) : Type 0 where
  pub commits : List Commit
  pub later : IsPrefix old.seen commits
  pub answer : are_full commits ≡ false → IsAnswered (shown db fields way (reply_of (world_of db commits) command)) response
  pub seen : new.seen ≡ commits_after db commits old.number command

-- The document is looked for at the world that some commits leave. If it is found, the command is executed, after these commits or more; else
-- the response says why not.
pub record IsLookedFor
    (db : List ℕ) (fields : List Header) (old : SeatView) (id : List ℕ) (command : Asked) (way : Way) (response : Response) (new : SeatView) : Type 0 where
  pub mid : SeatView
  pub later : IsLater old mid
  pub goes_on : MatchBool (is_found (reply_of (world_of db mid.seen) (get id false)))
      (IsExecuted db fields mid command way response new)
      (IsAnswered (passed (reply_of (world_of db mid.seen) (get id false))) response × (new ≡ mid))

-- The response shows the answer to the question at the world that the commits leave which the seat has then seen: those that it had seen, or
-- more.
pub record IsLookedAt (db : List ℕ) (fields : List Header) (old : SeatView) (question : Question) (way : Way) (response : Response) (new : SeatView) : Type 0 where
  pub later : IsLater old new
  pub answer : IsAnswered (shown db fields way (answer_to (world_of db new.seen) (length new.seen) question)) response

-- a plan is carried out: what is said at once is said, and the seat is as it was; a command is executed; a question is looked at
abbrev pub IsCarriedOut : List ℕ → List Header → SeatView → Plan → Response → SeatView → Type 0
IsCarriedOut db fields old (says said) response new = IsAnswered (answer_of_said db said) response × (new ≡ old)
IsCarriedOut db fields old (asks command way) response new = IsExecuted db fields old command way response new
IsCarriedOut db fields old (finds id command way) response new = IsLookedFor db fields old id command way response new
IsCarriedOut db fields old (looks question way) response new = IsLookedAt db fields old question way response new

-- the response is the answer to the request at such a world, for a number that was drawn for it
pub record IsAnsweredAfter (db : List ℕ) (old : SeatView) (request : Request) (response : Response) (new : SeatView) : Type 0 where
  pub drawn : ℕ
  pub small : drawn < 2 ^ 128
  pub carried : IsCarriedOut db (fields_in request) old (plan_of db drawn request) response new
