-- The face: the answer to a request in a world, and the commands that it executes.
use Rattle.std.specs.Prelude.{◌≡◌, ◌⊎◌, ℕ, ◌<◌, ◌^◌, ◌==◌, Bool, false, List, [], ◌∷◌, Option, Some, None, MatchBool, if◌then◌else◌}
use Rattle.http1.specs.Fields.{Header}
use Rattle.mg_engine.specs.Commands as engine
use Rattle.mg_engine.specs.Commands.{Asked, get, reply_of}
use Rattle.mg_engine.specs.Questions as questions
use Rattle.mg_engine.specs.Questions.{Question}
use Rattle.mg_engine.specs.World.{World}
use Rattle.mg_wire.specs.declared.request.Request.{Request}
use Rattle.mg_wire.specs.declared.response.Response.{Response}
use Rattle.mg_wire.specs.Request.{fields_in}
use Rattle.mg_face.specs.Plan.{Plan, says, asks, finds, looks, plan_of}
use Rattle.mg_face.specs.Answer.{Answer, answer_of_said, passed, IsAnswered, IsLack}
use Rattle.mg_face.specs.Shown.{shown}
use Rattle.mg_face.specs.Way as Shown
use Rattle.mg_face.specs.Way.{Way}

-- the answer to the `get` of a document says that it is found
abbrev pub is_found : engine.Answer → Bool
is_found a = a.status == 200

-- what a plan of a request with these fields answers in the world w of the database `db`, which this many commits left
abbrev pub answer_to : List ℕ → List Header → World → ℕ → Plan → Answer
answer_to db fields w commits (says said) = answer_of_said db said
answer_to db fields w commits (asks command way) = shown db fields way (reply_of w command)
answer_to db fields w commits (finds id command way) =
    if is_found (reply_of w (get id false)) then shown db fields way (reply_of w command) else passed (reply_of w (get id false))
answer_to db fields w commits (looks question way) = shown db fields way (questions.answer_to w commits question)

-- the commands that a plan executes in the world w
abbrev pub commands_in : World → Plan → List Asked
commands_in w (says said) = []
commands_in w (asks command way) = command ∷ []
commands_in w (finds id command way) = if is_found (reply_of w (get id false)) then get id false ∷ command ∷ [] else get id false ∷ []
commands_in w (looks question way) = []

-- the answer to a request in the world w of the database `db`, which this many commits left, where `drawn` is the number that was drawn for it
abbrev pub answer_of : List ℕ → ℕ → Request → World → ℕ → Answer
answer_of db drawn r w commits = answer_to db (fields_in r) w commits (plan_of db drawn r)

-- the commands that a request executes: at most one writes
abbrev pub commands_of : List ℕ → ℕ → Request → World → List Asked
commands_of db drawn r w = commands_in w (plan_of db drawn r)

-- ---- a service that asks a store: `answers old command answer new`: in the state `old`, the store may answer the command with the answer
-- (`None`: out of memory), and is then in the state `new`; `sees old question answer new`: the same of a question

-- memory may run out for the fields of an answer that the store gave; not where the answer is shown as it is
abbrev pub MayLack : Way → Type 0
MayLack Shown.plain = ⊥
MayLack way = Unit {0}

-- the response shows an answer of the store
abbrev pub Shows : List ℕ → List Header → Way → Option engine.Answer → Response → Type 0
Shows db fields way None r = IsLack r
Shows db fields way (Some a) r = IsAnswered (shown db fields way a) r ⊎ (MayLack way × IsLack r)

-- the store gave an answer, as `gives answer new` says, which the response shows
pub record IsShown {S : Type 0} (db : List ℕ) (fields : List Header) (gives : Option engine.Answer → S → Type 0) (way : Way) (r : Response) (new : S) : Type 0 where
  pub answer : Option engine.Answer
  pub answered : gives answer new
  pub shows : Shows db fields way answer r

module _ {S : Type 0} (answers : S → Asked → Option engine.Answer → S → Type 0) (db : List ℕ) (fields : List Header) where
  -- after the answer to the `get` of a document: the command is executed if it is found, else this answer is shown
  abbrev pub GoesOn : Option engine.Answer → Asked → Way → S → Response → S → Type 0
  GoesOn None command way mid r new = IsLack r × (new ≡ mid)
  GoesOn (Some a) command way mid r new =
      MatchBool (is_found a) (IsShown db fields (answers mid command) way r new) (IsAnswered (passed a) r × (new ≡ mid))

  -- the store was asked for a document first
  pub record IsFound (id : List ℕ) (command : Asked) (way : Way) (old : S) (r : Response) (new : S) : Type 0 where
    pub mid : S
    pub answer : Option engine.Answer
    pub read : answers old (get id false) answer mid
    pub goes_on : GoesOn answer command way mid r new

-- what is said at once is the response, or memory ran out for it, or the store is lost; the store was not asked. Or the store was asked, and the
-- response shows its answer; or memory ran out before that
abbrev pub Carries : {S : Type 0} → (S → Asked → Option engine.Answer → S → Type 0) → (S → Question → Option engine.Answer → S → Type 0)
    → List ℕ → List Header → Plan → S → Response → S → Type 0
Carries answers sees db fields (says said) old r new = (IsAnswered (answer_of_said db said) r ⊎ IsLack r) × (new ≡ old)
Carries answers sees db fields (asks command way) old r new = IsShown db fields (answers old command) way r new ⊎ (IsLack r × (new ≡ old))
Carries answers sees db fields (finds id command way) old r new = IsFound answers db fields id command way old r new ⊎ (IsLack r × (new ≡ old))
Carries answers sees db fields (looks question way) old r new = IsShown db fields (sees old question) way r new ⊎ (IsLack r × (new ≡ old))

-- the service answers the request with the response: it carries out the plan of the request, for a number that was drawn for it
pub record Serves
    {S : Type 0} (answers : S → Asked → Option engine.Answer → S → Type 0) (sees : S → Question → Option engine.Answer → S → Type 0)
    (db : List ℕ) (old : S) (request : Request) (r : Response) (new : S) : Type 0 where
  pub drawn : ℕ
  pub small : drawn < 2 ^ 128
  pub carries : Carries answers sees db (fields_in request) (plan_of db drawn request) old r new
