-- What is true of a connection.
use Rattle.std.specs.Prelude.{◌≡◌, ◌≢◌, ◌⊎◌, All, IsTrue, IsFalse, false, ℕ, ◌+◌, ◌-◌, ◌*◌, ◌^◌, ◌<◌, ◌≤◌, min, List, [], ◌∷◌, ◌++◌, length, take, drop, flat_map, Option, Some, None}
use Rattle.httparse.specs.Grammar.{RequestHead}
use Rattle.http1.specs.declared.conn.Limits.{Limits}
use Rattle.http1.specs.declared.framing.Framing.{Framing}
use Rattle.http1.specs.Message as Wire
use Rattle.http1.specs.Message.{AcceptsRequest, ReadsRequestMessage}
use Rattle.httpdate.specs.declared.date.HttpDate.{HttpDate as Date}
use Rattle.mg_wire.specs.declared.body.Begun.{Begun}
use Rattle.mg_wire.specs.declared.connection.Connection.{Connection}
use Rattle.mg_wire.specs.declared.connection.Ending.{Ending}
use Rattle.mg_wire.specs.declared.connection.Ending.TheVariants.{Closed, InputEnded, Refused, NoMemory}
use Rattle.mg_wire.specs.declared.refusal.Refusal.{Refusal}
use Rattle.mg_wire.specs.declared.request.Request.{Request}
use Rattle.mg_wire.specs.declared.response.Response.{Response}
use Rattle.mg_wire.specs.Body.{Serves, IsBegun, HasNoMessage, AwaitsHead}
use Rattle.mg_wire.specs.Refusal.{Refuses, begins_with_head, refusal_text}
use Rattle.mg_wire.specs.Request.{IsAsked, asks_to_continue}
use Rattle.mg_wire.specs.Transcript.{Call, interim_for, IsTranscript, KeepsOpen, IsClosedBy, Chain, AnswersMet}

-- all bytes that were received
abbrev pub received : Connection → List ℕ
received c = flat_map (λ r. drop r.1 r.0.items) c.reads.items

-- all bytes that were sent
abbrev pub sent : Connection → List ℕ
sent c = flat_map (λ w. take w.1 w.0.items) c.writes.items

-- the bytes that wait to be sent
abbrev pub pending : Connection → List ℕ
pending c = c.output.items ++ c.tail.items

-- what was sent, and what waits to be
abbrev pub said : Connection → List ℕ
said c = sent c ++ pending c

-- the stream begins with a head that the server takes, and the text is what is sent before its response
pub record IsInterimOf (limits : Limits) (stream text : List ℕ) : Type 0 where
  pub head : RequestHead
  pub framing : Framing
  pub after : List ℕ
  pub accepts : AcceptsRequest limits stream head framing after
  pub is : text ≡ interim_for (asks_to_continue head)

-- the connection said the text, then at most the `100 Continue` for which the next request asks, then more
abbrev pub Follows : Connection → List ℕ → List ℕ → List ℕ → Type 0
Follows c rest text more =
    (interim : List ℕ) × ((interim ≡ []) ⊎ IsInterimOf c.bounds.limits rest interim) × (said c ≡ text ++ (interim ++ more))

-- after the responses, the next request has begun or not
abbrev pub StandsAt : Option Begun → Connection → List ℕ → Type 0
StandsAt None c text = said c ≡ text
StandsAt (Some b) c text = IsBegun c.bounds c.input.items b × (said c ≡ text ++ interim_for b.expects_continue)

-- The connection said the responses of the calls that were answered, and why it ends. `NoMemory`: the next request is refused, for want of
-- memory or for another reason, and there was no memory to say so.
abbrev pub EndsFor : Ending → Connection → List Call → List ℕ → List ℕ → Type 0
EndsFor Closed c answered text rest = (c.calls.items ≡ answered) × (said c ≡ text) × IsClosedBy answered
EndsFor InputEnded c answered text rest = (c.calls.items ≡ answered) × (said c ≡ text) × (rest ≡ []) × IsTrue c.has_ended
EndsFor (Refused r) c answered text rest =
    (c.calls.items ≡ answered) × ((date : Option Date) × Follows c rest text (refusal_text date (begins_with_head rest) r))
    × Refuses c.bounds c.has_ended c.is_starved rest r
EndsFor NoMemory c answered text rest =
    (c.calls.items ≡ answered) × Follows c rest text [] × ((r : Refusal) × Refuses c.bounds c.has_ended c.is_starved rest r)

-- the connection goes on after calls that keep it open, and the input is what is not answered; or it ends
abbrev pub Stands : Option Ending → Connection → List Call → List ℕ → List ℕ → Type 0
Stands None c answered text rest =
    (c.calls.items ≡ answered) × (rest ≡ c.input.items) × StandsAt c.begun c text × All KeepsOpen answered
Stands (Some ending) c answered text rest = EndsFor ending c answered text rest

-- What was received begins with the requests of the calls that were answered, and what was said is their responses, and then what the ending says.
pub record Holds (c : Connection) : Type 0 where
  pub answered : List Call
  pub text : List ℕ
  pub rest : List ℕ
  pub transcript : IsTranscript c.bounds (received c) answered text rest
  pub stands : Stands c.end c answered text rest

-- what was said on the connection is right for what was received, from the first state of the service to the second one; `meets`: which
-- states a client may meet between two responses
pub record Told {S : Type 0} (meets : S → S → Type 0) (answers : S → Request → Response → S → Type 0) (from : S) (c : Connection) (now : S) : Type 0 where
  pub last : S
  pub chain : Chain (AnswersMet answers meets) from c.calls.items last
  pub meeting : meets last now
  pub holds : Holds c

-- nothing was received or sent
pub record IsSilent (old new : Connection) : Type 0 where
  pub bounds : new.bounds ≡ old.bounds
  pub reads : new.reads ≡ old.reads
  pub writes : new.writes ≡ old.writes

-- and no body was added
pub record IsQuiet (old new : Connection) : Type 0 where
  pub silent : IsSilent old new
  pub tail : new.tail ≡ old.tail

-- The service was asked the next request and gave this response, which is sent next.
pub record IsDue (c : Connection) (b : Begun) (r : Response) : Type 0 where
  pub answered : List Call
  pub text : List ℕ
  pub rest : List ℕ
  pub transcript : IsTranscript c.bounds (received c) answered text rest
  pub out : said c ≡ text ++ interim_for b.expects_continue
  pub message : Wire.Request
  pub reads : (more : List ℕ) → ReadsRequestMessage c.bounds.limits (rest ++ more) message (c.input.items ++ more)
  pub asked : IsAsked message b.request
  pub serves : Serves message.head b
  pub continued : b.server.request.expects_continue ≡ false
  pub fits : length b.request.body.items ≤ c.bounds.max_body
  pub kept : All KeepsOpen answered
  pub calls : c.calls.items ≡ answered ++ (b.request, r) ∷ []
  pub bare : c.tail.items ≡ []
  pub goes_on : c.end ≡ None
  pub is_last : c.begun ≡ None

-- no request has begun, and nothing is pending
abbrev pub IsIdle : Connection → Type 0
IsIdle c = (c.end ≡ None) × (c.begun ≡ None) × (c.input.items ≡ []) × (c.output.items ≡ []) × (c.tail.items ≡ [])

-- the connection ends, and all of it was sent
abbrev pub IsDone : Connection → Type 0
IsDone c = (c.end ≢ None) × (pending c ≡ [])

-- the bytes of memory that the buffers have taken
abbrev pub room_of : Connection → ℕ
room_of c = (length c.input.items + c.input.spare) + (length c.output.items + c.output.spare) + (length c.tail.items + c.tail.spare)

abbrev pub held_by : Connection → ℕ
held_by c = min (room_of c) (2 ^ 64 - 1)

-- Each whole request that was received is answered, and there may be another one: the client has not ended its side, there was memory for each
-- read, and what came of the next head is no error.
pub record AwaitsRequest (c : Connection) : Type 0 where
  pub answered : HasNoMessage c.bounds.limits c.input.items
  pub goes_on : IsFalse c.has_ended
  pub fed : IsFalse c.is_starved
  pub valid : c.begun ≡ None → AwaitsHead c.bounds.limits c.input.items

-- a connection that goes on, and has no more pending than may be, awaits a request
abbrev pub Rests : Connection → Type 0
Rests c = c.end ≡ None → c.tail.items ≡ [] → length c.output.items ≤ c.bounds.max_pending → AwaitsRequest c

-- a head was read, and its body is next
abbrev pub Starts : Connection → Connection → Type 0
Starts old new = (b : Begun) × (new.begun ≡ Some b) × (new.input.items ≡ old.input.items) × (0 < b.at) × (b.at ≤ length old.input.items)

abbrev pub work_at : Option Begun → ℕ → ℕ
work_at None len = 2 * len
work_at (Some b) len = 2 * (len - b.at) + 1

-- it falls at each step
abbrev pub work : Connection → ℕ
work c = work_at c.begun (length c.input.items)
