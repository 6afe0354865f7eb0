-- What was received and said on a connection, and how it goes on. `answers old command reply new`: in the state `old`, the service may
-- answer the command with the reply (`None`: out of memory), and is then in the state `new`.
use Rattle.std.specs.Prelude.{◌≡◌, ◌⊎◌, ⊤, Bool, IsTrue, IsFalse, ℕ, ◌+◌, ◌*◌, ◌-◌, ◌^◌, ◌≤◌, min, List, [], ◌++◌, length, take, drop, Option, Some, None, vec_len}
use Rattle.std.specs.List.{flat_map}
use Rattle.mg_engine.specs.Commands.{Asked, Answer, refused}
use Rattle.mg_engine.specs.declared.refusal.Refusal.TheVariants.{OutOfMemory}
use Rattle.mg_http.specs.declared.request.head.Framed.{Framed}
use Rattle.mg_http.specs.declared.request.head.Pending.TheVariants as pending
use Rattle.mg_http.specs.declared.sessions.SessionEnd.{SessionEnd}
use Rattle.mg_http.specs.declared.sessions.SessionEnd.TheVariants as session
use Rattle.mg_http.specs.declared.sessions.connection.Connection.{Connection}
use Rattle.mg_http.specs.declared.sessions.connection.Ending.{Ending}
use Rattle.mg_http.specs.declared.sessions.connection.Ending.TheVariants.{Closed, Refused, Limit}
use Rattle.mg_http.specs.Message.{IsWaiting}
use Rattle.mg_http.specs.Output.{left_in, HasRoom, output_room}
use Rattle.mg_http.specs.Reply.{text_of}
use Rattle.mg_http.specs.Session.{Call, Exchange, Serves, Converses}
use Rattle.mg_http.specs.Steps.{IsPending}

-- the bytes that were received and are not answered
abbrev pub unanswered : Connection → List ℕ
unanswered c = c.input.bytes.items

-- all bytes that were received
abbrev pub received : Connection → List ℕ
received c = flat_map (λ r. drop r.1 r.0.items) c.reads.items

-- all bytes that were sent
abbrev pub sent : Connection → List ℕ
sent c = flat_map (λ w. take w.1 (left_in w.0)) c.writes.items

-- the bytes that wait to be sent
abbrev pub waiting : Connection → List ℕ
waiting c = left_in c.output

-- what was sent and what waits to be
abbrev pub said : Connection → List ℕ
said c = sent c ++ waiting c

-- how a session ends that writes all that such a connection has to say
abbrev pub end_of : Ending → SessionEnd
end_of Closed = session.Closed
end_of Refused = session.Refused
end_of Limit = session.Limit

-- the bytes begin with the head that was read
abbrev pub IsKept : List ℕ → List ℕ → Option Framed → Type 0
IsKept db bytes None = ⊤
IsKept db bytes (Some f) = IsPending db bytes (pending.Head f)

-- The bytes were answered by the text: all but those that are left, which may begin with a head that was read; or the text is the last one
-- on the connection. `starved`: the last read got no memory.
abbrev pub Stands
    : {S : Type 0} → (S → Asked → Option Answer → S → Type 0) → List ℕ → Bool → Option Ending → Exchange S → List ℕ → Option Framed → Type 0
Stands answers db starved None all left framed = ((calls : List Call) × Serves answers db calls left all) × IsKept db left framed
Stands answers db starved (Some ending) all left framed = Converses answers db starved (end_of ending) all

-- the number of messages that were answered, and of the bytes that are not
abbrev pub progress : Connection → ℕ
progress c = c.messages + length (unanswered c)

-- Each answered message has at least one byte, so a connection that ends at its limit has received at least 4,294,967,295 bytes.
abbrev pub Counts : Option Ending → ℕ → ℕ → Type 0
Counts None old new = new ≤ old
Counts (Some Closed) old new = ⊤
Counts (Some Refused) old new = ⊤
Counts (Some Limit) old new = 4294967295 ≤ old

-- what was said on the connection is right for what was received, from the first state of the service to the second one
pub record Told {S : Type 0} (answers : S → Asked → Option Answer → S → Type 0) (from : S) (c : Connection) (now : S) : Type 0 where
  pub stands : Stands answers c.db.now c.is_starved c.end (record { old = from; bytes = received c; text = said c; new = now }) (unanswered c) c.framed
  pub counts : Counts c.end (length (received c)) (progress c)

-- The service answers the command in a state that a client may meet after the state `old`.
abbrev pub AnswersMet
    : {S : Type 0} → (S → S → Type 0) → (S → Asked → Option Answer → S → Type 0) → S → Asked → Option Answer → S → Type 0
AnswersMet {S} meets answers old command reply new = (mid : S) × meets old mid × answers mid command reply new

-- the same as `Told`, for a client that may meet another state of the service after each answer
pub record ToldMet
    {S : Type 0} (meets : S → S → Type 0) (answers : S → Asked → Option Answer → S → Type 0) (from : S) (c : Connection) (now : S) : Type 0 where
  pub last : S
  pub told : Told (AnswersMet meets answers) from c last
  pub meeting : meets last now

-- the connection goes on, and begins with the head that was read, if one was
abbrev pub IsReady : Connection → Type 0
IsReady c = (c.end ≡ None) × IsKept c.db.now (unanswered c) c.framed

-- nothing was received or sent
pub record IsQuiet (old new : Connection) : Type 0 where
  pub db : new.db ≡ old.db
  pub starved : new.is_starved ≡ old.is_starved
  pub reads : new.reads ≡ old.reads
  pub writes : new.writes ≡ old.writes

-- some of the unanswered bytes were answered by a text, which waits to be sent
pub record Runs
    {S : Type 0} (answers : S → Asked → Option Answer → S → Type 0) (old : Connection) (from : S) (new : Connection) (now : S) : Type 0 where
  pub text : List ℕ
  pub waits : waiting new ≡ waiting old ++ text
  pub stands : Stands answers old.db.now new.is_starved new.end (record { old = from; bytes = unanswered old; text = text; new = now }) (unanswered new) new.framed
  pub counts : Counts new.end (progress old) (progress new)

-- These bytes were received, or bytes that had waited were sent; nothing was answered. A connection that has ended receives none, and is not
-- starved later.
pub record Transfers (old new : Connection) (more : List ℕ) : Type 0 where
  pub db : new.db ≡ old.db
  pub end : new.end ≡ old.end
  pub framed : new.framed ≡ old.framed
  pub messages : new.messages ≡ old.messages
  pub says : said new ≡ said old
  pub came : received new ≡ received old ++ more
  pub left : unanswered new ≡ unanswered old ++ more
  pub goes_on : ((more ≡ []) × (new.is_starved ≡ old.is_starved)) ⊎ (old.end ≡ None)

-- The connection goes on as it is; or its last read got no memory, and it says so and ends.
abbrev pub GoesOnUnlessStarved : Bool → Connection → Connection → Type 0
GoesOnUnlessStarved omits_body old new =
    (IsFalse old.is_starved × (new ≡ old))
    ⊎ (IsTrue old.is_starved × (new ≡ record old { output = new.output; end = Some Refused })
    × (waiting new ≡ waiting old ++ text_of omits_body (refused OutOfMemory)))

-- A connection that goes on and has room has answered each whole message that was received, and refused what cannot become one. It has said
-- so if its last read got no memory.
abbrev pub Rests : Connection → Type 0
Rests c = c.end ≡ None → HasRoom c.output → IsWaiting c.db.now (unanswered c) × IsFalse c.is_starved

-- the connection has ended, and all of it was sent
abbrev pub IsDone : Connection → Type 0
IsDone c = (¬ (c.end ≡ None)) × (waiting c ≡ [])

-- no message has begun, and nothing waits to be sent
abbrev pub IsIdle : Connection → Type 0
IsIdle c = (c.end ≡ None) × (c.framed ≡ None) × (unanswered c ≡ []) × (waiting c ≡ [])

-- the bytes of memory that its buffers have taken
abbrev pub room_of : Connection → ℕ
room_of c = ((length c.input.bytes.items + c.input.bytes.spare) + 32 * vec_len c.input.spans) + output_room c.output

abbrev pub held_by : Connection → ℕ
held_by c = min (room_of c) (2 ^ 64 - 1)

-- A session over this connection may end in this way: at a write fault; or if all is sent and the connection has ended, the session may not
-- read again, or there is nothing more to read before a message is whole.
abbrev pub EndsBy : Connection → SessionEnd → Type 0
EndsBy c session.Eof = (c.end ≡ None) × (waiting c ≡ []) × IsWaiting c.db.now (unanswered c) × IsFalse c.is_starved
EndsBy c session.ReadFault = (c.end ≡ None) × (waiting c ≡ []) × IsWaiting c.db.now (unanswered c) × IsFalse c.is_starved
EndsBy c session.WriteFault = ⊤
EndsBy c session.Closed = (c.end ≡ Some Closed) × (waiting c ≡ [])
EndsBy c session.Refused = (c.end ≡ Some Refused) × (waiting c ≡ [])
EndsBy c session.Limit = ((c.end ≡ None) ⊎ (c.end ≡ Some Limit)) × (waiting c ≡ [])
