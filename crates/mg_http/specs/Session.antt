-- What a session writes for what it reads (RFC 9112, section 9). `answers old command reply new`: in the state `old`, the service may
-- answer the command with the reply (`None`: out of memory), and is then in the state `new`.
use Rattle.std.specs.Prelude.{◌≡◌, ◌⊎◌, ℕ, Bool, true, false, IsTrue, IsFalse, List, [], ◌∷◌, ◌++◌, Option, Some, None}
use Rattle.httparse.specs.Grammar.{RequestHead}
use Rattle.mg_value.specs.Value.{Value}
use Rattle.mg_value.specs.Text.{Reads}
use Rattle.mg_engine.specs.declared.refusal.Refusal.{Refusal}
use Rattle.mg_engine.specs.declared.refusal.Refusal.TheVariants.{InvalidJson}
use Rattle.mg_engine.specs.Commands.{Asked, bulk, find, explain, create_index, reshard, Answer, refused}
use Rattle.mg_http.specs.declared.request.routes.Endpoint.{Endpoint}
use Rattle.mg_http.specs.declared.request.routes.Endpoint.TheVariants.{BulkDocs, Find, Explain, CreateIndex, Reshard}
use Rattle.mg_http.specs.declared.sessions.SessionEnd.{SessionEnd}
use Rattle.mg_http.specs.declared.sessions.SessionEnd.TheVariants.{Eof, Closed, Refused, ReadFault, WriteFault, Limit}
use Rattle.mg_http.specs.Device.{IsBytePrefix}
use Rattle.mg_http.specs.Head.{omits_body_of}
use Rattle.mg_http.specs.Message.{Message, Begins, HasHead, IsRefused, IsPartHead, IsWaiting}
use Rattle.mg_http.specs.Reply.{text_of, reply_text}
use Rattle.mg_http.specs.Target.{Request, body, asks, refuses}

-- the command of an endpoint whose body is this value
abbrev pub asked_by : Endpoint → Value → Asked
asked_by BulkDocs v = bulk v
asked_by Find v = find v
asked_by Explain v = explain v
asked_by CreateIndex v = create_index v
asked_by Reshard v = reshard v

-- how a service handles a request: its state before, the reply (`None`: out of memory), and its state after
pub record Handling (S : Type 0) : Type 0 where
  pub old : S
  pub reply : Option Answer
  pub new : S

-- The body is handled in one of three ways: the service replies to its value; it is refused as invalid JSON, since it is not the text of
-- a value; or memory runs out before the service is asked.
abbrev pub HandlesBody : {S : Type 0} → (S → Asked → Option Answer → S → Type 0) → Endpoint → List ℕ → Handling S → Type 0
HandlesBody answers endpoint bytes handling =
    ((value : Value) × Reads bytes value × answers handling.old (asked_by endpoint value) handling.reply handling.new)
    ⊎ ((((value : Value) → ¬ (Reads bytes value)) × (handling.reply ≡ Some (refused InvalidJson)) × (handling.new ≡ handling.old))
    ⊎ ((handling.reply ≡ None) × (handling.new ≡ handling.old)))

-- the request with this body is handled in this way; only an endpoint uses the body
abbrev pub Handles : {S : Type 0} → (S → Asked → Option Answer → S → Type 0) → Request → List ℕ → Handling S → Type 0
Handles answers (body endpoint) bytes handling = HandlesBody answers endpoint bytes handling
Handles answers (asks command) bytes handling = answers handling.old command handling.reply handling.new
Handles answers (refuses refusal) bytes handling = (handling.reply ≡ Some (refused refusal)) × (handling.new ≡ handling.old)

-- a message, and its reply (`None`: out of memory)
pub record Call : Type 0 where
  pub message : Message
  pub reply : Option Answer

-- the message of the call was handled, and its reply is the call's
abbrev pub IsHandled : {S : Type 0} → (S → Asked → Option Answer → S → Type 0) → S → Call → S → Type 0
IsHandled answers old call new =
    Handles answers call.message.request call.message.body (record { old = old; reply = call.reply; new = new })

-- the text of the reply to the call's message
abbrev pub call_text : Call → List ℕ
call_text call = reply_text call.message.omits_body call.reply

-- input and output between two states of a service: the bytes that were read, and the text that was written
pub record Exchange (S : Type 0) : Type 0 where
  pub old : S
  pub bytes : List ℕ
  pub text : List ℕ
  pub new : S

-- The bytes begin with the message of the call, which does not end the session, and the text begins with its reply. `others` holds of the
-- rest of the bytes and of the text, from the state that the call leaves.
pub record ServesFirst
    {S : Type 0} (answers : S → Asked → Option Answer → S → Type 0) (db : List ℕ) (call : Call) (all : Exchange S)
    (others : Exchange S → Type 0) : Type 0 where
  pub after : List ℕ
  pub later : List ℕ
  pub mid : S
  pub begins : Begins db all.bytes call.message after
  pub stays : call.message.closes ≡ false
  pub handled : IsHandled answers all.old call mid
  pub text_is : all.text ≡ call_text call ++ later
  pub others_follow : others (record { old = mid; bytes = after; text = later; new = all.new })

-- The bytes are the messages of the calls and then `rest`, the text is their replies in order, and the service went from the old state
-- to the new one. None of the messages ends the session.
abbrev pub Serves
    : {S : Type 0} → (S → Asked → Option Answer → S → Type 0) → List ℕ → List Call → List ℕ → Exchange S → Type 0
Serves answers db [] rest all = (all.bytes ≡ rest) × (all.text ≡ []) × (all.new ≡ all.old)
Serves answers db (call ∷ calls) rest all = ServesFirst answers db call all (Serves answers db calls rest)

-- the bytes begin with the message of the call, the message was handled, and the text is its reply
pub record IsLastCall
    {S : Type 0} (answers : S → Asked → Option Answer → S → Type 0) (db : List ℕ) (call : Call) (all : Exchange S) : Type 0 where
  pub after : List ℕ
  pub begins : Begins db all.bytes call.message after
  pub handled : IsHandled answers all.old call all.new
  pub text_is : all.text ≡ call_text call

-- Memory ran out before a message was answered. Where no head has come, it ran out for a read (`starved`: the last read got no memory). After
-- a complete head, it ran out for the target or for a read of the body; there the method decides whether the reply omits its body.
abbrev pub LacksMemory : Bool → List ℕ → Bool → Type 0
LacksMemory starved bytes omits_body =
    (IsTrue starved × IsPartHead bytes × (omits_body ≡ false))
    ⊎ ((h : RequestHead) × (after : List ℕ) × HasHead bytes h after × (omits_body ≡ omits_body_of h))

-- the text is a reply that refuses the bytes, or that says that memory ran out
abbrev pub IsRefusalText : List ℕ → Bool → List ℕ → List ℕ → Type 0
IsRefusalText db starved bytes text =
    ((refusal : Refusal) × (omits_body : Bool) × IsRefused db bytes refusal omits_body × (text ≡ text_of omits_body (refused refusal)))
    ⊎ ((omits_body : Bool) × LacksMemory starved bytes omits_body × (text ≡ reply_text omits_body None))

-- nothing was left to say, and the service stayed as it was
abbrev pub SaysNothing : {S : Type 0} → Exchange S → Type 0
SaysNothing last = (last.text ≡ []) × (last.new ≡ last.old)

-- the text is the reply to a last message, which asks to close
abbrev pub SaysLast : {S : Type 0} → (S → Asked → Option Answer → S → Type 0) → List ℕ → Exchange S → Type 0
SaysLast answers db last = (call : Call) × (call.message.closes ≡ true) × IsLastCall answers db call last

-- the text refuses the bytes, or says that memory ran out, and the service stayed as it was
abbrev pub SaysRefusal : {S : Type 0} → List ℕ → Bool → Exchange S → Type 0
SaysRefusal db starved last = IsRefusalText db starved last.bytes last.text × (last.new ≡ last.old)

-- A session may end in this way if `last` is its exchange after the messages that did not end it: the bytes that were left, and the text
-- that it had to write for them. `starved`: its last read got no memory. A write may fail whatever that text is.
abbrev pub IsSessionEnd : {S : Type 0} → (S → Asked → Option Answer → S → Type 0) → List ℕ → Bool → SessionEnd → Exchange S → Type 0
IsSessionEnd answers db starved Eof last = IsWaiting db last.bytes × SaysNothing last × IsFalse starved
IsSessionEnd answers db starved ReadFault last = IsWaiting db last.bytes × SaysNothing last × IsFalse starved
IsSessionEnd answers db starved Limit last = SaysNothing last
IsSessionEnd answers db starved Closed last = SaysLast answers db last
IsSessionEnd answers db starved Refused last = SaysRefusal db starved last
IsSessionEnd answers db starved WriteFault last = SaysNothing last ⊎ (SaysLast answers db last ⊎ SaysRefusal db starved last)

-- a session that ended in this way wrote all that it had to write; at a write fault, a prefix of it
abbrev pub IsWritten : SessionEnd → List ℕ → List ℕ → Type 0
IsWritten Eof written whole = written ≡ whole
IsWritten ReadFault written whole = written ≡ whole
IsWritten Limit written whole = written ≡ whole
IsWritten Closed written whole = written ≡ whole
IsWritten Refused written whole = written ≡ whole
IsWritten WriteFault written whole = IsBytePrefix written whole

-- A session read these bytes, wrote this text, took the service from the old state to the new one, and had this end. `starved`: its last
-- read got no memory. First it served the `calls`, whose replies are `text`, and which left the state `mid`. `rest` are the bytes that it
-- read after them, and `last` is what it had to write for those.
pub record Converses
    {S : Type 0} (answers : S → Asked → Option Answer → S → Type 0) (db : List ℕ) (starved : Bool) (end : SessionEnd) (all : Exchange S)
    : Type 0 where
  pub calls : List Call
  pub text : List ℕ
  pub rest : List ℕ
  pub mid : S
  pub served : Serves answers db calls rest (record { old = all.old; bytes = all.bytes; text = text; new = mid })
  pub last : List ℕ
  pub ended : IsSessionEnd answers db starved end (record { old = mid; bytes = rest; text = last; new = all.new })
  pub written_is : IsWritten end all.text (text ++ last)
