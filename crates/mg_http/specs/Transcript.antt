-- The transcript of some input: the text of a service's replies to it, where memory suffices (RFC 9112). These definitions name no loop
-- and no buffer.
use Rattle.std.specs.Prelude.{◌≡◌, ◌≤◌, ◌⊎◌, ⊤, ℕ, Bool, true, false, List, [], ◌∷◌, ◌++◌, length, All, Option, Some}
use Rattle.std.proofs.Common.{inl, inr}
use Rattle.mg_engine.specs.declared.refusal.Refusal.{Refusal}
use Rattle.mg_engine.specs.Commands.{Asked, Answer, refused}
use Rattle.mg_http.specs.declared.sessions.SessionEnd.{SessionEnd}
use Rattle.mg_http.specs.declared.sessions.SessionEnd.TheVariants.{Eof, Closed, Refused, ReadFault, WriteFault, Limit}
use Rattle.mg_http.specs.Message.{Message, Begins, IsRefused, IsWaiting}
use Rattle.mg_http.specs.Reply.{text_of}
use Rattle.mg_http.specs.Session.{Call, Exchange, Handles, IsSessionEnd, Converses}

-- The bytes do not begin with a message that can be answered: there is an incomplete message or no byte, and the text is empty; or the
-- bytes are refused, and the text is the refusal.
abbrev pub EndsTranscript : List ℕ → List ℕ → List ℕ → Type 0
EndsTranscript db bytes text =
    (IsWaiting db bytes × (text ≡ []))
    ⊎ ((refusal : Refusal) × (omits_body : Bool) × IsRefused db bytes refusal omits_body × (text ≡ text_of omits_body (refused refusal)))

-- a text for some bytes, from a state of a service
pub record TextFor (S : Type 0) : Type 0 where
  pub from : S
  pub bytes : List ℕ
  pub text : List ℕ

-- The bytes begin with the message, and the text begins with its reply, which is not out of memory. `others` holds of the bytes after the
-- message and of the text after its reply, from the state that the message leaves.
pub record AnswersFirst
    {S : Type 0} (answers : S → Asked → Option Answer → S → Type 0) (db : List ℕ) (m : Message) (all : TextFor S)
    (others : TextFor S → Type 0) : Type 0 where
  pub after : List ℕ
  pub later : List ℕ
  pub answer : Answer
  pub mid : S
  pub begins : Begins db all.bytes m after
  pub handled : Handles answers m.request m.body (record { old = all.from; reply = Some answer; new = mid })
  pub text_is : all.text ≡ text_of m.omits_body answer ++ later
  pub others_follow : others (record { from = mid; bytes = after; text = later })

-- The bytes begin with these messages, and the text is their replies and then what ends the transcript. What follows a message is answered
-- from the state that the message leaves; after a message that ends the session, the text ends.
abbrev pub IsTranscriptOf : {S : Type 0} → (S → Asked → Option Answer → S → Type 0) → List ℕ → List Message → TextFor S → Type 0
IsTranscriptOf answers db [] all = EndsTranscript db all.bytes all.text
IsTranscriptOf answers db (m ∷ ms) all =
    AnswersFirst answers db m all (λ others.
    ((m.closes ≡ true) × (ms ≡ []) × (others.text ≡ [])) ⊎ ((m.closes ≡ false) × IsTranscriptOf answers db ms others))

-- the text is a transcript of the bytes, from the state
abbrev pub IsTranscript : {S : Type 0} → (S → Asked → Option Answer → S → Type 0) → List ℕ → TextFor S → Type 0
IsTranscript answers db all = (messages : List Message) × IsTranscriptOf answers db messages all

-- the reply of the call is not out of memory
abbrev pub IsAnswered : Call → Type 0
IsAnswered call = (answer : Answer) × (call.reply ≡ Some answer)

-- the reply with which the session ends, if there is one, is not out of memory
abbrev pub EndsAmply
    : {S : Type 0} (answers : S → Asked → Option Answer → S → Type 0) (db : List ℕ) (starved : Bool) (end : SessionEnd) (last : Exchange S)
    → IsSessionEnd answers db starved end last → Type 0
EndsAmply answers db starved Eof last ended = ⊤
EndsAmply answers db starved ReadFault last ended = ⊤
EndsAmply answers db starved Limit last ended = ⊤
EndsAmply answers db starved Closed last ended = IsAnswered ended.0
EndsAmply answers db starved Refused last (inl refused, same) = ⊤
EndsAmply answers db starved Refused last (inr lacking, same) = ⊥
EndsAmply answers db starved WriteFault last (inl nothing) = ⊤
EndsAmply answers db starved WriteFault last (inr (inl answered)) = IsAnswered answered.0
EndsAmply answers db starved WriteFault last (inr (inr (inl refused, same))) = ⊤
EndsAmply answers db starved WriteFault last (inr (inr (inr lacking, same))) = ⊥

-- memory sufficed for a session: none of its replies is out of memory
pub record IsAmple
    {S : Type 0} (answers : S → Asked → Option Answer → S → Type 0) (db : List ℕ) (starved : Bool) (end : SessionEnd) (all : Exchange S)
    (conversation : Converses answers db starved end all) : Type 0 where
  pub calls : All IsAnswered conversation.calls
  pub last : EndsAmply answers db starved end (record { old = conversation.mid; bytes = conversation.rest; text = conversation.last; new = all.new }) conversation.ended

-- the session wrote all that it had to write: it ended neither at a write fault nor at its limit
abbrev pub WroteAll : SessionEnd → Type 0
WroteAll Eof = ⊤
WroteAll Closed = ⊤
WroteAll Refused = ⊤
WroteAll ReadFault = ⊤
WroteAll WriteFault = ⊥
WroteAll Limit = ⊥

-- A session that ended at its limit has read at least 4,294,967,295 bytes, since each message and each read that continued the session
-- has at least one byte.
abbrev pub IsAtLimit : SessionEnd → List ℕ → Type 0
IsAtLimit Limit bytes = 4294967295 ≤ length bytes
IsAtLimit Eof bytes = ⊤
IsAtLimit Closed bytes = ⊤
IsAtLimit Refused bytes = ⊤
IsAtLimit ReadFault bytes = ⊤
IsAtLimit WriteFault bytes = ⊤

-- A session over an input and an output: which bytes were read, which were written, whether the last read got no memory (`starved`), the
-- states of the service before and after, and how the session ended.
pub record Course (S : Type 0) : Type 1 where
  pub read : List ℕ → Type 0
  pub wrote : List ℕ → Type 0
  pub starved : Bool
  pub old : S
  pub new : S
  pub end : SessionEnd

-- The session read these bytes and wrote this text. If memory sufficed and it wrote all that it had to write, the text is a transcript of
-- the bytes. If it ended at its limit, it had read at least 4,294,967,295 bytes.
pub record WroteTranscript
    {S : Type 0} (answers : S → Asked → Option Answer → S → Type 0) (db : List ℕ) (course : Course S) : Type 0 where
  pub bytes : List ℕ
  pub written : List ℕ
  pub input : course.read bytes
  pub output : course.wrote written
  pub conversation : Converses answers db course.starved course.end (record { old = course.old; bytes = bytes; text = written; new = course.new })
  pub transcript : IsAmple answers db course.starved course.end (record { old = course.old; bytes = bytes; text = written; new = course.new }) conversation
      → WroteAll course.end → IsTranscript answers db (record { from = course.old; bytes = bytes; text = written })
  pub limit : IsAtLimit course.end bytes
