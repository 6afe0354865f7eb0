-- For private clauses: what the code reads at the beginning of some bytes. What a session promises does not depend on this file.
use Rattle.std.specs.Prelude.{◌≡◌, ◌⊎◌, ℕ, ◌≤◌, List, length, drop, Bool, false, Option, Some, Result, Ok, Err, string_bytes}
use Rattle.httparse.specs.Grammar.{RequestHead, ReadsRequest}
use Rattle.mg_engine.specs.Commands.{Asked, Answer, drop_index, get, list_indexes, refused}
use Rattle.mg_engine.specs.View as engine
use Rattle.mg_engine.specs.declared.refusal.Refusal.{Refusal}
use Rattle.mg_engine.specs.declared.refusal.Refusal.TheVariants.{BadHead, OutOfMemory}
use Rattle.mg_http.specs.declared.request.head.Framed.{Framed}
use Rattle.mg_http.specs.declared.request.head.Pending.{Pending}
use Rattle.mg_http.specs.declared.request.head.Pending.TheVariants as pending
use Rattle.mg_http.specs.declared.sessions.answer.MessageReply.{MessageReply}
use Rattle.mg_http.specs.declared.sessions.answer.MessageReply.TheVariants as message
use Rattle.mg_http.specs.declared.request.target.BodilessCommand.{BodilessCommand}
use Rattle.mg_http.specs.declared.request.target.BodilessCommand.TheVariants as bodiless
use Rattle.mg_http.specs.declared.request.target.ParsedRequest.{ParsedRequest}
use Rattle.mg_http.specs.declared.request.target.ParsedRequest.TheVariants as parsed
use Rattle.mg_http.specs.Head.{Framing, framed, unframed, framing_of, omits_body_of, closes_after}
use Rattle.mg_http.specs.Message.{Message, HasHead, IsNoHead, CanGoOn, IsPartHead, IsRefused}
use Rattle.mg_http.specs.Target.{Request, body, asks, refuses}

-- the command that a `BodilessCommand` stands for
abbrev pub bodiless_view : BodilessCommand → Asked
bodiless_view bodiless.ListIndexes = list_indexes
bodiless_view (bodiless.DropIndex ddoc name) = drop_index (string_bytes ddoc) (string_bytes name)
bodiless_view (bodiless.Get id conflicts) = get (string_bytes id) conflicts

-- the request that a `ParsedRequest` stands for
abbrev pub request_in : ParsedRequest → Request
request_in (parsed.Body endpoint) = body endpoint
request_in (parsed.Asks command) = asks (bodiless_view command)
request_in (parsed.Refuses refusal) = refuses refusal

-- the answer that a `MessageReply` stands for
abbrev pub answer_in : MessageReply → Option Answer
answer_in (message.Service reply) = engine.reply_view reply
answer_in (message.Refusal refusal) = Some (refused refusal)

-- the message of a head and its body
abbrev pub message_of : Framed → List ℕ → Message
message_of f bytes = record { request = request_in f.request; body = bytes; omits_body = f.omits_body; closes = f.closes }

-- the code read the head right: its request, the length of the body, `omits_body` and `closes`
pub record IsFramed (db : List ℕ) (h : RequestHead) (f : Framed) : Type 0 where
  pub framing : framing_of db h ≡ framed (request_in f.request) f.body_len
  pub omits_body : f.omits_body ≡ omits_body_of h
  pub closes : f.closes ≡ closes_after h

-- the code's decision about the body of a request is right: its length, or a refusal before it
abbrev pub IsBodyFramed : Framing → Request → Result ℕ Refusal → Type 0
IsBodyFramed asked request (Ok n) = (asked ≡ framed request n) × (n ≤ 8388608)
IsBodyFramed asked request (Err refusal) = asked ≡ unframed refusal

-- the code's framing of a message is right: its request and the length of its body; or a refusal before the body, or out of memory
abbrev pub IsFramedBy : Framing → Result (ParsedRequest × ℕ) Refusal → Type 0
IsFramedBy asked (Ok f) = (asked ≡ framed (request_in f.0) f.1) × (f.1 ≤ 8388608)
IsFramedBy asked (Err refusal) = (asked ≡ unframed refusal) ⊎ (refusal ≡ OutOfMemory)

-- what the code read at the beginning of these bytes, at most 16,384, is right
abbrev pub IsHeadRead : List ℕ → List ℕ → Pending → Type 0
IsHeadRead db bytes pending.Waiting = CanGoOn bytes
IsHeadRead db bytes (pending.Refused refusal omits_body) =
    ((h : RequestHead) × (after : List ℕ) × ReadsRequest bytes h after
    × ((framing_of db h ≡ unframed refusal) ⊎ (refusal ≡ OutOfMemory)) × (omits_body ≡ omits_body_of h))
    ⊎ (IsNoHead bytes × (refusal ≡ BadHead) × (omits_body ≡ false))
IsHeadRead db bytes (pending.Head f) =
    (f.head_len ≤ length bytes) × (f.body_len ≤ 8388608)
    × (h : RequestHead) × ReadsRequest bytes h (drop f.head_len bytes) × IsFramed db h f

-- the bytes begin with a complete head, and there was no memory for its target
abbrev pub LacksMemoryForHead : List ℕ → Refusal → Bool → Type 0
LacksMemoryForHead bytes refusal omits_body =
    (refusal ≡ OutOfMemory) × (h : RequestHead) × (after : List ℕ) × HasHead bytes h after × (omits_body ≡ omits_body_of h)

-- what the code found at the beginning of the unanswered bytes is right
abbrev pub IsPending : List ℕ → List ℕ → Pending → Type 0
IsPending db bytes pending.Waiting = IsPartHead bytes
IsPending db bytes (pending.Refused refusal omits_body) =
    IsRefused db bytes refusal omits_body ⊎ LacksMemoryForHead bytes refusal omits_body
IsPending db bytes (pending.Head f) =
    (f.head_len ≤ length bytes) × (f.body_len ≤ 8388608)
    × (h : RequestHead) × HasHead bytes h (drop f.head_len bytes) × IsFramed db h f
