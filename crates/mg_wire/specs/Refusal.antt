-- Why a request is refused, whatever bytes follow, and what the refusal says (RFC 9110, sections 6.6.1, 9.3.2 and 15.5; RFC 9112,
-- sections 2.2, 3.2, 6.1 and 6.3).
use Rattle.std.specs.Prelude.{◌≡◌, ◌≢◌, ◌⊎◌, ℕ, ◌<◌, Bool, true, false, List, [], ◌++◌, length, Option, Some, None, codes, if◌then◌else◌, ◌==◌, nat_eq, IsTrue}
use Rattle.std.specs.List.{starts_with}
use Rattle.httparse.specs.Grammar.{RequestHead}
use Rattle.http1.specs.declared.conn.Limits.{Limits}
use Rattle.http1.specs.declared.decode.Decoder.{Decoder}
use Rattle.http1.specs.declared.error.ReadError.{ReadError}
use Rattle.http1.specs.declared.framing.Framing.{Framing}
use Rattle.http1.specs.Conn.{is_connect}
use Rattle.http1.specs.Framing.{method_kind}
use Rattle.http1.specs.Message as Wire
use Rattle.http1.specs.Message.{known_of, AcceptsRequest, ReadsRequestMessage}
use Rattle.http1.specs.ReadError.{status_of, BodyError, RequestError}
use Rattle.http1.specs.Server as Server
use Rattle.httpdate.specs.declared.date.HttpDate.{HttpDate as Date}
use Rattle.httpdate.specs.Date.{date_text}
use Rattle.mg_wire.specs.declared.body.TheConstants.{MAX_FIELDS}
use Rattle.mg_wire.specs.declared.bounds.Bounds.{Bounds}
use Rattle.mg_wire.specs.declared.refusal.Refusal.{Refusal}
use Rattle.mg_wire.specs.declared.refusal.Refusal.TheVariants.{Unreadable, Cut, BodyTooLarge, UnknownCoding, InvalidTarget, Tunnel, NoMemory}
use Rattle.mg_wire.specs.declared.refusal.TheConstants as Text
use Rattle.mg_wire.specs.Body.{HasNoMessage}
use Rattle.mg_wire.specs.Target.{is_target_for}

-- the stream begins with a head that the server takes, and this is true of each request that it may become, whatever follows
pub record IsEach (limits : Limits) (stream : List ℕ) (P : Wire.Request → Type 0) : Type 0 where
  pub head : RequestHead
  pub framing : Framing
  pub after : List ℕ
  pub accepts : AcceptsRequest limits stream head framing after
  pub each : (more : List ℕ) (m : Wire.Request) (rest : List ℕ) → ReadsRequestMessage limits (stream ++ more) m rest → P m

-- whatever follows, the stream begins with a head that the server takes
pub record BeginsRequest (limits : Limits) (stream : List ℕ) : Type 0 where
  pub head : RequestHead
  pub accepts : (more : List ℕ) → (framing : Framing) × (after : List ℕ) × AcceptsRequest limits (stream ++ more) head framing after

-- no head comes, or one of more fields than the server takes; the error says what is wrong
abbrev pub HasNoHead : Limits → List ℕ → ReadError → Type 0
HasNoHead limits stream e = Server.HasNoHead limits stream MAX_FIELDS × RequestError limits.max_head_len stream MAX_FIELDS e

-- the body does not end, or with more trailers than the server takes; the error says what is wrong
abbrev pub HasNoEnd : Limits → List ℕ → ReadError → Type 0
HasNoEnd limits stream e =
    IsEach limits stream (λ m. MAX_FIELDS < length m.body.trailers) × ((d : Decoder) × (left : List ℕ) × BodyError d left MAX_FIELDS e)

-- The stream is refused for this. `ended`: the client sends no more of it; `starved`: there was no memory for a read. Memory is wanted for
-- a read, and for a request whose head has come; nothing else takes any.
abbrev pub Refuses : Bounds → Bool → Bool → List ℕ → Refusal → Type 0
Refuses bounds ended starved stream (Unreadable e) = HasNoHead bounds.limits stream e ⊎ HasNoEnd bounds.limits stream e
Refuses bounds ended starved stream Cut = IsTrue ended × (stream ≢ []) × HasNoMessage bounds.limits stream
Refuses bounds ended starved stream BodyTooLarge = IsEach bounds.limits stream (λ m. bounds.max_body < length m.body.bytes)
Refuses bounds ended starved stream UnknownCoding = IsEach bounds.limits stream (λ m. (known_of m.head.fields).other_coding ≡ true)
Refuses bounds ended starved stream InvalidTarget = IsEach bounds.limits stream (λ m. is_target_for m.head.method m.head.target ≡ false)
Refuses bounds ended starved stream Tunnel = IsEach bounds.limits stream (λ m. is_connect (method_kind m.head.method) ≡ true)
Refuses bounds ended starved stream NoMemory = IsTrue starved ⊎ BeginsRequest bounds.limits stream

-- why a request with this method and this target is refused
abbrev pub line_refusal : List ℕ → List ℕ → Option Refusal
line_refusal method target =
    if is_connect (method_kind method) then Some Tunnel else (if is_target_for method target then None else Some InvalidTarget)

-- the response to a request that is refused: its status line, the fields that follow its date, and its content
abbrev pub template_of : Refusal → List ℕ × List ℕ × List ℕ
template_of (Unreadable e) =
    if status_of e == 414 then (Text.URI_TOO_LONG.now, Text.FIELDS_65.now, Text.TARGET_TOO_LONG.now)
    else (if status_of e == 431 then (Text.HEADER_FIELDS_TOO_LARGE.now, Text.FIELDS_70.now, Text.FIELDS_TOO_LARGE.now)
    else (Text.BAD_REQUEST.now, Text.FIELDS_58.now, Text.INVALID.now))
template_of Cut = (Text.BAD_REQUEST.now, Text.FIELDS_55.now, Text.CUT.now)
template_of BodyTooLarge = (Text.CONTENT_TOO_LARGE.now, Text.FIELDS_65.now, Text.TOO_LARGE.now)
template_of UnknownCoding = (Text.NOT_IMPLEMENTED.now, Text.FIELDS_63.now, Text.UNKNOWN_CODING.now)
template_of InvalidTarget = (Text.BAD_REQUEST.now, Text.FIELDS_57.now, Text.INVALID_TARGET.now)
template_of Tunnel = (Text.NOT_IMPLEMENTED.now, Text.FIELDS_63.now, Text.NO_TUNNELS.now)
template_of NoMemory = (Text.SERVICE_UNAVAILABLE.now, Text.FIELDS_68.now, Text.NO_MEMORY.now)

-- the line of the date, if there is one
abbrev pub date_line : Option Date → List ℕ
date_line None = []
date_line (Some d) = codes "date: " ++ (date_text d ++ codes "\r\n")

-- the bytes begin with the method HEAD
abbrev pub begins_with_head : List ℕ → Bool
begins_with_head stream = starts_with nat_eq stream (codes "HEAD ")

-- the response to a request that is refused at this date: to HEAD its head alone
abbrev pub refusal_text : Option Date → Bool → Refusal → List ℕ
refusal_text date is_head r =
    (template_of r).0 ++ (date_line date ++ ((template_of r).1 ++ (if is_head then [] else (template_of r).2)))
