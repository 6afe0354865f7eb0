-- What a connection says: the responses of a service to the requests that the bytes which were received begin with (RFC 9112, section 9.3.2).
use Rattle.std.specs.Prelude.{◌≡◌, ℕ, ◌≤◌, Bool, true, false, not, ◌&&◌, List, [], ◌∷◌, ◌++◌, length, map, if◌then◌else◌}
use Rattle.std.specs.List.{list_all}
use Rattle.httparse.specs.Grammar.{RequestHead, status_code, print_response}
use Rattle.httparse.specs.Spans.{name_and_value}
use Rattle.http1.specs.declared.conn.Limits.{Limits}
use Rattle.http1.specs.Framing.{method_kind}
use Rattle.http1.specs.Conn.{keeps_alive}
use Rattle.http1.specs.Fields.{Header, known_fields}
use Rattle.http1.specs.Message as Wire
use Rattle.http1.specs.Message.{ReadsRequestMessage, ReadsResponseMessage}
use Rattle.http1.specs.Server.{is_head}
use Rattle.mg_wire.specs.declared.bounds.Bounds.{Bounds}
use Rattle.mg_wire.specs.declared.request.Request.{Request}
use Rattle.mg_wire.specs.declared.response.Response.{Response}
use Rattle.mg_wire.specs.declared.refusal.TheConstants.{CONTINUE}
use Rattle.mg_wire.specs.Request.{IsAsked, fields_in, asks_to_continue}
use Rattle.mg_wire.specs.Response.{content_of, fields_of}
use Rattle.mg_wire.specs.Sendable.{is_own}
use Rattle.mg_wire.specs.Status.{code_of}
use Rattle.mg_wire.specs.Target.{IsProper}

-- a call of the service: what it was asked, and what it responded
abbrev pub Call : Type 0
Call = Request × Response

-- A client that sent a request with the head h, and has room for the response's head, reads the text, whole, as the response r. To its fields
-- the connection adds only its own. To `HEAD` no content is sent (RFC 9110, section 9.3.2).
pub record Spells (h : RequestHead) (r : Response) (text : List ℕ) : Type 0 where
  pub message : Wire.Response
  pub reads : (limits : Limits) → length (print_response message.head) ≤ limits.max_head_len → 2 ≤ limits.max_trailers_len
      → ReadsResponseMessage limits (method_kind h.method) text message []
  pub status : status_code message.head ≡ code_of r.status
  pub added : List Header
  pub own : list_all is_own added ≡ true
  pub fields : map name_and_value message.head.fields ≡ fields_of r ++ added
  pub body : message.body.bytes ≡ (if is_head (method_kind h.method) then [] else content_of r)

-- what is sent before the response to a request with this head: `100 Continue`, exactly if the request asks for it
abbrev pub interim_for : Bool → List ℕ
interim_for asks = if asks then CONTINUE.now else []

-- Whatever follows, the stream begins with the request that the service was asked, whose body is no longer than may be, and the text is its
-- response.
pub record Turn (bounds : Bounds) (stream : List ℕ) (c : Call) (text rest : List ℕ) : Type 0 where
  pub message : Wire.Request
  pub reads : (more : List ℕ) → ReadsRequestMessage bounds.limits (stream ++ more) message (rest ++ more)
  pub proper : IsProper message.head
  pub fits : length c.0.body.items ≤ bounds.max_body
  pub asked : IsAsked message c.0
  pub response : List ℕ
  pub spells : Spells message.head c.1 response
  pub joined : text ≡ interim_for (asks_to_continue message.head) ++ response

-- neither the request nor the response asks to close the connection (RFC 9112, section 9.3)
abbrev pub keeps_open : Call → Bool
keeps_open c = keeps_alive c.0.minor (known_fields (fields_in c.0)) && not (known_fields (fields_of c.1)).close

abbrev pub KeepsOpen : Call → Type 0
KeepsOpen c = keeps_open c ≡ true

-- the last of the calls asks to close the connection
pub record IsClosedBy (cs : List Call) : Type 0 where
  pub before : List Call
  pub last : Call
  pub calls : cs ≡ before ++ last ∷ []
  pub closes : keeps_open last ≡ false

-- The stream is the requests of these calls and then the rest, and the text is their responses, in order.
abbrev pub IsTranscript : Bounds → List ℕ → List Call → List ℕ → List ℕ → Type 0
IsTranscript bounds stream [] text rest = (stream ≡ rest) × (text ≡ [])
IsTranscript bounds stream (c ∷ cs) text rest =
    (first : List ℕ) × (after : List ℕ) × (later : List ℕ) × (text ≡ first ++ later)
    × Turn bounds stream c first after × IsTranscript bounds after cs later rest

-- `answers old request response new`: in the state `old`, the service may answer the request with the response, and is then in the state `new`
module _ {S : Type 0} (answers : S → Request → Response → S → Type 0) where
  -- the calls led the service from the first state to the second one
  abbrev pub Chain : S → List Call → S → Type 0
  Chain from [] now = now ≡ from
  Chain from (c ∷ cs) now = (next : S) × answers from c.0 c.1 next × Chain next cs now

  -- the service was asked more, which led it from the first state to the second one
  pub record Asks (old : List Call) (from : S) (new : List Call) (now : S) : Type 0 where
    pub calls : List Call
    pub more : new ≡ old ++ calls
    pub chain : Chain from calls now

  -- the service answers the request in a state that a client may meet after the state `old`
  abbrev pub AnswersMet : (S → S → Type 0) → S → Request → Response → S → Type 0
  AnswersMet meets old request response new = (mid : S) × meets old mid × answers mid request response new
