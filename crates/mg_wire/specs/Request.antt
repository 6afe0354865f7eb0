-- What a request of the grammar and one that a service is asked have in common.
use Rattle.std.specs.Prelude.{◌≡◌, ℕ, Bool, false, ◌&&◌, List, [], map, Result, Ok, Err, nat_lt}
use Rattle.httparse.specs.Grammar.{RequestHead}
use Rattle.httparse.specs.Spans.{span_bytes, name_and_value}
use Rattle.httparse.specs.declared.spans.HeaderSpan.{HeaderSpan}
use Rattle.httparse.specs.declared.spans.RequestSpans.{RequestSpans}
use Rattle.http1.specs.declared.framing.Framing.{Framing}
use Rattle.http1.specs.declared.framing.FramingError.{FramingError}
use Rattle.http1.specs.Fields.{Header}
use Rattle.http1.specs.Framing.{method_kind, request_framing}
use Rattle.http1.specs.Message as Wire
use Rattle.http1.specs.Message.{known_of}
use Rattle.http1.specs.Server.{has_body}
use Rattle.http1.specs.ServerTrace.{headers_at}
use Rattle.mg_wire.specs.declared.request.Field.{Field}
use Rattle.mg_wire.specs.declared.request.Request.{Request}

-- the name and the value of a field
abbrev pub field_parts : Field → Header
field_parts f = (f.name, f.value)

-- the spans cover the parts of the request, which has no body yet
pub record HasHeadAt (input : List ℕ) (spans : List HeaderSpan) (r : RequestSpans) (a : Request) : Type 0 where
  pub method : a.method ≡ span_bytes input r.method
  pub target : a.target ≡ span_bytes input r.path
  pub minor : a.minor ≡ r.version
  pub fields : map field_parts a.fields.items ≡ headers_at input spans r.headers
  pub body : a.body.items ≡ []

-- the request has the parts of the head
pub record HasHead (h : RequestHead) (a : Request) : Type 0 where
  pub method : a.method ≡ h.method
  pub target : a.target ≡ h.target
  pub minor : a.minor ≡ h.minor
  pub fields : map field_parts a.fields.items ≡ map name_and_value h.fields

-- the service is asked just this request of the grammar
pub record IsAsked (m : Wire.Request) (a : Request) : Type 0 where
  pub head : HasHead m.head a
  pub body : a.body.items ≡ m.body.bytes

-- the names and the values of a request's fields
abbrev pub fields_in : Request → List Header
fields_in r = map field_parts r.fields.items

-- the framing carries content
abbrev pub has_content : Result Framing FramingError → Bool
has_content (Ok framing) = has_body framing
has_content (Err e) = false

-- a client of HTTP/1.1 sends its content only after `100 Continue` (RFC 9110, section 10.1.1)
abbrev pub asks_to_continue : RequestHead → Bool
asks_to_continue h =
    let k = known_of h.fields in
    nat_lt 0 h.minor && (k.expect_continue && has_content (request_framing (method_kind h.method) h.minor k))
