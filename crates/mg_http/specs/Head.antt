-- What a head asks for, and how its body is framed (RFC 9112, sections 2 to 6 and 9.6).
use Rattle.std.specs.Prelude.{ℕ, Bool, ◌||◌, ◌==◌, List, length, map, bytes_eq, nat_le, codes, if◌then◌else◌}
use Rattle.std.specs.List.{list_any}
use Rattle.httparse.specs.Grammar.{RequestHead}
use Rattle.httparse.specs.Spans.{name_and_value}
use Rattle.mg_engine.specs.declared.refusal.Refusal.{Refusal}
use Rattle.mg_engine.specs.declared.refusal.Refusal.TheVariants.{LengthRequired, TooLarge, HeadTooLarge, BadHead}
use Rattle.mg_http.specs.declared.request.fields.Length.{Length}
use Rattle.mg_http.specs.declared.request.fields.Length.TheVariants.{Absent, Bytes, TooMany, Faulty}
use Rattle.mg_http.specs.Fields.{Field, has_field, length_in, asks_close}
use Rattle.mg_http.specs.Target.{Request, body, asks, refuses, request_of}

-- what a head asks for: a request whose body has this many bytes, or a refusal before the body
pub data Framing : Type 0 where
  framed : Request → ℕ → Framing
  unframed : Refusal → Framing

-- the request's refusal if the request is refused, else `refusal`
abbrev pub refusal_before : Refusal → Request → Refusal
refusal_before refusal (body endpoint) = refusal
refusal_before refusal (asks command) = refusal
refusal_before refusal (refuses first) = first

-- How a body is framed, by its length, whether a Transfer-Encoding is given (`coded`), and whether the method is POST (`post`). A faulty
-- length is refused as `BadHead`. A Transfer-Encoding, a POST without a length, and a length that is too great get the request's own
-- refusal if it has one; else the first two get `LengthRequired`, and the last gets `TooLarge`.
abbrev pub framed_by : Length → Bool → Bool → Request → Framing
framed_by Faulty coded post request = unframed BadHead
framed_by Absent coded post request =
    if coded || post then unframed (refusal_before LengthRequired request) else framed request 0
framed_by (Bytes n) coded post request =
    if coded then unframed (refusal_before LengthRequired request) else framed request n
framed_by TooMany coded post request =
    if coded then unframed (refusal_before LengthRequired request) else unframed (refusal_before TooLarge request)

-- what a head with this method, target and fields asks of the database; more than 64 fields are refused
abbrev pub framing_by_parts : List ℕ → List ℕ → List ℕ → List Field → Framing
framing_by_parts db method target fields =
    if nat_le (length fields) 64
    then framed_by (length_in fields) (has_field (codes "transfer-encoding") fields) (bytes_eq method (codes "POST")) (request_of db method target)
    else unframed HeadTooLarge

-- what a head asks of the database
abbrev pub framing_of : List ℕ → RequestHead → Framing
framing_of db h = framing_by_parts db h.method h.target (map name_and_value h.fields)

-- the reply leaves out the bytes of its body: the method is HEAD
abbrev pub omits_body_of : RequestHead → Bool
omits_body_of h = bytes_eq h.method (codes "HEAD")

-- the session ends after the reply: the version is 1.0, or a Connection field asks to close
abbrev pub closes_after : RequestHead → Bool
closes_after h = h.minor == 0 || list_any asks_close (map name_and_value h.fields)
