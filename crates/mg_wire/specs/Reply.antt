-- What is sent of a response.
use Rattle.std.specs.Prelude.{◌≡◌, ℕ, ◌&&◌, not, true, false, List, [], ◌∷◌, ◌++◌, length, Ok, Option, Some, None, if◌then◌else◌, ◌==◌}
use Rattle.std.specs.List.{list_all}
use Rattle.http1.specs.declared.conn.BodySize.{BodySize}
use Rattle.http1.specs.declared.conn.BodySize.TheVariants.{Empty, Known}
use Rattle.http1.specs.declared.server.Server.{Server}
use Rattle.http1.specs.Fields.{Header, known_fields}
use Rattle.http1.specs.Head.{is_status_line, head_refusal, response_text}
use Rattle.http1.specs.Encoder.{encoder_for, body_text, AreAccepted}
use Rattle.http1.specs.Conn.{Plan}
use Rattle.http1.specs.Server.{response_plan, peer_minor, IsClosed}
use Rattle.httpdate.specs.declared.date.HttpDate.{HttpDate as Date}
use Rattle.mg_wire.specs.Sendable.{is_own}

-- a length, as `http1` is given it
abbrev pub size_for : ℕ → BodySize
size_for len = if len == 0 then Empty else Known len

-- where the fields of a response begin, after room for a date
abbrev pub first_of : Option Date → ℕ
first_of None = 1
first_of (Some d) = 0

-- The head of a response was appended, so that it and then these bytes are the whole response. `next`: the server after it
pub record Heads (s : Server) (status : ℕ) (fields : List Header) (content_len sent : ℕ) (old new : List ℕ) (next : Server) : Type 0 where
  pub plan : Plan
  pub reason : List ℕ
  pub own : list_all is_own plan.extra ≡ true
  pub planned : response_plan s status (size_for content_len) fields ≡ Ok plan
  pub valid : head_refusal (is_status_line (peer_minor s) status reason) (fields ++ plan.extra) ≡ None
  pub whole : (piece : List ℕ) → length piece ≡ sent
      → (new ++ piece ≡ old ++ response_text (peer_minor s) status reason (fields ++ plan.extra) ++ body_text (piece ∷ []) (encoder_for plan.framing) [])
      × AreAccepted (piece ∷ []) (encoder_for plan.framing) []
  pub keeps : s.request.expects_continue ≡ false → plan.keep_alive ≡ (s.request.keep_alive && not (known_fields fields).close)
  pub closes : IsClosed next → plan.keep_alive ≡ false
  pub goes_on : ¬ (IsClosed next) → plan.keep_alive ≡ true
