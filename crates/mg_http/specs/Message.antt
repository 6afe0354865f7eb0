-- The messages of a session (RFC 9112, sections 2 to 6): a head, and a body of the length that the head's fields give.
use Rattle.std.specs.Prelude.{◌≡◌, ℕ, ◌<◌, ◌≤◌, ◌⊎◌, Bool, false, List, ◌++◌, length, take}
use Rattle.httparse.specs.Grammar.{RequestHead, print_request, ReadsRequest, HasNoRequest, NeverHasRequest, EndsInTarget}
use Rattle.mg_engine.specs.declared.refusal.Refusal.{Refusal}
use Rattle.mg_engine.specs.declared.refusal.Refusal.TheVariants.{HeadTooLarge, BadHead}
use Rattle.mg_http.specs.Head.{framed, unframed, framing_of, omits_body_of, closes_after}
use Rattle.mg_http.specs.Target.{Request}

-- a message: what it asks for, its body, whether its reply is written without a body, and whether the session ends after it
pub record Message : Type 0 where
  pub request : Request
  pub body : List ℕ
  pub omits_body : Bool
  pub closes : Bool

-- the bytes are a head within its limit, and then `after`
pub record HasHead (bytes : List ℕ) (h : RequestHead) (after : List ℕ) : Type 0 where
  pub reads : ReadsRequest bytes h after
  pub fits : length (print_request h) ≤ 16384

-- the message has the request, the length of the body, `omits_body` and `closes` that the head gives
pub record IsHeadOf (db : List ℕ) (h : RequestHead) (m : Message) : Type 0 where
  pub framing : framing_of db h ≡ framed m.request (length m.body)
  pub omits_body : m.omits_body ≡ omits_body_of h
  pub closes : m.closes ≡ closes_after h

-- the bytes are the message, and then `rest`
pub record Begins (db bytes : List ℕ) (m : Message) (rest : List ℕ) : Type 0 where
  pub head : RequestHead
  pub after : List ℕ
  pub has : HasHead bytes head after
  pub framed : IsHeadOf db head m
  pub joined : after ≡ m.body ++ rest

-- No bytes that follow can make these begin with a head. Bytes that end within a target do not count, even if the target is not UTF-8: that
-- is tested only at its end.
abbrev pub IsNoHead : List ℕ → Type 0
IsNoHead bytes = NeverHasRequest bytes × (¬ (EndsInTarget bytes))

-- the bytes do not begin with a head, and may go on: they can still become a head, or they end within a target
abbrev pub CanGoOn : List ℕ → Type 0
CanGoOn bytes = HasNoRequest bytes × (¬ (IsNoHead bytes))

-- The bytes are refused for this reason (`omits_body`: the reply leaves out its body): they begin with a refused head, or their first
-- 16,384 bytes can never become a head or are still an incomplete one.
abbrev pub IsRefused : List ℕ → List ℕ → Refusal → Bool → Type 0
IsRefused db bytes refusal omits_body =
    ((h : RequestHead) × (after : List ℕ) × HasHead bytes h after × (framing_of db h ≡ unframed refusal) × (omits_body ≡ omits_body_of h))
    ⊎ ((IsNoHead (take 16384 bytes) × (refusal ≡ BadHead) × (omits_body ≡ false))
    ⊎ ((16384 ≤ length bytes) × CanGoOn (take 16384 bytes) × (refusal ≡ HeadTooLarge) × (omits_body ≡ false)))

-- the bytes are an incomplete head within its limit, or there is no byte
abbrev pub IsPartHead : List ℕ → Type 0
IsPartHead bytes = (length bytes < 16384) × CanGoOn bytes

-- the bytes are a head and an incomplete body
abbrev pub IsPartBody : List ℕ → List ℕ → Type 0
IsPartBody db bytes =
    (h : RequestHead) × (after : List ℕ) × (request : Request) × (body : ℕ)
    × HasHead bytes h after × (framing_of db h ≡ framed request body) × (length after < body)

-- the bytes are an incomplete message, or there is no byte
abbrev pub IsWaiting : List ℕ → List ℕ → Type 0
IsWaiting db bytes = IsPartHead bytes ⊎ IsPartBody db bytes
