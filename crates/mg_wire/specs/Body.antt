-- How far a request was read.
use Rattle.std.specs.Prelude.{◌≡◌, ◌≢◌, ℕ, ◌<◌, ◌≤◌, List, ◌++◌, length, drop, false}
use Rattle.httparse.specs.Grammar.{RequestHead, MayBecomeRequest}
use Rattle.http1.specs.declared.conn.Limits.{Limits}
use Rattle.http1.specs.declared.conn.Reading.TheVariants as Reads
use Rattle.http1.specs.declared.conn.Writing.TheVariants as Writes
use Rattle.http1.specs.declared.decode.Decoder.{Decoder}
use Rattle.http1.specs.declared.decode.Decoder.TheVariants.{UntilClose}
use Rattle.http1.specs.declared.framing.Framing.{Framing}
use Rattle.http1.specs.Framing.{method_kind}
use Rattle.http1.specs.Body.{Body}
use Rattle.http1.specs.Conn.{keeps_alive}
use Rattle.http1.specs.Decoder.{decoder_for, Completes, with_front}
use Rattle.http1.specs.Message as Wire
use Rattle.http1.specs.Message.{known_of, AcceptsRequest, ReadsRequestMessage}
use Rattle.http1.specs.Server.{reading, writing, has_codings, peer_method, peer_minor}
use Rattle.mg_wire.specs.declared.bounds.Bounds.{Bounds}
use Rattle.mg_wire.specs.declared.body.Begun.{Begun}
use Rattle.mg_wire.specs.declared.body.Step.{Step}
use Rattle.mg_wire.specs.declared.body.Step.TheVariants.{Waits, Goes, Whole}
use Rattle.mg_wire.specs.Request.{HasHead, IsAsked, asks_to_continue}
use Rattle.mg_wire.specs.Target.{IsProper}

-- what was kept of the head
pub record KeepsHead (h : RequestHead) (b : Begun) : Type 0 where
  pub asked : HasHead h b.request
  pub expects : b.expects_continue ≡ asks_to_continue h

-- the server answers the request with this head
pub record Serves (h : RequestHead) (b : Begun) : Type 0 where
  pub method : peer_method b.server ≡ method_kind h.method
  pub minor : peer_minor b.server ≡ h.minor
  pub writing_is : writing b.server ≡ Writes.Head
  pub stays : b.server.request.keep_alive ≡ keeps_alive h.minor (known_of h.fields)
  pub proper : IsProper h
  pub keeps : KeepsHead h b

-- The input begins with a head that was read, and with so much of its body, no more than may be: whatever completes what is left of it,
-- completes it.
pub record IsBegun (bounds : Bounds) (input : List ℕ) (b : Begun) : Type 0 where
  pub head : RequestHead
  pub framing : Framing
  pub decoder : Decoder
  pub after : List ℕ
  pub accepts : (more : List ℕ) → AcceptsRequest bounds.limits (input ++ more) head framing (after ++ more)
  pub serves : Serves head b
  pub reading_is : reading b.server ≡ Reads.Body decoder
  pub within : b.at ≤ length input
  pub moved : 0 < b.at
  pub back : (more : List ℕ) (body : Body) (rest : List ℕ) → Completes decoder (drop b.at input ++ more) body rest
      → Completes (decoder_for bounds.limits framing) (after ++ more) (with_front b.request.body.items body) rest
  pub forth : (more : List ℕ) (whole : Body) (rest : List ℕ) → Completes (decoder_for bounds.limits framing) (after ++ more) whole rest
      → (body : Body) × (whole ≡ with_front b.request.body.items body) × Completes decoder (drop b.at input ++ more) body rest
  pub sized : decoder ≢ UntilClose
  pub fits : length b.request.body.items ≤ bounds.max_body

-- only the head was read
pub record IsFresh (bounds : Bounds) (input : List ℕ) (b : Begun) : Type 0 where
  pub begun : IsBegun bounds input b
  pub coded : has_codings b.server ≡ (known_of begun.head.fields).other_coding

-- Whatever follows, the input begins with the request that was read, whose body is no longer than may be.
pub record IsWhole (bounds : Bounds) (input : List ℕ) (b : Begun) : Type 0 where
  pub message : Wire.Request
  pub reads : (more : List ℕ) → ReadsRequestMessage bounds.limits (input ++ more) message (drop b.at input ++ more)
  pub asked : IsAsked message b.request
  pub serves : Serves message.head b
  pub reading_is : reading b.server ≡ Reads.Done
  pub continued : b.server.request.expects_continue ≡ false
  pub within : b.at ≤ length input
  pub moved : 0 < b.at
  pub fits : length b.request.body.items ≤ bounds.max_body

-- the stream begins with no whole request
abbrev pub HasNoMessage : Limits → List ℕ → Type 0
HasNoMessage limits stream = (m : Wire.Request) (rest : List ℕ) → ¬ (ReadsRequestMessage limits stream m rest)

-- the stream begins with no whole request, and some bytes can follow that make it a head within the limit
abbrev pub AwaitsHead : Limits → List ℕ → Type 0
AwaitsHead limits stream = HasNoMessage limits stream × MayBecomeRequest stream × (length stream < limits.max_head_len)

-- what a step found
abbrev pub StepsTo : Bounds → List ℕ → ℕ → Begun → Step → Type 0
StepsTo bounds input at new Waits = IsBegun bounds input new × HasNoMessage bounds.limits input
StepsTo bounds input at new Goes = IsBegun bounds input new × (at < new.at)
StepsTo bounds input at new Whole = IsWhole bounds input new × (at ≤ new.at)

-- how far a step went
abbrev pub Moves : List ℕ → ℕ → ℕ → Step → Type 0
Moves input at new Waits = Unit {0}
Moves input at new Goes = (at < new) × (new ≤ length input)
Moves input at new Whole = at ≤ new
