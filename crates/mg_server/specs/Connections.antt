-- What a connection is about, what it holds, and how long its client pauses.
use Rattle.std.specs.Prelude.{◌≡◌, ℕ, ◌+◌, ◌-◌, ◌<◌, ◌^◌, ◌⊎◌, min, Bool, true, false, not, ◌&&◌, ◌||◌, nat_le, List, [], length, if◌then◌else◌}
use Rattle.slab.specs.Slab.{Slab, SameValues, Updates}
use Rattle.mg_server.specs.Limits.{is_same_phase, most_micros, pace_after}
use Rattle.mg_server.specs.Places.{waiting}
use Rattle.mg_server.specs.declared.connection.Connection.{Connection}
use Rattle.mg_server.specs.declared.connection.Talk.{Talk}
use Rattle.mg_server.specs.declared.connection.Talk.TheVariants.{Serving, Leaving}
use Rattle.mg_server.specs.declared.connection.Tempo.{Tempo}
use Rattle.mg_server.specs.declared.connection.Tempo.TheVariants.{New, Quick, Slow}
use Rattle.mg_server.specs.declared.limits.Moved.{Moved}
use Rattle.mg_server.specs.declared.limits.Pace.{Pace}
use Rattle.mg_server.specs.declared.limits.Phase.{Phase}
use Rattle.mg_server.specs.declared.limits.Phase.TheVariants.{Silent, Receiving, Replying}
use Rattle.mg_server.specs.declared.place.Entry.{Entry}

-- the bytes of memory that the conversation of a connection holds
abbrev pub talk_held : {C K : Type 0} → (C → ℕ) → Talk C K → ℕ
talk_held held (Serving client) = held client.conversation
talk_held held (Leaving left) = 0

-- whether two tempos are the same
abbrev pub is_same_tempo : Tempo → Tempo → Bool
is_same_tempo New New = true
is_same_tempo Quick Quick = true
is_same_tempo Slow Slow = true
is_same_tempo _ _ = false

-- whether a client sends its next message soon: it is quick, and has its replies
abbrev pub is_quick : Tempo → Phase → Bool
is_quick tempo phase = is_same_tempo tempo Quick && (is_same_phase phase Silent || is_same_phase phase Receiving)

-- The tempo once a thread has the connection in hand. A silence was a pause: after one of at most 1,000 microseconds a client is quick, unless
-- it sends its first message.
abbrev pub tempo_after : Pace → Tempo → ℕ → Tempo
tempo_after pace tempo now =
    if is_same_phase pace.phase Silent
    then (if nat_le (now - pace.stirred) 1000 && not (is_same_tempo tempo New) then Quick else Slow)
    else tempo

-- A new connection waits in the table until the time of its phase is over, and holds nothing; or it was closed, and the others stay. `key`: the
-- next key; `number`: that of the connection.
abbrev pub IsAdmitted : {C K : Type 0} → Slab (Entry (Connection C K)) → Slab (Entry (Connection C K)) → ℕ → ℕ → Connection C K → ℕ → Type 0
IsAdmitted old new key number connection now =
    SameValues old new
    ⊎ Updates old new key (waiting number connection
    (record { held = 0; stirred = now; deadline = min (connection.pace.began + most_micros connection.pace.phase) (2 ^ 64 - 1) }))

module _ {C : Type 0} (pending : C → List ℕ) (idle : C → Type 0) where
  -- a conversation is in this phase: a reply waits to be read, or no message has begun, or one has
  pub record IsAbout (conversation : C) (phase : Phase) : Type 0 where
    pub replying : 0 < length (pending conversation) → phase ≡ Replying
    pub silent : pending conversation ≡ [] → idle conversation → phase ≡ Silent
    pub receiving : pending conversation ≡ [] → (idle conversation → ⊥) → phase ≡ Receiving

  -- the pace after a visit, at this time, that moved bytes as `moved` says; it stays while the client leaves
  abbrev pub IsPaced : {K : Type 0} → Talk C K → Pace → Moved → ℕ → Pace → Type 0
  IsPaced (Serving client) old moved now new = (phase : Phase) × IsAbout client.conversation phase × (new ≡ pace_after old phase moved now)
  IsPaced (Leaving left) old moved now new = new ≡ old
