-- The records of a session, built from their fields in order, for lemmas over plain variables.
use Rattle.std.specs.Prelude.{ℕ, Bool, List, Option}
use Rattle.mg_engine.specs.Commands.{Answer}
use Rattle.mg_http.specs.declared.sessions.SessionEnd.{SessionEnd}
use Rattle.mg_http.specs.Session.{Handling, Exchange}
use Rattle.mg_http.specs.Transcript.{TextFor, Course}

abbrev pub handling : {S : Type 0} → S → Option Answer → S → Handling S
handling old reply new = record { old = old; reply = reply; new = new }

abbrev pub exchange : {S : Type 0} → S → List ℕ → List ℕ → S → Exchange S
exchange old bytes text new = record { old = old; bytes = bytes; text = text; new = new }

abbrev pub passage : {S : Type 0} → S → List ℕ → List ℕ → TextFor S
passage from bytes text = record { from = from; bytes = bytes; text = text }

abbrev pub course : {S : Type 0} → (List ℕ → Type 0) → (List ℕ → Type 0) → Bool → S → S → SessionEnd → Course S
course read wrote starved old new end = record { read = read; wrote = wrote; starved = starved; old = old; new = new; end = end }
