-- Readers and writers that remember whether they failed or got no memory, and prefixes.
use Rattle.std.specs.Prelude.{◌≡◌, ℕ, List, ◌++◌, Bool}
use Rattle.mg_http.specs.declared.sessions.device.Device.{Device}

-- the wrapped reader or writer
abbrev pub inner_of : {T : Type 0} → Device T → T
inner_of d = d.inner

-- a call failed: it returned an error other than `Interrupted`, or was a write of some bytes and took none of them
abbrev pub has_failed : {T : Type 0} → Device T → Bool
has_failed d = d.failed

-- there was no memory for the last read
abbrev pub was_starved : {T : Type 0} → Device T → Bool
was_starved d = d.starved

-- xs is a prefix of ys
abbrev pub IsBytePrefix : List ℕ → List ℕ → Type 0
IsBytePrefix xs ys = (rest : List ℕ) × (xs ++ rest ≡ ys)
