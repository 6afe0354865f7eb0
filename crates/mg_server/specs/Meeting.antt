-- How a client comes from one answer to the next.
use Rattle.std.specs.Prelude.{◌≡◌, Bool, true, false}

-- A client that was last answered from the state `old` may be answered from the state `new` next: it is the same state, or (`true`: the
-- client may go from service to service) one that follows it.
abbrev pub Meets : {S : Type 0} → (S → S → Type 0) → Bool → S → S → Type 0
Meets follows false old new = new ≡ old
Meets follows true old new = follows old new
