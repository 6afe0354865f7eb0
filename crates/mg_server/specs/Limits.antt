-- How long a connection may take.
use Rattle.std.specs.Prelude.{ℕ, Bool, true, false, ◌&&◌, ◌||◌, not, if◌then◌else◌}
use Rattle.mg_server.specs.declared.limits.Phase.{Phase}
use Rattle.mg_server.specs.declared.limits.Phase.TheVariants.{Silent, Receiving, Replying, Leaving}
use Rattle.mg_server.specs.declared.limits.Moved.{Moved}
use Rattle.mg_server.specs.declared.limits.Pace.{Pace}

-- the most microseconds in a phase: 60 seconds for a message and for its replies, 5 seconds of silence and for the client's leaving
abbrev pub most_micros : Phase → ℕ
most_micros Silent = 5000000
most_micros Receiving = 60000000
most_micros Replying = 60000000
most_micros Leaving = 5000000

-- whether the phase begins anew in a visit in which it does not change
abbrev pub is_renewed : Phase → Moved → Bool
is_renewed Silent moved = moved.has_read || moved.has_written
is_renewed Receiving moved = moved.has_written
is_renewed Replying moved = moved.has_read
is_renewed Leaving moved = false

-- whether two phases are the same
abbrev pub is_same_phase : Phase → Phase → Bool
is_same_phase Silent Silent = true
is_same_phase Receiving Receiving = true
is_same_phase Replying Replying = true
is_same_phase Leaving Leaving = true
is_same_phase _ _ = false

-- the pace after a visit
abbrev pub pace_after : Pace → Phase → Moved → ℕ → Pace
pace_after pace phase moved now = record {
  phase = phase;
  began = if is_same_phase phase pace.phase && not (is_renewed phase moved) then pace.began else now;
  stirred = if moved.has_read || moved.has_written then now else pace.stirred;
}
