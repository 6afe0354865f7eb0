use Rattle.std.proofs.Common.{ℕ, ◌<◌, ◌≤◌, get_or, length}
use Rattle.mg_live.specs.SeatView.{SeatView}
use Rattle.mg_live.proofs.live.has_seen_more.Given as goal

-- no seat so far has seen more than `made` commits
abbrev pub invariant-loop-seat : goal.invariant-loop-seat
invariant-loop-seat g l = (k : ℕ) (d : SeatView) → k < l.seat-index → length (get_or l.seats k d).seen ≤ l.made
