use Rattle.std.proofs.Common.{◌≡◌, length}
use Rattle.mg_live.specs.SeatView.{all_tallies}
use Rattle.mg_live.proofs.live.join_all.Given as goal

abbrev pub invariant-loop-seat : goal.invariant-loop-seat
invariant-loop-seat g l = (l.all.parts ≡ length l.yielded) × (l.all.amount ≡ all_tallies l.yielded)
