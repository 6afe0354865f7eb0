use Rattle.std.proofs.Common.{◌≡◌, ◌≤◌, ◌*◌, take}
use Rattle.mg_live.specs.SeatView.{all_tallies}
use Rattle.mg_live.proofs.live.all_made.Given as goal

-- how many commits the seats so far have made, and a bound on this number
abbrev pub invariant-loop-seat : goal.invariant-loop-seat
invariant-loop-seat g l =
    record {
      sum : l.made ≡ all_tallies (take l.seat-index l.seats);
      bound : l.made ≤ l.seat-index * 18446744073709551615;
    }
