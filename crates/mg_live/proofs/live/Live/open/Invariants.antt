use Rattle.std.proofs.Common.{◌≡◌, ◌+◌}
use Rattle.mg_live.specs.SeatView.{new_seats}
use Rattle.mg_live.proofs.live.Live.open.Given as goal

-- each seat so far has one part of the ledger, and the other parts are left
abbrev pub invariant-loop-number : goal.invariant-loop-number
invariant-loop-number g l =
    record {
      parts : l.all.parts + l.number ≡ l.seats;
      amount : l.all.amount ≡ 0;
      each : l.each.items ≡ new_seats l.number;
    }
