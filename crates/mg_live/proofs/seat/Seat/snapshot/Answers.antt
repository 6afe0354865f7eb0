use Rattle.mg_live.specs.SeatView.{SeatView}
use Rattle.mg_live.specs.View.{commits_view}
use Rattle.mg_live.proofs.Publishing.{later_same}
use Rattle.mg_live.proofs.seat.Seat.snapshot.Goals as goal

pub returns-then-not-begins-clause-later : goal.returns-then-not-begins-clause-later
returns-then-not-begins-clause-later g c =
    let s = c.self.inside in
    let old : SeatView = record { number = s.number; seen = commits_view s.prefix.seen.log; tally = s.tally } in
    rw (← c.self.view_is) (later_same old)
