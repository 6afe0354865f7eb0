use Rattle.mg_live.specs.View.{commits_view}
use Rattle.mg_live.specs.SeatView.{SeatView}
use Rattle.mg_live.proofs.Publishing.{learned}
use Rattle.mg_live.proofs.seat.Seat.learn.Goals as goal

pub returns-then-begins : goal.returns-then-begins
returns-then-begins g c =
    let s = c.self.inside in
    let old : SeatView = record { number = s.number; seen = commits_view s.prefix.seen.log; tally = s.tally } in
    rw (← c.self.view_is, ← c.seen.view_is, c.again.ensures) (learned old (commits_view c.seen.inside.prefix.seen.log) c.if-begins.ensures.begins)
