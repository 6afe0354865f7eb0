use Rattle.std.proofs.Common.{ap, sym, ◌∙◌}
use Rattle.mg_engine.specs.View.{command_view, reply_view}
use Rattle.mg_live.specs.View.{commits_view}
use Rattle.mg_live.specs.SeatView.{SeatView}
use Rattle.mg_live.proofs.Publishing.{wrote}
use Rattle.mg_live.proofs.seat.Seat.commit.Goals as goal

pub returns : goal.returns
returns g c =
    let s = c.self.inside in
    let old : SeatView = record { number = s.number; seen = commits_view s.prefix.seen.log; tally = s.tally } in
    let seat = c.requires.seat ∙ ap (λ (v : SeatView). v.number) (sym c.self.view_is) in
    rw (← c.self.view_is) (wrote g.D.Database.db old _ (command_view c.args.write.command.value) (reply_view c.write.result.0) _ (rw seat at c.write.ensures.publishes))
