use Rattle.std.proofs.Common.{◌≤◌, length, subst, sym, ◌∙◌}
use Rattle.mg_machine.specs.Laws.{IsPrefix}
use Rattle.mg_live.specs.View.{commits_view}
use Rattle.mg_live.specs.SeatView.{SeatView}
use Rattle.mg_machine.proofs.Beginnings.{in_turn}
use Rattle.mg_live.proofs.Prefixes.{below_one_more}
use Rattle.mg_live.proofs.live.longest.Goals as goal

pub loop-seat-preserved : goal.loop-seat-preserved
loop-seat-preserved g c =
    let l = c.loop-seat in
    let made = c.args.made in
    let more = c.longer-longest in
    let long = commits_view more.result.seen.log in
    let item : length c.seat-item.result.seen ≤ made = subst (λ (s : SeatView). length s.seen ≤ made) (sym c.seat-item.is) (c.requires.within l.seat-index c.seat-item.result c.loop-seat-test.true) in
    let seat = subst (λ (s : SeatView). length s.seen ≤ made) (sym c.seat.view_is) item in
    let this = subst (λ (s : SeatView). IsPrefix s.seen long) c.seat.view_is more.ensures.other in
    record {
      here = more.ensures.book ∙ l.invariant.here;
      within = more.ensures.within made l.invariant.within seat;
      begins = below_one_more (λ s. IsPrefix s.seen long) c.args.seats.now l.seat-index c.seat-item.result
          (λ k d less. in_turn _ _ _ (l.invariant.begins k d less) more.ensures.this) c.loop-seat-test.true c.seat-item.is this;
    }
