use Rattle.std.proofs.Common.{◌≡◌, ◌≤◌, ℕ, ◌<◌, get_or, length}
use Rattle.mg_machine.specs.Laws.{IsPrefix}
use Rattle.mg_live.specs.View.{commits_view}
use Rattle.mg_live.specs.SeatView.{SeatView}
use Rattle.mg_live.proofs.live.longest.Given as goal

-- what each seat so far has seen is a prefix of `longest`
abbrev pub invariant-loop-seat : goal.invariant-loop-seat
invariant-loop-seat g l =
    record {
      here : l.longest.seen.book ≡ g.D.Database.commit_log;
      within : length (commits_view l.longest.seen.log) ≤ l.made;
      begins : (k : ℕ) (d : SeatView) → k < l.seat-index → IsPrefix (get_or l.seats k d).seen (commits_view l.longest.seen.log);
    }
