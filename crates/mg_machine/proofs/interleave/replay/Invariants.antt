use Rattle.std.proofs.Common.{◌≡◌, is_some, map, option_and_then, take, vec_len}
use Rattle.mg_engine.specs.View.{reply_view}
use Rattle.mg_machine.specs.Machine.{machine_after, opened, replies_of_events}
use Rattle.mg_machine.specs.Seats.{SeatsStandFor}
use Rattle.mg_machine.specs.View.{events_view}
use Rattle.mg_machine.proofs.interleave.replay.Given as goal

-- the seats follow the machine after the events so far, and the replies so far are the machine's
abbrev pub invariant-loop-event : goal.invariant-loop-event
invariant-loop-event g l =
    let done = events_view (take l.event-index l.events) in
    let start = opened l.seats in
    record {
      number : vec_len l.at.each ≡ l.seats;
      follow : SeatsStandFor l.db l.at (machine_after l.db start done);
      replies : map (option_and_then reply_view) l.replies.items ≡ replies_of_events l.db start done;
      some : map is_some l.replies.items ≡ map is_some (replies_of_events l.db start done);
    }
