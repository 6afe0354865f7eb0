use Rattle.std.proofs.Common.{◌+◌, sym, subst, ◌∙◌, take}
use Rattle.mg_machine.specs.Machine.{machine_after, opened}
use Rattle.mg_machine.specs.Seats.{SeatsStandFor}
use Rattle.mg_machine.specs.View.{event_view, events_view}
use Rattle.mg_machine.proofs.Replies.{event_at, machine_more, said_more, seen_all, seen_more, some_more}
use Rattle.mg_machine.proofs.interleave.replay.Goals as goal

pub happen-requires : goal.happen-requires
happen-requires g c =
    let l = c.loop-event in
    (c.type_bounds.sync-R, rw l.invariant.number (event_at c.args.seats c.args.events.now l.event-index c.event-item.result c.requires c.loop-event-test.true c.event-item.is))

pub loop-event-preserved : goal.loop-event-preserved
loop-event-preserved g c =
    let l = c.loop-event in
    let db = c.args.db.now in
    let start = opened c.args.seats in
    let done = events_view (take l.event-index c.args.events.now) in
    let longer = events_view (take (l.event-index + 1) c.args.events.now) in
    let event = event_view c.event-item.result in
    let more = seen_more c.args.events.now l.event-index c.event-item.result c.loop-event-test.true c.event-item.is in
    let did = c.in_ok-reply.ensures.follow db (machine_after db start done) l.invariant.follow in
    let pushed = c.in_ok-push.ensures.items in
    record {
      number = c.in_ok-reply.ensures.number ∙ l.invariant.number;
      follow = subst (SeatsStandFor db c.happen.new.at) (sym (machine_more db start done longer event more)) did.2;
      replies = said_more db start done longer event l.replies.items c.push.new.self.items c.in_ok-reply.reply more pushed did.0 l.invariant.replies;
      some = some_more db start done longer event l.replies.items c.push.new.self.items c.in_ok-reply.reply more pushed did.1 l.invariant.some;
    }

pub returns-clause-replies : goal.returns-clause-replies
returns-clause-replies g c =
    let l = c.loop-event in
    rw (seen_all c.args.events.now l.event-index c.loop-event-test.false) at l.invariant.replies

pub returns-clause-some : goal.returns-clause-some
returns-clause-some g c =
    let l = c.loop-event in
    rw (seen_all c.args.events.now l.event-index c.loop-event-test.false) at l.invariant.some
