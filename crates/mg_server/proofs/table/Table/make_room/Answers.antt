use Rattle.std.proofs.Common.{arith}
use Rattle.mg_server.proofs.ClosingLemmas.{closes_then}
use Rattle.mg_server.proofs.table.Table.make_room.Goals as goal

pub loop-self-preserved : goal.loop-self-preserved
loop-self-preserved g c =
    let before = c.loop-self.self in
    let taken = c.in-Some.ensures.taken in
    record {
      closes = closes_then c.args.wanted before.held c.args.self.now.entries before.entries c.take_stillest.new.self.entries taken.0 c.in-Some.item c.loop-self.invariant.closes before.counted
          (omega (arith, c.if-wanted-gt-MOST_HELD.false)) (omega (arith, c.loop-self-test.true)) taken.1 taken.2 taken.3;
      queue = search;
    }
