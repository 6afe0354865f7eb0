use Rattle.std.proofs.Common.{None, arith, refl, sym}
use Rattle.mg_server.proofs.EntryLemmas.{swap_entry}
use Rattle.mg_server.proofs.table.Table.put_waiting.Goals as goal

pub invariant_of-self : goal.invariant_of-self
invariant_of-self g c =
    let k = swap_entry c.args.self.now.entries c.insert_reserved.new.self c.insert_reserved.result None _ c.args.self.now.queue.items c.args.self.now.held c.args.self.now.admitted c.insert_reserved.ensures.updates
    (sym c.insert_reserved.ensures.was_vacant) c.requires.number c.args.self.now.queued_once c.args.self.now.counted c.args.self.now.numbered refl in
    record {
      queued_once = k.once;
      counted = omega (arith, k.weighs);
      bounded = c.requires.held;
      numbered = k.numbered;
    }
