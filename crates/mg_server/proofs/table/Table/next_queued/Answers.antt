use Rattle.std.proofs.Common.{◌≡◌, ◌∙◌, ◌+◌, None, arith, ap, refl}
use Rattle.std.specs.List.{sum_by}
use Rattle.mg_server.specs.Places.{held_of, number_above, place_held}
use Rattle.mg_server.proofs.EntryLemmas.{pop_entry}
use Rattle.mg_server.proofs.TableLemmas.{Updates-through}
use Rattle.mg_server.proofs.table.Table.next_queued.Goals as goal

pub invariant_of-self-2 : goal.invariant_of-self-2
invariant_of-self-2 g c =
    let e = c.in-Some.field-0 in
    let here = c.in-Some.ensures.value in
    let up = Updates-through c.args.self.now.entries c.try_remove.new.self c.insert_reserved.new.self c.in_ok-index.index c.insert_reserved.result None _ c.try_remove.ensures.updates (c.insert_reserved.ensures.key ∙ c.in-Some.ensures.key_is_next) c.insert_reserved.ensures.updates in
    let k = pop_entry c.args.self.now.entries c.insert_reserved.new.self c.in_ok-index.index e _ c.args.self.now.queue.items c.pop_front.new.self.items c.args.self.now.held c.args.self.now.admitted up here
    (omega (arith, c.args.self.now.numbered c.in_ok-index.index, ap number_above here)) c.args.self.now.queued_once c.args.self.now.counted c.args.self.now.numbered c.in_ok-index.ensures.items refl in
    let counted : c.args.self.now.held ≡ sum_by held_of c.insert_reserved.new.self.slots + c.from_queue-item.result.1.held = omega (arith, k.weighs, ap place_held c.from_queue-item.ensures) in
    record {
      queued_once = k.once;
      counted = omega (arith, counted);
      bounded = omega (arith, c.args.self.now.bounded);
      numbered = k.numbered;
    }
