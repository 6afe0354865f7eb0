use Rattle.std.proofs.Common.{◌≡◌, ◌∙◌, ◌+◌, Some, None, arith, ap, sym}
use Rattle.std.specs.List.{sum_by}
use Rattle.mg_server.specs.Places.{after_event, came_to_hand, held_of, number_above, place_held, queue_turns}
use Rattle.mg_server.proofs.EntryLemmas.{swap_entry}
use Rattle.mg_server.proofs.PlaceLemmas.{came_waited, held_after_event, turns_after_event}
use Rattle.mg_server.proofs.TableLemmas.{Updates-through}
use Rattle.mg_server.proofs.table.Table.call.Goals as goal

pub invariant_of-self-in-Break-branch-2 : goal.invariant_of-self-in-Break-branch-2
invariant_of-self-in-Break-branch-2 g c =
    let e = c.in_ok-number.field-0 in
    let is = c.called-place.ensures.place in
    let here = c.in_ok-number.ensures.value in
    let came : came_to_hand e.place ≡ None = sym c.called-place.ensures.taken ∙ c.in_err-item.was in
    let up = Updates-through c.args.self.now.entries c.try_remove.new.self c.insert_reserved.new.self c.args.index c.insert_reserved.result None _ c.try_remove.ensures.updates (c.insert_reserved.ensures.key ∙ c.in_ok-number.ensures.key_is_next) c.insert_reserved.ensures.updates in
    let k = swap_entry c.args.self.now.entries c.insert_reserved.new.self c.args.index (Some e) _ c.args.self.now.queue.items c.args.self.now.held c.args.self.now.admitted up here
    (omega (arith, c.args.self.now.numbered c.args.index, ap number_above here)) c.args.self.now.queued_once c.args.self.now.counted c.args.self.now.numbered (ap queue_turns is ∙ turns_after_event e.place) in
    record {
      queued_once = k.once;
      counted = omega (arith, k.weighs, ap place_held is, held_after_event e.place came);
      bounded = c.args.self.now.bounded;
      numbered = k.numbered;
    }

pub invariant_of-self-2 : goal.invariant_of-self-2
invariant_of-self-2 g c =
    let e = c.in_ok-number.field-0 in
    let is = c.called-place.ensures.place in
    let here = c.in_ok-number.ensures.value in
    let waited = came_waited e.place c.in_ok-item.item c.in_ok-item.stay (sym c.called-place.ensures.taken ∙ c.in_ok-item.was) in
    let up = Updates-through c.args.self.now.entries c.try_remove.new.self c.insert_reserved.new.self c.args.index c.insert_reserved.result None _ c.try_remove.ensures.updates (c.insert_reserved.ensures.key ∙ c.in_ok-number.ensures.key_is_next) c.insert_reserved.ensures.updates in
    let k = swap_entry c.args.self.now.entries c.insert_reserved.new.self c.args.index (Some e) _ c.args.self.now.queue.items c.args.self.now.held c.args.self.now.admitted up here
    (omega (arith, c.args.self.now.numbered c.args.index, ap number_above here)) c.args.self.now.queued_once c.args.self.now.counted c.args.self.now.numbered (ap queue_turns is ∙ turns_after_event e.place) in
    let counted : c.args.self.now.held ≡ sum_by held_of c.insert_reserved.new.self.slots + c.in_ok-item.stay.held = omega (arith, k.weighs, ap place_held waited, ap place_held (is ∙ ap after_event waited)) in
    record {
      queued_once = k.once;
      counted = omega (arith, counted);
      bounded = omega (arith, c.args.self.now.bounded);
      numbered = k.numbered;
    }
