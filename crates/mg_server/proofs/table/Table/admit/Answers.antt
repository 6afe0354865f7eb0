use Rattle.std.proofs.Common.{◌≡◌, ◌∙◌, ◌+◌, None, arith, ap, refl, sym}
use Rattle.slab.specs.Slab.{get}
use Rattle.mg_server.specs.Places.{held_of, number_above, turns_of}
use Rattle.mg_server.proofs.TableLemmas.{Updates-reserved, bound_update, get-reserved, queue_stays, sum_update}
use Rattle.mg_server.proofs.table.Table.admit.Goals as goal

pub invariant_of-self-2 : goal.invariant_of-self-2
invariant_of-self-2 g c =
    let kept = c.reserve.ensures.rest_kept in
    let up = Updates-reserved c.args.self.now.entries c.reserve.new.self c.insert_reserved.new.self c.insert_reserved.result _ kept c.insert_reserved.ensures.updates in
    let empty : get c.args.self.now.entries c.insert_reserved.result ≡ None = sym (get-reserved c.args.self.now.entries c.reserve.new.self kept c.insert_reserved.result) ∙ c.insert_reserved.ensures.was_vacant in
    record {
      queued_once = queue_stays turns_of c.args.self.now.queue.items c.args.self.now.entries c.insert_reserved.new.self c.insert_reserved.result _ up c.args.self.now.queued_once (sym (ap turns_of empty));
      counted = omega (arith, sum_update held_of refl c.args.self.now.entries c.insert_reserved.new.self c.insert_reserved.result _ up, ap held_of empty, c.args.self.now.counted);
      bounded = c.args.self.now.bounded;
      numbered = bound_update number_above c.args.self.now.entries c.insert_reserved.new.self c.insert_reserved.result _ (c.args.self.now.admitted + 1) up (omega arith) (λ k. omega (arith, c.args.self.now.numbered k));
    }
