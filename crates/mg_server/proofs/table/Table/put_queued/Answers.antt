use Rattle.std.proofs.Common.{◌≡◌, ◌∙◌, ℕ, List, [], ◌∷◌, ◌++◌, None, arith, ap, refl, subst, sym}
use Rattle.mg_server.specs.Places.{turns_of}
use Rattle.mg_server.proofs.EntryLemmas.{push_entry}
use Rattle.mg_server.proofs.TableLemmas.{QueuedOnce}
use Rattle.mg_server.proofs.table.Table.put_queued.Goals as goal

pub invariant_of-self-2 : goal.invariant_of-self-2
invariant_of-self-2 g c =
    let k = push_entry c.args.self.now.entries c.insert_reserved-index.new.self c.insert_reserved-index.result None _ c.args.self.now.queue.items c.args.self.now.held c.args.self.now.admitted c.insert_reserved-index.ensures.updates
    (sym c.insert_reserved-index.ensures.was_vacant) c.requires.number c.args.self.now.queued_once c.args.self.now.counted c.args.self.now.numbered refl refl in
    let queue : c.args.self.now.queue.items ++ c.insert_reserved-index.result ∷ [] ≡ c.push_back_reserved.new.self.items = sym (c.push_back_reserved.ensures.items ∙ ap (λ (q : List ℕ). q ++ c.insert_reserved-index.result ∷ []) c.reserve.ensures.items) in
    record {
      queued_once = subst (λ (q : List ℕ). QueuedOnce turns_of q c.insert_reserved-index.new.self) queue k.once;
      counted = omega (arith, k.weighs);
      bounded = c.requires.held;
      numbered = k.numbered;
    }
