-- What one change of the table keeps: the queue, the sum of what is held, and the numbers.
use Rattle.std.proofs.Common.{◌≡◌, ◌∙◌, ℕ, ◌+◌, ◌≤◌, List, [], ◌∷◌, ◌++◌, Option, Some, arith, ap, refl, subst, sym}
use Rattle.std.specs.List.{sum_by}
use Rattle.slab.specs.Slab.{Slab, get, Updates}
use Rattle.mg_server.specs.Places.{held_of, number_above, turns_of}
use Rattle.mg_server.specs.declared.place.Entry.{Entry}
use Rattle.mg_server.proofs.PlaceLemmas.{turns_most}
use Rattle.mg_server.proofs.TableLemmas.{QueuedOnce, bound_update, queue_grows, queue_shrinks, queue_stays, sum_update}

module _ {T : Type 0} where
  -- what holds of the table after an entry took the place of another. `held`: what was held before
  pub record Swapped (queue : List ℕ) (held admitted : ℕ) (new : Slab (Entry T)) (old_entry new_entry : Option (Entry T)) : Type 0 where
    pub once : QueuedOnce turns_of queue new
    pub weighs : sum_by held_of new.slots + held_of old_entry ≡ held + held_of new_entry
    pub numbered : (k : ℕ) → number_above (get new k) ≤ admitted

  module _ (old new : Slab (Entry T)) (key : ℕ) (old_entry new_entry : Option (Entry T)) (queue : List ℕ) (held admitted : ℕ)
      (up : Updates old new key new_entry) (here : old_entry ≡ get old key) (number : number_above new_entry ≤ admitted)
      (once : QueuedOnce turns_of queue old) (counted : held ≡ sum_by held_of old.slots) (numbered : (k : ℕ) → number_above (get old k) ≤ admitted) where
    weighs_is : sum_by held_of new.slots + held_of old_entry ≡ held + held_of new_entry
    weighs_is = omega (arith, sum_update held_of refl old new key new_entry up, ap held_of here, counted)

    numbers_are : (k : ℕ) → number_above (get new k) ≤ admitted
    numbers_are = bound_update number_above old new key new_entry admitted up number numbered

    -- the queue stays
    pub swap_entry : turns_of new_entry ≡ turns_of old_entry → Swapped queue held admitted new old_entry new_entry
    swap_entry same = record { once = queue_stays turns_of queue old new key new_entry up once (same ∙ ap turns_of here); weighs = weighs_is; numbered = numbers_are }

    -- the key goes to the end of the queue
    pub push_entry : turns_of old_entry ≡ 0 → turns_of new_entry ≡ 1 → Swapped (queue ++ key ∷ []) held admitted new old_entry new_entry
    push_entry before after = record { once = queue_grows turns_of queue old new key new_entry up once (sym (ap turns_of here) ∙ before) after; weighs = weighs_is; numbered = numbers_are }

  -- the key comes from the front of the queue
  pub pop_entry : (old new : Slab (Entry T)) (key : ℕ) (entry : Entry T) (new_entry : Option (Entry T)) (queue rest : List ℕ) (held admitted : ℕ)
      → Updates old new key new_entry → Some entry ≡ get old key → number_above new_entry ≤ admitted
      → QueuedOnce turns_of queue old → held ≡ sum_by held_of old.slots → ((k : ℕ) → number_above (get old k) ≤ admitted)
      → queue ≡ key ∷ rest → turns_of new_entry ≡ 0 → Swapped rest held admitted new (Some entry) new_entry
  pop_entry old new key entry new_entry queue rest held admitted up here number once counted numbered front none =
      record {
        once = queue_shrinks turns_of queue rest old new key new_entry up once front (subst (λ (e : Option (Entry T)). turns_of e ≤ 1) here (turns_most entry.place)) none;
        weighs = weighs_is old new key (Some entry) new_entry queue held admitted up here number once counted numbered;
        numbered = numbers_are old new key (Some entry) new_entry queue held admitted up here number once counted numbered;
      }
