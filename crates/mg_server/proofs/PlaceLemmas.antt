-- What an event does to a place, by cases.
use Rattle.std.proofs.Common.{◌≡◌, ◌≤◌, ℕ, true, false, Option, Some, None, ap, arith, refl}
use Rattle.mg_server.specs.Closing.{place_still_time, still_time}
use Rattle.mg_server.specs.Places.{after_event, came_to_hand, is_waiting, place_held, place_waits, queue_turns}
use Rattle.mg_server.specs.declared.place.Entry.{Entry}
use Rattle.mg_server.specs.declared.place.Stay.{Stay}
use Rattle.mg_server.specs.declared.place.Place.{Place}
use Rattle.mg_server.specs.declared.place.Place.TheVariants.{Waiting, Queued, InHand}

module _ {T : Type 0} where
  -- an event changes no place in the queue
  pub turns_after_event : (p : Place T) → queue_turns (after_event p) ≡ queue_turns p
  turns_after_event (Waiting item stay) = refl
  turns_after_event (Queued item stay) = refl
  turns_after_event (InHand called) = refl

  -- the place of what came to hand
  abbrev place_from : Option (T × Stay) → Place T
  place_from None = InHand false
  place_from (Some x) = Waiting x.0 x.1

  -- what comes to hand waited
  pub came_waited : (p : Place T) (item : T) (stay : Stay) → came_to_hand p ≡ Some (item, stay) → p ≡ Waiting item stay
  came_waited (Waiting i s) item stay came = ap place_from came
  came_waited (Queued i s) item stay came = absurd (cc)
  came_waited (InHand called) item stay came = absurd (cc)

  -- where nothing comes to hand, as much is held as before
  pub held_after_event : (p : Place T) → came_to_hand p ≡ None → place_held (after_event p) ≡ place_held p
  held_after_event (Waiting item stay) came = absurd (cc)
  held_after_event (Queued item stay) came = refl
  held_after_event (InHand called) came = refl

  -- the queue names a connection once at most
  pub turns_most : (p : Place T) → queue_turns p ≤ 1
  turns_most (Waiting item stay) = omega arith
  turns_most (Queued item stay) = omega arith
  turns_most (InHand called) = omega arith

  -- a connection with a time since which it is still waits
  place_still_waits : (least time : ℕ) (p : Place T) → place_still_time least p ≡ Some time → place_waits p ≡ true
  place_still_waits least time (Waiting item stay) still = refl
  place_still_waits least time (Queued item stay) still = absurd (cc)
  place_still_waits least time (InHand called) still = absurd (cc)

  pub still_waits : (least time : ℕ) (entry : Option (Entry T)) → still_time least entry ≡ Some time → is_waiting entry ≡ true
  still_waits least time None still = absurd (cc)
  still_waits least time (Some entry) still = place_still_waits least time entry.place still
