-- Where the connections of an edge are. Each waits for an event, or is queued for a visit, or is in the hand of one thread.
use Rattle.std.specs.Prelude.{◌≡◌, ℕ, ◌+◌, Bool, true, false, Option, Some, None}
use Rattle.mg_server.specs.declared.place.Stay.{Stay}
use Rattle.mg_server.specs.declared.place.Place.{Place}
use Rattle.mg_server.specs.declared.place.Place.TheVariants.{Waiting, Queued, InHand}
use Rattle.mg_server.specs.declared.place.Entry.{Entry}

module _ {T : Type 0} where
  -- how often the queue names the connection of this place
  abbrev pub queue_turns : Place T → ℕ
  queue_turns (Waiting item stay) = 0
  queue_turns (Queued item stay) = 1
  queue_turns (InHand called) = 0

  -- the bytes of memory that the connection holds while no thread has it
  abbrev pub place_held : Place T → ℕ
  place_held (Waiting item stay) = stay.held
  place_held (Queued item stay) = stay.held
  place_held (InHand called) = 0

  -- the place after an event: a connection that waits comes to a thread's hand, and a thread that has it in hand already will visit it again
  abbrev pub after_event : Place T → Place T
  after_event (Waiting item stay) = InHand false
  after_event (Queued item stay) = Queued item stay
  after_event (InHand called) = InHand true

  -- what an event puts into a thread's hand
  abbrev pub came_to_hand : Place T → Option (T × Stay)
  came_to_hand (Waiting item stay) = Some (item, stay)
  came_to_hand (Queued item stay) = None
  came_to_hand (InHand called) = None

  -- whether the connection waits for an event
  abbrev pub place_waits : Place T → Bool
  place_waits (Waiting item stay) = true
  place_waits (Queued item stay) = false
  place_waits (InHand called) = false

  -- ---- what the table has at a key; `None`: no connection

  abbrev pub is_waiting : Option (Entry T) → Bool
  is_waiting None = false
  is_waiting (Some entry) = place_waits entry.place

  abbrev pub turns_of : Option (Entry T) → ℕ
  turns_of None = 0
  turns_of (Some entry) = queue_turns entry.place

  abbrev pub held_of : Option (Entry T) → ℕ
  held_of None = 0
  held_of (Some entry) = place_held entry.place

  -- one more than the number of the connection
  abbrev pub number_above : Option (Entry T) → ℕ
  number_above None = 0
  number_above (Some entry) = entry.number + 1

  abbrev pub waiting : ℕ → T → Stay → Option (Entry T)
  waiting number item stay = Some (record { number = number; place = Waiting item stay })

  abbrev pub queued : ℕ → T → Stay → Option (Entry T)
  queued number item stay = Some (record { number = number; place = Queued item stay })

  abbrev pub in_hand : ℕ → Bool → Option (Entry T)
  in_hand number called = Some (record { number = number; place = InHand called })

  -- a key after an event
  abbrev pub entry_called : Option (Entry T) → Option (Entry T)
  entry_called None = None
  entry_called (Some entry) = Some (record { number = entry.number; place = after_event entry.place })

  -- the connection of this number, which waited, came to a thread's hand
  pub record TakesWaiting (old new : Option (Entry T)) (number : ℕ) (item : T) : Type 0 where
    pub stay : Stay
    pub waited : old ≡ waiting number item stay
    pub taken : new ≡ in_hand number false

  -- the connection of this number, which was queued, came to a thread's hand
  pub record TakesQueued (old new : Option (Entry T)) (number : ℕ) (item : T) : Type 0 where
    pub stay : Stay
    pub waited : old ≡ queued number item stay
    pub taken : new ≡ in_hand number false
