-- Which waiting connections are closed.
use Rattle.std.specs.Prelude.{◌≡◌, ◌≢◌, ℕ, ◌+◌, ◌<◌, ◌≤◌, ◌⊎◌, List, [], ◌∷◌, Bool, false, Option, Some, None, nat_le, nat_lt, if◌then◌else◌}
use Rattle.std.specs.List.{sum_by}
use Rattle.slab.specs.Slab.{Slab, get}
use Rattle.mg_server.specs.Places.{held_of, waiting}
use Rattle.mg_server.specs.declared.limits.TheConstants.{MOST_HELD}
use Rattle.mg_server.specs.declared.place.Stay.{Stay}
use Rattle.mg_server.specs.declared.place.Place.{Place}
use Rattle.mg_server.specs.declared.place.Place.TheVariants.{Waiting, Queued, InHand}
use Rattle.mg_server.specs.declared.place.Entry.{Entry}

-- the earlier of two times, each with its key; at equal times the first
abbrev pub earlier : Option (ℕ × ℕ) → ℕ → Option ℕ → Option (ℕ × ℕ)
earlier None index None = None
earlier None index (Some time) = Some (index, time)
earlier (Some best) index None = Some best
earlier (Some best) index (Some time) = if nat_lt time best.1 then Some (index, time) else Some best

module _ {T : Type 0} where
  -- the connection waits, and its time is over
  abbrev pub is_place_overdue : ℕ → Place T → Bool
  is_place_overdue now (Waiting item stay) = nat_le stay.deadline now
  is_place_overdue now (Queued item stay) = false
  is_place_overdue now (InHand called) = false

  abbrev pub is_overdue : ℕ → Option (Entry T) → Bool
  is_overdue now None = false
  is_overdue now (Some entry) = is_place_overdue now entry.place

  -- what a key has, once the connections are closed that wait and whose time is over
  abbrev pub unless_overdue : ℕ → Option (Entry T) → Option (Entry T)
  unless_overdue now entry = if is_overdue now entry then None else entry

  -- since when the connection has been still; `None`: it does not wait, or holds fewer bytes than `least`
  abbrev pub place_still_time : ℕ → Place T → Option ℕ
  place_still_time least (Waiting item stay) = if nat_le least stay.held then Some stay.stirred else None
  place_still_time least (Queued item stay) = None
  place_still_time least (InHand called) = None

  abbrev pub still_time : ℕ → Option (Entry T) → Option ℕ
  still_time least None = None
  still_time least (Some entry) = place_still_time least entry.place

  -- of the connections that wait and hold at least `least` bytes, this one has been still longest
  pub record IsStillest (entries : Slab (Entry T)) (least index : ℕ) : Type 0 where
    pub time : ℕ
    pub waits : still_time least (get entries index) ≡ Some time
    pub first : (k other : ℕ) → still_time least (get entries k) ≡ Some other → time ≤ other

  -- the connection, which waited, left the table
  pub record TakesOut (old new : Option (Entry T)) (item : T) : Type 0 where
    pub number : ℕ
    pub stay : Stay
    pub waited : old ≡ waiting number item stay
    pub gone : new ≡ None

  -- the connection of this key was closed for want of room for `wanted` bytes: they would fit alone, but were too many. It had been still
  -- longest, of those that wait and hold memory
  pub record ClosesOne (wanted : ℕ) (old : Slab (Entry T)) (key : ℕ) (new : Slab (Entry T)) : Type 0 where
    pub fits : wanted ≤ MOST_HELD
    pub needed : MOST_HELD < sum_by held_of old.slots + wanted
    pub stillest : IsStillest old 1 key
    pub gone : get new key ≡ None
    pub others : (k : ℕ) → k ≢ key → get new k ≡ get old k

  -- the connections of these keys were closed, one after another
  abbrev pub ClosesEach : ℕ → Slab (Entry T) → List ℕ → Slab (Entry T) → Type 0
  ClosesEach wanted old [] new = new ≡ old
  ClosesEach wanted old (key ∷ keys) new = (mid : Slab (Entry T)) × ClosesOne wanted old key mid × ClosesEach wanted mid keys new

  -- connections were closed for want of room for `wanted` bytes; as few as none
  pub record Closes (wanted : ℕ) (old new : Slab (Entry T)) : Type 0 where
    pub keys : List ℕ
    pub each : ClosesEach wanted old keys new

  -- no more connections are closed for `wanted` bytes: they are too many alone, or there is room, or none that waits holds memory
  abbrev pub IsMade : ℕ → Slab (Entry T) → Type 0
  IsMade wanted entries =
      (MOST_HELD < wanted) ⊎ ((sum_by held_of entries.slots + wanted ≤ MOST_HELD) ⊎ ((k : ℕ) → still_time 1 (get entries k) ≡ None))
