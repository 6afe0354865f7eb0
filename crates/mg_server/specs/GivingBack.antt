-- How a thread gives a connection back.
use Rattle.std.specs.Prelude.{◌≡◌, ◌≢◌, ℕ, ◌<◌, ◌⊎◌, List, [], ◌∷◌, ◌++◌, Bool, true, None, Option, if◌then◌else◌}
use Rattle.slab.specs.Slab.{Slab, get}
use Rattle.mg_server.specs.Closing.{Closes, IsMade, still_time}
use Rattle.mg_server.specs.Places.{in_hand, queued, waiting}
use Rattle.mg_server.specs.declared.place.Entry.{Entry}
use Rattle.mg_server.specs.declared.place.Stay.{Stay}
use Rattle.mg_server.specs.declared.place.Rest.{Rest}
use Rattle.mg_server.specs.declared.place.Rest.TheVariants as rest
use Rattle.mg_server.specs.declared.limits.TheConstants.{MOST_HELD}

-- whether the connection is queued: the thread asks for another visit, or an event came while it had the connection in hand
abbrev pub queues : Rest → Bool → Bool
queues rest.Visit called = true
queues rest.Event called = called

module _ {T : Type 0} where
  -- a thread has the connection of this number in hand
  abbrev pub IsInHand : ℕ → Option (Entry T) → Type 0
  IsInHand number entry = (called : Bool) × (entry ≡ in_hand number called)

  -- the connection that was in hand waits, or is queued behind the others. `queue` and `next`: the queue before and after
  pub record GivesBack (queue next : List ℕ) (old new : Option (Entry T)) (index number : ℕ) (item : T) (r : Rest) (stay : Stay) : Type 0 where
    pub called : Bool
    pub was : old ≡ in_hand number called
    pub is : new ≡ (if queues r called then queued number item stay else waiting number item stay)
    pub later : next ≡ (if queues r called then queue ++ index ∷ [] else queue)

  -- The connection has to be queued, for which memory may be refused.
  abbrev pub NeedsQueue : ℕ → Rest → Option (Entry T) → Type 0
  NeedsQueue number r entry = (called : Bool) × (entry ≡ in_hand number called) × (queues r called ≡ true)

  -- what a connection that is given back and holds this many bytes changes beside its own key: connections were closed to make room for it
  pub record MakesRoom (held index : ℕ) (old new : Slab (Entry T)) : Type 0 where
    pub mid : Slab (Entry T)
    pub closes : Closes held old mid
    pub made : IsMade held mid
    pub others : (k : ℕ) → k ≢ index → get new k ≡ get mid k

  -- there is no room for this many bytes: they are too many alone, or no other connection can be closed for them
  abbrev pub IsFull : ℕ → ℕ → Slab (Entry T) → Type 0
  IsFull held index entries = (MOST_HELD < held) ⊎ ((k : ℕ) → k ≢ index → still_time 1 (get entries k) ≡ None)
