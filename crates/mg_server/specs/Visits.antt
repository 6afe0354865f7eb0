-- What a service does: it visits clients, one after another.
use Rattle.std.specs.Prelude.{◌≡◌, List, [], ◌∷◌}

-- `follows a b`: a client that was answered from the state `a` may be answered from the state `b` next. `told a c b`: the conversation `c` is
-- right, from the state `a` before its first answer to the state `b` after its last
module _ {S C : Type 0} (follows : S → S → Type 0) (told : S → C → S → Type 0) where
  -- the service of the state `old` learned what a client had seen, and answered it. The conversation was right, and is
  pub record IsVisit (old : S) (before after : C) (new : S) : Type 0 where
    pub learned : S
    pub kept : follows old learned
    pub right : (from now : S) → told from before now → follows now learned → told from after new

  -- these visits took the service from the state `old` to the state `new`. A visit is a conversation before and after it
  abbrev pub Visits : S → List (C × C) → S → Type 0
  Visits old [] new = new ≡ old
  Visits old (visit ∷ rest) new = (mid : S) × IsVisit old visit.0 visit.1 mid × Visits mid rest new

  -- visits, one after another, took the service from the state `old` to the state `new`
  pub record HasVisited (old new : S) : Type 0 where
    pub visits : List (C × C)
    pub each : Visits old visits new
