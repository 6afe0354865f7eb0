-- What a turn of a conversation read and wrote.
use Rattle.std.specs.Prelude.{◌≡◌, ⊤, ℕ, List, [], ◌++◌, Option, Result, Ok, Err}
use Rattle.std.specs.Io.KnownBytes.{Appends, Consumes}
use Rattle.mg_server.specs.declared.turns.Outcome.{Outcome}
use Rattle.mg_server.specs.declared.turns.Outcome.TheVariants.{Wrote, Read, Ended, NoMemory, Done}
use Rattle.mg_server.specs.declared.turns.Fault.{Fault}
use Rattle.mg_server.specs.declared.turns.Fault.TheVariants as fault

-- the bytes that the reader gave went to the end of those that were received. `old` and `new`: what the reader still holds (`None`: not known)
abbrev pub HasRead : Option (List ℕ) → Option (List ℕ) → List ℕ → List ℕ → Type 0
HasRead old new before after = (more : List ℕ) × Consumes old new more × (after ≡ before ++ more)

-- the bytes that were sent went to the writer. `old` and `new`: what the writer holds (`None`: not known)
abbrev pub HasWrote : Option (List ℕ) → Option (List ℕ) → List ℕ → List ℕ → Type 0
HasWrote old new before after = (more : List ℕ) × Appends old new more × (after ≡ before ++ more)

-- the turn called the reader, or would have if there had been memory
abbrev pub IsOfReader : Outcome → Type 0
IsOfReader (Read n) = ⊤
IsOfReader Ended = ⊤
IsOfReader NoMemory = ⊤
IsOfReader (Wrote n) = ⊥
IsOfReader Done = ⊥

-- the turn called no reader
abbrev pub IsOfWriter : Outcome → Type 0
IsOfWriter (Wrote n) = ⊤
IsOfWriter Done = ⊤
IsOfWriter (Read n) = ⊥
IsOfWriter Ended = ⊥
IsOfWriter NoMemory = ⊥

-- a turn that came to the reader
abbrev pub Reads : Result Outcome Fault → Type 0
Reads (Ok outcome) = IsOfReader outcome
Reads (Err (fault.Read e)) = ⊤
Reads (Err (fault.Write e)) = ⊥

-- a turn that did not come to the reader
abbrev pub Writes : Result Outcome Fault → Type 0
Writes (Ok outcome) = IsOfWriter outcome
Writes (Err (fault.Write e)) = ⊤
Writes (Err (fault.Read e)) = ⊥

-- before the turn came to the reader, all that had been received was answered, and all of the answers were sent
abbrev pub RestedBefore : {C : Type 0} → (C → Type 0) → (C → List ℕ) → (C → List ℕ) → C → C → Type 0
RestedBefore {C} rests pending received old new =
    (mid : C) × rests mid × (received mid ≡ received old) × (pending mid ≡ []) × (pending new ≡ [])
