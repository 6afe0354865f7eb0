-- For private clauses: the rule of the commit log, and what has been seen of it after a step.
use Rattle.std.specs.Prelude.{ℕ, ◌≡◌, ◌==◌, true, List, [], ◌∷◌, ◌++◌, length}
use Rattle.logbook.specs.Pages.{Book, Cell, Named, Step, View, cell, may_make}
use Rattle.mg_engine.specs.declared.command.Command.{Command}
use Rattle.mg_live.specs.declared.markers.Entry.{Entry}

-- the key of the pen that adds an entry after these, where `key` is that of the first entry's pen
abbrev pub key_after : ℕ → List Entry → ℕ
key_after key [] = key
key_after key (e ∷ es) = key_after e.next es

-- the cells of the pens that added these entries are at home, so nobody has these pens any more
abbrev pub AreUsed : List Cell → ℕ → List Entry → Type 0
AreUsed cells key [] = Unit {0}
AreUsed cells key (e ∷ es) = ((cell cells key).1 ≡ true) × AreUsed cells e.next es

-- the rule. The first word is the length of the commit log. As long as the second word is 0, no pen was taken, so the first pen that is
-- taken gets the key 2. It adds the first entry
pub record IsKept (cells : List Cell) (log : List Entry) : Type 0 where
  pub count : cell cells 0 ≡ (length log, true)
  pub pens : (cell cells 1).1 ≡ true
  pub fresh : (cell cells 1).0 ≡ 0 → (length cells ≡ 2) × (log ≡ [])
  pub used : AreUsed cells 2 log

-- the word that counts the entries
abbrev pub count_word : Book → Named
count_word b = record { tracked = true; key = 0; book = b }

-- the word that is 0 until a pen is taken
abbrev pub pen_word : Book → Named
pen_word b = record { tracked = true; key = 1; book = b }

-- a step that takes a pen, whose key is 2 if the word was found to be 0
abbrev pub Takes : Step Entry → View Entry ℕ → ℕ → View Entry ℕ → Type 0
Takes s v found w = (w.1.0.right ≡ may_make) × (found ≡ 0 → w.1.0.key ≡ 2)

-- a step from what had been seen, `v`, to what is seen then, `w`: its entry was added right after the entries of `v`
abbrev pub Adds : Step Entry → View Entry ℕ → ℕ → View Entry ℕ → Type 0
Adds s v found w = w.0 ≡ v.0 ++ s.ask ∷ []

-- the entry of a seat's command, and the key of the pen for the entry after it
abbrev pub log_entry : ℕ → Command → ℕ → Entry
log_entry seat c next = record { seat = seat; command = c; next = next }
