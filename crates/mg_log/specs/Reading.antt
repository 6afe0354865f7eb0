-- The query that reads a log, whose rows are given one at a time.
use Rattle.std.specs.Prelude.{◌≡◌, ℕ, List, [], ◌∷◌, ◌++◌, codes, Option, Some, None}
use Rattle.sqlite.specs.Store.{Ghosts}
use Rattle.sqlite.specs.Order.{Row}
use Rattle.sqlite.specs.State.{Shown}
use Rattle.sqlite.specs.Held.{Held, state}
use Rattle.sqlite.specs.Given.{HasGiven}
use Rattle.mg_log.specs.declared.commit.Commit.{Commit}
use Rattle.mg_log.specs.Entry.{entry_of}
use Rattle.mg_log.specs.Header.{Heading}
use Rattle.mg_log.specs.Rows.{row_of, three_of, IsHeadRow}

abbrev pub select_text : List ℕ
select_text = codes "SELECT number, kind, body FROM commits ORDER BY number"

module _ {S : Type 0} (g : Ghosts S) (old new : Held S) where
  -- The query gives one more row, which has this property.
  abbrev pub GivesRow : (Row → Type 0) → Type 0
  GivesRow P = (given : List Row) → HasGiven g select_text [] old given → (row : Row) × P row × HasGiven g select_text [] new (given ++ row ∷ [])

  -- The query gives the row of this commit, or the rows so far are its answer.
  abbrev pub GivesNext : ℕ → Option Commit → Type 0
  GivesNext number (Some commit) = GivesRow (λ row. three_of row ≡ row_of number (entry_of commit))
  GivesNext number None = (given : List Row) → HasGiven g select_text [] old given → Shown select_text [] (state g old) (state g new) given

  -- The query gives the row of this header.
  abbrev pub GivesHeader : Heading → Type 0
  GivesHeader h = GivesRow (IsHeadRow h)
