-- What calls do to a connection that has a log.
use Rattle.std.specs.Prelude.{◌≡◌, ℕ, false, List, [], Result, IsTrue, OnOk, OnErr}
use Rattle.sqlite.specs.Store.{Ghosts}
use Rattle.sqlite.specs.State.{HasCleanDisk, Survives, IsUnchanged, KeepsCommit}
use Rattle.sqlite.specs.Held.{Held, state}
use Rattle.mg_log.specs.Table.{no_schema}
use Rattle.mg_log.specs.Header.{Heading, IsHeaderText}
use Rattle.mg_log.specs.Entry.{Entry}
use Rattle.mg_log.specs.Rows.{ClosesIfFaulty, IsKept, IsLogIn, IsWriting, Adds, IsWritten, LeavesAllOrNone, StaysLog, IsNewLog}

module _ {S : Type 0} (g : Ghosts S) (old new : Held S) where
  -- A crash leaves nothing but what it could leave before the call.
  abbrev pub CommitsNothing : Type 0
  CommitsNothing = Survives (state g old) (state g new) (λ _. ⊥)

  -- No transaction is open after the call if none was.
  abbrev pub StaysIdle : Type 0
  StaysIdle = old.in_transaction ≡ false → new.in_transaction ≡ false

  -- A clean disk was clean before the call.
  abbrev pub WasClean : Type 0
  WasClean = HasCleanDisk (state g new) → HasCleanDisk (state g old)

  -- Only a fault of the disk shuts the connection.
  abbrev pub ClosesByFault : Type 0
  ClosesByFault = HasCleanDisk (state g new) → ClosesIfFaulty (state g old) (state g new)

  -- A connection that is open was open before the call.
  abbrev pub WasOpen : Type 0
  WasOpen = HasCleanDisk (state g new) → IsTrue (state g new).is_open → IsTrue (state g old).is_open

  -- A transaction that goes on has committed nothing.
  abbrev pub KeepsRows : Type 0
  KeepsRows = HasCleanDisk (state g new) → IsWriting (state g old) → KeepsCommit (state g old) (state g new)

  -- A crash leaves what it could leave before the call, or the log without commits whose header has this text.
  abbrev pub CommitsNewLog : List ℕ → Type 0
  CommitsNewLog head = (h : Heading) → IsHeaderText h head → Survives (state g old) (state g new) (IsLogIn h [])

  module _ {X E : Type 0} where
    -- The call changes nothing.
    abbrev pub OnlyReads : Result X E → Type 0
    OnlyReads result = HasCleanDisk (state g new) → OnOk result (IsUnchanged (state g old) (state g new))

    -- After an error the connection is as it was, or what was not committed is undone.
    abbrev pub KeepsIfErr : Result X E → Type 0
    KeepsIfErr result = HasCleanDisk (state g new) → OnErr result (IsKept (state g old) (state g new))

    -- In a transaction, the call adds these rows behind the n rows that stood there.
    abbrev pub AddsRows : ℕ → List Entry → Result X E → Type 0
    AddsRows n news result = HasCleanDisk (state g new) → IsWriting (state g old) → OnOk result (Adds n news (state g old) (state g new))

    -- In a transaction on an empty database, the call makes the table, with no row.
    abbrev pub MakesTable : Result X E → Type 0
    MakesTable result =
        HasCleanDisk (state g new) → IsTrue (state g old).in_transaction → (state g old).now.schema ≡ no_schema
        → OnOk result (IsTrue (state g old).is_open × IsWriting (state g new) × ((state g new).now.trees 0 ≡ []))

    -- The call makes the log without commits whose header has this text.
    abbrev pub MakesLog : List ℕ → Result X E → Type 0
    MakesLog head result = HasCleanDisk (state g new) → OnOk result (IsNewLog (state g old) (state g new) head)

    -- The call adds these commits behind so many.
    abbrev pub WritesAll : ℕ → List Entry → Result X E → Type 0
    WritesAll count news result = HasCleanDisk (state g new) → OnOk result (IsWritten (state g old) (state g new) count news)

    -- After an error, a connection that is open has the log that it had.
    abbrev pub KeepsLog : Result X E → Type 0
    KeepsLog result = HasCleanDisk (state g new) → OnErr result (StaysLog (state g old) (state g new))

  -- A crash leaves the log that there was, or the same with all of these commits.
  abbrev pub CommitsAllOrNone : ℕ → List Entry → Type 0
  CommitsAllOrNone count news = HasCleanDisk (state g new) → LeavesAllOrNone (state g old) (state g new) count news
