-- A log as the rows of its table: row 0 is the header, and the commits follow in their order.
use Rattle.std.specs.Prelude.{◌≡◌, ◌⊎◌, ℕ, ◌+◌, pos, false, List, [], ◌∷◌, ◌++◌, length, map, IsTrue, IsPermutation}
use Rattle.sqlite_disk.specs.Disk.{MoreFaults}
use Rattle.sqlite.specs.declared.types.Value.TheVariants.{Null, Int, Text}
use Rattle.sqlite.specs.Order.{Row, column}
use Rattle.sqlite.specs.Tree.{Trees}
use Rattle.sqlite.specs.State.{State, HasCleanDisk, IsUnchanged, IsRolledBack}
use Rattle.sqlite_catalog.specs.Listing.{IsSound}
use Rattle.mg_log.specs.Header.{Heading, IsHeaderText, new_heading}
use Rattle.mg_log.specs.Entry.{Entry, head_entry}
use Rattle.mg_log.specs.Table.{log_schema, no_schema}

-- a row as a query shows it
abbrev pub row_of : ℕ → Entry → Row
row_of number e = Int (pos number) ∷ Text e.kind ∷ Text e.body ∷ []

-- rows with consecutive numbers
abbrev pub rows_from : ℕ → List Entry → List Row
rows_from number [] = []
rows_from number (e ∷ es) = row_of number e ∷ rows_from (number + 1) es

-- a row as the table keeps it: NULL in the number's column, which is the rowid
abbrev pub stored : ℕ → Entry → Row
stored number e = Int (pos number) ∷ Null ∷ Text e.kind ∷ Text e.body ∷ []

-- what a query shows of a row that is kept so
abbrev pub shown : Row → Row
shown row = column row 0 ∷ column row 2 ∷ column row 3 ∷ []

-- the first three values of a row that a query shows
abbrev pub three_of : Row → Row
three_of row = column row 0 ∷ column row 1 ∷ column row 2 ∷ []

-- The table has a row for each of these, numbered from 0, and no other row.
abbrev pub Lists : List Entry → Trees → Type 0
Lists all db = IsPermutation (rows_from 0 all) (map shown (db 0))

-- The table's rows are this header and these commits, in this order, and no other.
pub record Holds (h : Heading) (entries : List Entry) (db : Trees) : Type 0 where
  pub head : List ℕ
  pub says : IsHeaderText h head
  pub rows : Lists (head_entry head ∷ entries) db

-- These trees are the database of a log with this header and these commits.
pub record IsLogIn (h : Heading) (entries : List Entry) (db : Trees) : Type 0 where
  pub holds : Holds h entries db
  pub sound : IsSound log_schema db

-- The database is the log with this header and these commits, all of it committed.
pub record IsLog (s : State) (h : Heading) (entries : List Entry) : Type 0 where
  pub is_open : IsTrue s.is_open
  pub autocommit : s.in_transaction ≡ false
  pub schema : s.now.schema ≡ log_schema
  pub settled : s.now ≡ s.committed
  pub holds : IsLogIn h entries s.committed.trees

-- A transaction on a log is open.
pub record IsWriting (s : State) : Type 0 where
  pub is_open : IsTrue s.is_open
  pub inside : IsTrue s.in_transaction
  pub schema : s.now.schema ≡ log_schema
  pub sound : IsSound log_schema s.now.trees

-- In a transaction these rows were added behind the n rows that stood there.
pub record Adds (n : ℕ) (entries : List Entry) (old new : State) : Type 0 where
  pub writing : IsWriting new
  pub committed : new.committed ≡ old.committed
  pub holds : (before : List Entry) → length before ≡ n → Lists before old.now.trees → Lists (before ++ entries) new.now.trees

-- The log that s was has these commits more, and counts them.
abbrev pub IsWritten : State → State → ℕ → List Entry → Type 0
IsWritten s t count news = (h : Heading) (entries : List Entry) → IsLog s h entries → count ≡ length entries → IsLog t h (entries ++ news)

-- A crash at t leaves the log that s was, or the same with all of these commits.
abbrev pub LeavesAllOrNone : State → State → ℕ → List Entry → Type 0
LeavesAllOrNone s t count news =
    (h : Heading) (entries : List Entry) → IsLog s h entries → count ≡ length entries → (db : Trees) → t.may_leave db → IsLogIn h entries db ⊎ IsLogIn h (entries ++ news) db

-- A crash at t leaves the log that s was.
abbrev pub LeavesSame : State → State → Type 0
LeavesSame s t = (h : Heading) (entries : List Entry) → IsLog s h entries → (db : Trees) → t.may_leave db → IsLogIn h entries db

-- If t is open, it is the log that s was.
abbrev pub StaysLog : State → State → Type 0
StaysLog s t = (h : Heading) (entries : List Entry) → IsLog s h entries → IsTrue t.is_open → IsLog t h entries

-- An open connection is open afterwards, or the disk has failed once more.
abbrev pub ClosesIfFaulty : State → State → Type 0
ClosesIfFaulty s t = IsTrue s.is_open → IsTrue t.is_open ⊎ MoreFaults s.faults t.faults

-- The connection is as it was, or what was not committed is undone.
abbrev pub IsKept : State → State → Type 0
IsKept s t = IsUnchanged s t ⊎ IsRolledBack s t

-- s was open, and t is the log without commits whose header has this text.
abbrev pub IsNewLog : State → State → List ℕ → Type 0
IsNewLog s t head = (h : Heading) → IsHeaderText h head → IsTrue s.is_open × IsLog t h []

-- Of an empty database, these trees are the log of this name without commits.
abbrev pub IsFirstLog : List ℕ → State → Trees → Type 0
IsFirstLog name s db = (s.now.schema ≡ no_schema) × IsLogIn (new_heading name) [] db

-- A row that a query shows is the header's row.
pub record IsHeadRow (h : Heading) (row : Row) : Type 0 where
  pub head : List ℕ
  pub says : IsHeaderText h head
  pub is : three_of row ≡ row_of 0 (head_entry head)

-- All rows were read: what took them follows the commits, so many of them, and on a clean disk the table has them behind this header.
pub record HasRead (old new : State) (Follows : List Entry → Type 0) (h : Heading) (count : ℕ) : Type 0 where
  pub entries : List Entry
  pub follows : Follows entries
  pub counted : count ≡ length entries
  pub rows : HasCleanDisk new → Holds h entries old.now.trees × IsUnchanged old new
