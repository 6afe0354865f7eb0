-- What a log shows, as its callers name it.
use Rattle.std.specs.Prelude.{◌≡◌, List, length, false}
use Rattle.sqlite.specs.Store.{Ghosts}
use Rattle.sqlite.specs.Tree.{Trees}
use Rattle.sqlite.specs.State.{State, HasCleanDisk}
use Rattle.sqlite.specs.Held.{state}
use Rattle.mg_log.specs.declared.log.Log.{Log}
use Rattle.mg_log.specs.Header.{Heading, heading_of}
use Rattle.mg_log.specs.Entry.{Entry}
use Rattle.mg_log.specs.Rows.{IsLog, IsLogIn}

module _ {S : Type 0} (g : Ghosts S) where
  -- the connection of a log
  abbrev pub connection_of : Log S g → State
  connection_of log = state g log.conn

  -- So far the disk has returned what was written.
  abbrev pub IsHonest : Log S g → Type 0
  IsHonest log = HasCleanDisk (connection_of log)

  -- The log has these commits, all of them on the disk, and counts them; its header is that of the file.
  pub record Keeps (log : Log S g) (entries : List Entry) : Type 0 where
    pub rows : IsLog (connection_of log) (heading_of log.header) entries
    pub counted : log.count ≡ length entries

  -- what a crash at this moment may leave
  abbrev pub may_leave : Log S g → Trees → Type 0
  may_leave log = (connection_of log).may_leave

-- These trees are the database of a log with this log's header and these commits.
abbrev pub IsLogOf : {S : Type 0} {g : Ghosts S} → Log S g → List Entry → Trees → Type 0
IsLogOf log entries db = IsLogIn (heading_of log.header) entries db

-- A fault has ended the log: no later call asks anything of the file.
abbrev pub IsLost : {S : Type 0} {g : Ghosts S} → Log S g → Type 0
IsLost log = log.is_usable ≡ false
