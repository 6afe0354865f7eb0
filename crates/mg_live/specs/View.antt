-- For public clauses: the commits that entries of the commit log stand for.
use Rattle.std.specs.Prelude.{List, map}
use Rattle.mg_engine.specs.View.{command_view}
use Rattle.mg_machine.specs.Machine.{Commit}
use Rattle.mg_live.specs.declared.markers.Entry.{Entry}

-- the commit that an entry stands for
abbrev pub commit_view : Entry → Commit
commit_view e = (e.seat, command_view e.command)

-- the commits that entries stand for, in order
abbrev pub commits_view : List Entry → List Commit
commits_view es = map commit_view es
