use Rattle.std.proofs.Common.{option_map}
use Rattle.mangod.specs.Arguments.{name_in, shards_in}
use Rattle.mangod.specs.View.{settings_view}
use Rattle.mangod.proofs.main.Given as goal

-- the database that was asked for
abbrev pub ghosts-run-D-Database : goal.ghosts-run-D-Database
ghosts-run-D-Database g a = record {
  commit_log = a.commit_log;
  db = name_in (option_map settings_view a.asked);
  shards = shards_in (option_map settings_view a.asked);
}

abbrev pub ghosts-run-D-Ledger : goal.ghosts-run-D-Ledger
ghosts-run-D-Ledger g a = record { name = a.blank.name; parts = a.blank.parts }
