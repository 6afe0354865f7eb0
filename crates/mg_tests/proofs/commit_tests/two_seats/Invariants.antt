use Rattle.std.proofs.Common.{string_bytes}
use Rattle.mg_tests.proofs.commit_tests.two_seats.Given as goal

abbrev pub ghosts-run_two-D-Database : goal.ghosts-run_two-D-Database
ghosts-run_two-D-Database g a = record { commit_log = a.commit_log; db = string_bytes a.db; shards = 1 }

abbrev pub ghosts-run_two-D-Ledger : goal.ghosts-run_two-D-Ledger
ghosts-run_two-D-Ledger g a = record { name = a.blank.name; parts = a.blank.parts }
