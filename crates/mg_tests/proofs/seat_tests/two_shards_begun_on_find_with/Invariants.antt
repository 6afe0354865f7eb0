use Rattle.std.proofs.Common.{string_bytes}
use Rattle.mg_tests.proofs.seat_tests.two_shards_begun_on_find_with.Given as goal

abbrev pub ghosts-run_query-D-Database : goal.ghosts-run_query-D-Database
ghosts-run_query-D-Database g a = record { commit_log = a.commit_log; db = string_bytes a.db; shards = 2 }

abbrev pub ghosts-run_query-D-Ledger : goal.ghosts-run_query-D-Ledger
ghosts-run_query-D-Ledger g a = record { name = a.blank.name; parts = a.blank.parts }
