use Rattle.std.proofs.Common.{string_bytes}
use Rattle.mg_tests.proofs.commit_tests.four_seats_make_a_hundred_commits.Given as goal

abbrev pub ghosts-count_commits-D-Database : goal.ghosts-count_commits-D-Database
ghosts-count_commits-D-Database g a = record { commit_log = a.commit_log; db = string_bytes a.db; shards = 3 }

abbrev pub ghosts-count_commits-D-Ledger : goal.ghosts-count_commits-D-Ledger
ghosts-count_commits-D-Ledger g a = record { name = a.blank.name; parts = a.blank.parts }
