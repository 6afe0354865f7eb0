use Rattle.std.proofs.Common.{string_bytes}
use Rattle.mg_tests.proofs.gate_tests.bulk_during_query.Given as goal

abbrev pub ghosts-write_during_query-D-Database : goal.ghosts-write_during_query-D-Database
ghosts-write_during_query-D-Database g a = record { commit_log = a.commit_log; db = string_bytes a.db; shards = 1 }

abbrev pub ghosts-write_during_query-D-Ledger : goal.ghosts-write_during_query-D-Ledger
ghosts-write_during_query-D-Ledger g a = record { name = a.blank.name; parts = a.blank.parts }
