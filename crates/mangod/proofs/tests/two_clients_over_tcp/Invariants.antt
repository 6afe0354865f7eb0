use Rattle.std.proofs.Common.{string_bytes}
use Rattle.mangod.proofs.tests.two_clients_over_tcp.Given as goal

abbrev pub ghosts-serve_two-D-Database : goal.ghosts-serve_two-D-Database
ghosts-serve_two-D-Database g a = record { commit_log = a.commit_log; db = string_bytes a.db; shards = 1 }

abbrev pub ghosts-serve_two-D-Ledger : goal.ghosts-serve_two-D-Ledger
ghosts-serve_two-D-Ledger g a = record { name = a.blank.name; parts = a.blank.parts }
