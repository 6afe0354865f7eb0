use Rattle.std.proofs.Common.{string_bytes}
use Rattle.mg_tests.proofs.seat_tests.a_seat_is_asked_for_a_bulk.Given as goal

abbrev pub ghosts-ask_service-D-Database : goal.ghosts-ask_service-D-Database
ghosts-ask_service-D-Database g a = record { commit_log = a.commit_log; db = string_bytes a.db; shards = 2 }

abbrev pub ghosts-ask_service-D-Ledger : goal.ghosts-ask_service-D-Ledger
ghosts-ask_service-D-Ledger g a = record { name = a.blank.name; parts = a.blank.parts }
