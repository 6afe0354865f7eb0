use Rattle.mango_server.proofs.main.Given as goal

-- the database that was asked for
abbrev pub ghosts-serve_file-D-Database : goal.ghosts-serve_file-D-Database
ghosts-serve_file-D-Database g a = record { commit_log = a.commit_log; db = a.settings.db.now; shards = a.settings.shards }

abbrev pub ghosts-serve_file-D-Ledger : goal.ghosts-serve_file-D-Ledger
ghosts-serve_file-D-Ledger g a = record { name = a.blank.name; parts = a.blank.parts }
