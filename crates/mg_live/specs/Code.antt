-- How the logic stores commits.
use Rattle.std.specs.Prelude.{List}
use Rattle.std.specs.Coded.{Coded, coded×, coded_list, coded_ℕ}
use Rattle.mg_engine.specs.Code.{asked_code}
use Rattle.mg_machine.specs.Machine.{Commit}

-- how the logic stores a commit
abbrev pub commit_code : Coded Commit
commit_code = coded× coded_ℕ asked_code

-- how the logic stores a list of commits
abbrev pub commits_code : Coded (List Commit)
commits_code = coded_list commit_code
