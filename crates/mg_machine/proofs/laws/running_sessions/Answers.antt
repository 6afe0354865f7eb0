use Rattle.mg_machine.proofs.Sessions.{seats_see_beginnings, nothing_is_lost, what_is_learned_is_seen, commits_are_answered, reads_are_of_the_seen, snapshots_are_kept, the_command_decides}
use Rattle.mg_machine.proofs.laws.running_sessions.Goals as goal

pub returns : goal.returns
returns c = record {
  prefixes = seats_see_beginnings;
  kept = nothing_is_lost;
  told = what_is_learned_is_seen;
  commits = commits_are_answered;
  reads = reads_are_of_the_seen;
  snapshots = snapshots_are_kept;
  decides = the_command_decides;
}
