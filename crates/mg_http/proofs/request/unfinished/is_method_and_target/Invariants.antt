use Rattle.std.proofs.Common.{◌≡◌, ◌≤◌, length, false, nat_lt}
use Rattle.mg_http.specs.TargetScan.{is_method_and_target}
use Rattle.mg_http.proofs.request.unfinished.is_method_and_target.Given as goal

abbrev pub invariant-loop-rest : goal.invariant-loop-rest
invariant-loop-rest l = record {
  left : length l.rest ≤ length l.bytes;
  same : is_method_and_target (nat_lt (length l.rest) (length l.bytes)) l.rest ≡ is_method_and_target false l.bytes;
}

abbrev pub decreases-loop-rest : goal.decreases-loop-rest
decreases-loop-rest l = length l.rest
