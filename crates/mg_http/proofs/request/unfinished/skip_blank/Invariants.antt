use Rattle.std.proofs.Common.{◌≡◌, length}
use Rattle.mg_http.specs.TargetScan.{skip_blank}
use Rattle.mg_http.proofs.request.unfinished.skip_blank.Given as goal

abbrev pub invariant-loop-bytes : goal.invariant-loop-bytes
invariant-loop-bytes l = skip_blank l.bytes ≡ skip_blank l.fn.bytes

abbrev pub decreases-loop-bytes : goal.decreases-loop-bytes
decreases-loop-bytes l = length l.bytes
