use Rattle.std.proofs.Common.{◌≡◌, length}
use Rattle.mg_http.specs.Significant.{significant}
use Rattle.mg_http.proofs.request.fields.significant.Given as goal

abbrev pub invariant-loop-text : goal.invariant-loop-text
invariant-loop-text l = significant l.text ≡ significant l.fn.text

abbrev pub decreases-loop-text : goal.decreases-loop-text
decreases-loop-text l = length l.text
