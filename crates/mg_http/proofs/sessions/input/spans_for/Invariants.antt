use Rattle.std.proofs.Common.{◌-◌}
use Rattle.std.specs.Prelude.{vec_len}
use Rattle.mg_http.proofs.sessions.input.spans_for.Given as goal

abbrev pub decreases-loop-spans : goal.decreases-loop-spans
decreases-loop-spans l = l.fields - vec_len l.spans
