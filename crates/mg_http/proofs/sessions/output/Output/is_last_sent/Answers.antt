use Rattle.std.proofs.Common.{arith}
use Rattle.std.proofs.lemmas.Grind.{common_steps}
use Rattle.mg_http.proofs.OutputLemmas.{dropped_all, all_dropped}
use Rattle.mg_http.proofs.sessions.output.Output.is_last_sent.Goals as goal

pub returns : goal.returns
returns c = (
  λ yes. dropped_all c.args.self.now.sent _ (grind (arith, common_steps, yes, c.last_len.ensures)),
  λ none. let all = all_dropped c.args.self.now.sent _ none in grind (arith, common_steps, all, c.last_len.ensures),
)
