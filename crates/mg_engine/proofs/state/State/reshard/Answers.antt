use Rattle.std.proofs.Common.{Option, ℕ, length, unwrap_or, ap, ◌∙◌}
use Rattle.mg_engine.proofs.state.State.reshard.Goals as goal

pub returns-clause-number : goal.returns-clause-number
returns-clause-number g c = c.in_ok-next.ensures.number ∙ ap (λ (o : Option ℕ). unwrap_or o (length c.args.self.now.shards)) c.in-Some.ensures.asked
