use Rattle.std.proofs.Common.{ℕ, Option, arith, subst}
use Rattle.mg_server.proofs.ClosingLemmas.{IsBestBelow, best_whole}
use Rattle.mg_server.proofs.table.Table.stillest.Goals as goal

pub returns-in-Some-clause-some : goal.returns-in-Some-clause-some
returns-in-Some-clause-some g c =
    best_whole c.args.self.now.entries c.args.least c.loop-index.index (c.in-Some.index, c.in-Some.field-0-1) (omega (arith, c.capacity-index-end.ensures.slots, c.loop-index-test.false))
    (subst (λ (best : Option (ℕ × ℕ)). IsBestBelow c.args.self.now.entries c.args.least c.loop-index.index best) c.in-Some.is c.loop-index.invariant)
