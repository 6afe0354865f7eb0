use Rattle.std.proofs.Common.{IsTrue, inl, arith}
use Rattle.std.proofs.lemmas.Grind.{common_steps}
use Rattle.mg_wire.proofs.connection.Connection.wait.Goals as goal

pub returns-then-self-clause-holds : goal.returns-then-self-clause-holds
returns-then-self-clause-holds c = λ bare goes_on none h.
    let starved : IsTrue c.args.self.now.is_starved = grind (arith, common_steps) in
    c.refuse.ensures.holds c.args.self.now.begun bare goes_on (inl starved) h

pub returns-then-self-2-clause-holds : goal.returns-then-self-2-clause-holds
returns-then-self-2-clause-holds c = λ bare goes_on none h. c.finish.ensures.holds bare goes_on none h
