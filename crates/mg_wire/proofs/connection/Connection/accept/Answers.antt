use Rattle.mg_wire.proofs.connection.Connection.accept.Goals as goal

pub returns-in-Some-clause-holds : goal.returns-in-Some-clause-holds
returns-in-Some-clause-holds c = λ bare first goes_on fresh h.
    c.refuse.ensures.holds c.args.self.now.begun bare goes_on (c.in-Some.ensures fresh) h

pub returns-in-None-clause-holds : goal.returns-in-None-clause-holds
returns-in-None-clause-holds c = λ bare first goes_on fresh h. c.admit.ensures.holds bare first goes_on fresh.begun h
