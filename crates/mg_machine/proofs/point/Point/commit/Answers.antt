use Rattle.std.proofs.Common.{refl}
use Rattle.mg_machine.proofs.Points.{dealt_more, dealt_same, no_more, one_more}
use Rattle.mg_machine.proofs.point.Point.commit.Goals as goal

pub returns-in_ok-engine-in-Some-clause-after : goal.returns-in_ok-engine-in-Some-clause-after
returns-in_ok-engine-in-Some-clause-after g c = λ name cs seat at.
    one_more name c.args.self.now _ cs seat c.args.prepared c.in_ok-reply.reply c.commit_prepared-reply.result.0 c.commit_prepared-reply.result.1 c.deref.result.now c.in-Some.engine
    c.requires.room at c.in_ok-reply.ensures c.deref.ensures c.in-Some.is c.in_ok-engine-in-Some.ensures.ok refl c.commit_prepared-reply.ensures.answers c.commit_prepared-reply.ensures.next

pub returns-in_ok-engine-in-None-clause-after : goal.returns-in_ok-engine-in-None-clause-after
returns-in_ok-engine-in-None-clause-after g c = λ name cs seat at.
    no_more name c.args.self.now _ cs seat c.args.prepared c.in_ok-reply.reply c.commit_prepared-reply.result.0 c.commit_prepared-reply.result.1 c.deref.result.now
    c.requires.room at c.in_ok-reply.ensures c.deref.ensures c.in-None.is c.in_ok-engine-in-None.ensures.cases refl c.commit_prepared-reply.ensures.answers c.commit_prepared-reply.ensures.next

pub returns-in_ok-engine-in-Some-clause-dealt : goal.returns-in_ok-engine-in-Some-clause-dealt
returns-in_ok-engine-in-Some-clause-dealt g c = λ name n cs seat at deals.
    let is = (returns-in_ok-engine-in-Some-clause-after g c name cs seat at).0 in
    dealt_more name n c.args.self.now _ cs seat c.args.prepared c.in_ok-reply.reply c.commit_prepared-reply.result.0 c.commit_prepared-reply.result.1 c.deref.result.now c.in-Some.engine
    is c.in_ok-reply.ensures.0 c.deref.ensures c.in-Some.is c.in_ok-engine-in-Some.ensures.ok c.commit_prepared-reply.ensures.shards c.commit_prepared-reply.ensures.next deals

pub returns-in_ok-engine-in-None-clause-dealt : goal.returns-in_ok-engine-in-None-clause-dealt
returns-in_ok-engine-in-None-clause-dealt g c = λ name n cs seat at deals.
    let is = (returns-in_ok-engine-in-None-clause-after g c name cs seat at).0 in
    dealt_same name n c.args.self.now _ cs seat c.args.prepared c.in_ok-reply.reply c.commit_prepared-reply.result.0 c.commit_prepared-reply.result.1
    is c.in_ok-reply.ensures.0 c.in-None.is c.in_ok-engine-in-None.ensures.cases c.commit_prepared-reply.ensures.next deals
