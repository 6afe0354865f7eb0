use Rattle.std.proofs.Common.{Err, ap, arith}
use Rattle.std.proofs.lemmas.Grind.{common_steps}
use Rattle.mg_http.proofs.UnderWayLemmas.{answered_on, rests_on, exchanged, limit_after, ends_so}
use Rattle.mg_http.proofs.sessions.session.Goals as goal

pub returns-in-Err-clause-transcript : goal.returns-in-Err-clause-transcript
returns-in-Err-clause-transcript g c =
    let answers = g.S.Service.answers in
    let was = c.loop.invariant.under_way in
    let said = c.run.ensures in
    let moved = c.exchange.ensures.transfers in
    let on = answered_on answers c.args.db.now c.args.service.now _ _ _ _ c.loop.connection c.loop.service c.run.new.self c.run.new.service c.loop.reads was said.quiet said.runs said.stays in
    let rests = rests_on answers c.args.db.now c.args.service.now c.loop.connection c.loop.service c.run.new.self c.run.new.service was.told said.rests said.stays in
    let all = exchanged answers c.args.db.now c.args.service.now _ _ _ _ _ _ c.run.new.self c.run.new.service c.exchange.new.connection c.loop.reads c.exchange.new.reads moved.0 on moved.1 moved.2 moved.3 c.exchange.ensures.wrote in
    ends_so answers c.args.db.now c.args.service.now _ _ _ _ c.exchange.new.connection c.run.new.service c.exchange.new.reads c.in-Err.end all (c.in-Err.ensures.ends rests)
    (λ e. limit_after c.run.new.self c.exchange.new.connection moved.0 c.loop.reads moved.2 on.count (c.in-Err.ensures.limit (ap Err e)))

pub loop-preserved : goal.loop-preserved
loop-preserved g c =
    let answers = g.S.Service.answers in
    let was = c.loop.invariant.under_way in
    let said = c.run.ensures in
    let moved = c.exchange.ensures.transfers in
    let on = answered_on answers c.args.db.now c.args.service.now _ _ _ _ c.loop.connection c.loop.service c.run.new.self c.run.new.service c.loop.reads was said.quiet said.runs said.stays in
    record {
      steps = tt;
      finite = tt;
      under_way = exchanged answers c.args.db.now c.args.service.now _ _ _ _ _ _ c.run.new.self c.run.new.service c.exchange.new.connection c.loop.reads c.exchange.new.reads moved.0 on moved.1 moved.2 moved.3 c.exchange.ensures.wrote;
      reading = grind (arith, common_steps);
      writing = grind (arith, common_steps);
    }
