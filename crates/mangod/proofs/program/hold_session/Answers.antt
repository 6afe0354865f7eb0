use Rattle.std.proofs.Common.{inl}
use Rattle.mg_engine.specs.World.{empty_world}
use Rattle.mangod.proofs.program.hold_session.Goals as goal

pub returns-in-Ok : goal.returns-in-Ok
returns-in-Ok g c =
    let made = c.in-Ok.ensures in
    let held = c.serve.ensures.transcript (empty_world c.args.settings.db.now) made.stands in
    inl (record {
      left = held.0;
      end = c.serve.result;
      held = held.1;
      ends = c.after.ensures;
      first = c.in-Ok.service;
      last = c.serve.new.self;
      stands = made.stands;
      shards = made.shards;
      workers = made.workers;
      served = c.serve.ensures.service;
    })
