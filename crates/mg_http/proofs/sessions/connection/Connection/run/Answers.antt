use Rattle.std.proofs.Common.{ap, sym, ◌∙◌}
use Rattle.mg_http.specs.declared.sessions.connection.Connection.{Connection}
use Rattle.mg_http.proofs.ToldLemmas.{runs_step}
use Rattle.mg_http.proofs.sessions.connection.Connection.run.Goals as goal

pub loop-preserved : goal.loop-preserved
loop-preserved g c =
    let was = c.loop.invariant in
    let step = c.step.ensures in
    record {
      quiet = record { db = step.quiet.db ∙ was.quiet.db; starved = step.quiet.starved ∙ was.quiet.starved; reads = step.quiet.reads ∙ was.quiet.reads; writes = step.quiet.writes ∙ was.quiet.writes };
      runs = λ ready. runs_step g.S.Service.answers c.args.self.now c.loop.self _ c.args.service.now c.loop.service _ was.quiet.db (was.runs ready) step.runs step.stays;
      stays = λ ended.
          let k = was.stays ended in
          let q = step.stays (λ e. ended (sym (ap (λ (x : Connection). x.end) k.0) ∙ e)) in
          (q.0 ∙ k.0, q.1 ∙ k.1);
    }

pub returns-clause-runs : goal.returns-clause-runs
returns-clause-runs g c = λ ready.
    let was = c.loop.invariant in
    runs_step g.S.Service.answers c.args.self.now c.loop.self _ c.args.service.now c.loop.service _ was.quiet.db (was.runs ready) c.step.ensures.runs c.step.ensures.stays
