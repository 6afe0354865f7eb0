use Rattle.std.proofs.Common.{ap, ◌∙◌}
use Rattle.mg_engine.specs.Counted.{docs_counted}
use Rattle.mg_engine.proofs.Counting.{docs_all}
use Rattle.mg_engine.proofs.engine.Engine.count.Goals as goal

pub returns-in-Ok : goal.returns-in-Ok
returns-in-Ok g c = λ w h.
    let e = c.args.self.now in
    c.in-Ok.ensures ∙ ap docs_counted c.shards.ensures.shards ∙ docs_all (g.P.Placement.place e.0) e.1.shards w.docs h.documents
