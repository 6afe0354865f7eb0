use Rattle.mg_live.proofs.Publishing.{stands_after}
use Rattle.mg_live.proofs.desk.Desk.catch_up.Goals as goal

pub returns-then-not-begins-clause-published : goal.returns-then-not-begins-clause-published
returns-then-not-begins-clause-published g c =
    let s = c.self.inside.writer.desk.shown.value in
    rw (← c.self.view_is) (s, stands_after g.D.Database.commit_log g.D.Database.db g.D.Database.shards s c.self.invariant.1)

pub returns-clause-published : goal.returns-clause-published
returns-clause-published g c =
    let s = c.self.inside.writer.desk.shown.value in
    rw (← c.self.view_is) (s, stands_after g.D.Database.commit_log g.D.Database.db g.D.Database.shards s c.self.invariant.1)
