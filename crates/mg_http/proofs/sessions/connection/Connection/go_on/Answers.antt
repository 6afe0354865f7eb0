use Rattle.std.proofs.Common.{◌<◌, ◌+◌, length, Some, refl, arith}
use Rattle.mg_http.specs.declared.sessions.connection.Connection.{Connection}
use Rattle.mg_http.specs.Connection.{unanswered}
use Rattle.mg_http.proofs.SessionLemmas.{lacks_after, waits_in_body}
use Rattle.mg_http.proofs.ToldLemmas.{runs_wait, rests_wait, runs_to_limit}
use Rattle.mg_http.proofs.sessions.connection.Connection.go_on.Goals as goal

pub returns-then-len-end-clause-runs : goal.returns-then-len-end-clause-runs
returns-then-len-end-clause-runs g c = λ goes_on none head.
    let old = c.args.self.now in
    let held : Connection = record old { framed = Some c.args.framed } in
    runs_wait g.S.Service.answers old held _ _ c.args.framed.omits_body goes_on refl refl refl head (lacks_after old.db.now (unanswered old) c.args.framed head) c.wait.ensures

pub returns-then-len-end-clause-rests : goal.returns-then-len-end-clause-rests
returns-then-len-end-clause-rests g c = λ head no.
    let old = c.args.self.now in
    let held : Connection = record old { framed = Some c.args.framed } in
    let short : length (unanswered old) < c.args.framed.head_len + c.args.framed.body_len = omega (arith, c.if-len-end.true, c.len.ensures.value, c.saturating_add-end.ensures) in
    rests_wait c.args.framed.omits_body held _ c.wait.ensures (waits_in_body old.db.now (unanswered old) c.args.framed head short)

pub returns-then-self-clause-runs : goal.returns-then-self-clause-runs
returns-then-self-clause-runs g c = λ goes_on none head.
    runs_to_limit g.S.Service.answers c.args.self.now _ _ refl refl (omega (arith, c.if-self.true))
