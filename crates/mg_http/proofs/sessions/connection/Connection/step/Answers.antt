use Rattle.std.proofs.Common.{◌++◌, List, ℕ, false, ap, refl, inl, ◌∙◌}
use Rattle.mg_engine.specs.Commands.{refused}
use Rattle.mg_http.specs.declared.sessions.connection.Connection.{Connection}
use Rattle.mg_http.specs.Connection.{unanswered, waiting}
use Rattle.mg_http.specs.Reply.{text_of}
use Rattle.mg_http.proofs.SessionLemmas.{lacks_within, refuses_by}
use Rattle.mg_http.proofs.ToldLemmas.{runs_wait, rests_wait, runs_out}
use Rattle.mg_http.proofs.sessions.connection.Connection.step.Goals as goal

pub returns-in-Waiting-clause-runs : goal.returns-in-Waiting-clause-runs
returns-in-Waiting-clause-runs g c = λ ready.
    let old = c.args.self.now in
    let next = c.next_head.ensures in
    runs_wait g.S.Service.answers old c.next_head.new.self _ _ false (ap (λ (x : Connection). x.end) next.only ∙ ready.0) (ap waiting next.only) next.input
    (rw (ap (λ (x : Connection). x.messages) next.only, next.input) refl) (rw (ap (λ (x : Connection). x.framed) next.only) tt)
    (lacks_within old.db.now (unanswered old) (c.in-Waiting.ensures.pending ready.1)) c.wait.ensures

pub returns-in-Waiting-clause-rests : goal.returns-in-Waiting-clause-rests
returns-in-Waiting-clause-rests g c = λ ready no.
    let next = c.next_head.ensures in
    rests_wait false c.next_head.new.self _ c.wait.ensures (rw (ap (λ (x : Connection). x.db) next.only, next.input) (inl (c.in-Waiting.ensures.pending ready.1)))

pub returns-in-Refused-clause-runs : goal.returns-in-Refused-clause-runs
returns-in-Refused-clause-runs g c = λ ready.
    let old = c.args.self.now in
    let text = text_of c.in-Refused.omits_body (refused c.in-Refused.refusal) in
    runs_out g.S.Service.answers old _ _ text (ap (λ (x : Connection). x.end) c.refuse.ensures.only) (c.refuse.ensures.text ∙ ap (λ (w : List ℕ). w ++ text) (ap waiting c.next_head.ensures.only))
    (refuses_by old.db.now _ (unanswered old) c.in-Refused.refusal c.in-Refused.omits_body (c.in-Refused.ensures.pending ready.1))
