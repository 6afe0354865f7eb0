use Rattle.std.proofs.Common.{refl}
use Rattle.mg_http.specs.Steps.{answer_in}
use Rattle.mg_http.proofs.ToldLemmas.{runs_answer}
use Rattle.mg_http.proofs.sessions.connection.Connection.answer.Goals as goal

pub returns-then-closes-clause-runs : goal.returns-then-closes-clause-runs
returns-then-closes-clause-runs g c = λ goes_on none is head.
    runs_answer g.S.Service.answers c.args.self.now _ _ _ c.args.framed (answer_in c.answer_request-answer.result) c.args.end head is c.requires.whole (rw c.as_slice.ensures at c.answer_request-answer.ensures) (rw c.if-closes.true refl)
    c.answer.ensures c.drop_front.ensures none refl

pub returns-else-closes-clause-runs : goal.returns-else-closes-clause-runs
returns-else-closes-clause-runs g c = λ goes_on none is head.
    runs_answer g.S.Service.answers c.args.self.now _ _ _ c.args.framed (answer_in c.answer_request-answer.result) c.args.end head is c.requires.whole (rw c.as_slice.ensures at c.answer_request-answer.ensures) (rw c.if-closes.false goes_on)
    c.answer.ensures c.drop_front.ensures none refl
