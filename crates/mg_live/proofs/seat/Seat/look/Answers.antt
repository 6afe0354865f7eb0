use Rattle.std.proofs.Common.{ap}
use Rattle.mg_engine.specs.Questions.{answer_to}
use Rattle.mg_engine.specs.QuestionView.{question_view}
use Rattle.mg_machine.specs.Machine.{world_of}
use Rattle.mg_live.proofs.seat.Seat.look.Goals as goal

pub returns-in-Ok-look : goal.returns-in-Ok-look
returns-in-Ok-look g c =
    let at = c.in-Ok.ensures.snapshot in
    let w = world_of g.D.Database.db c.snapshot.new.self.seen in
    rw (c.in-Ok-look.ensures w at.stands) (c.in-Ok.ensures.later, ap (λ n. answer_to w n (question_view c.args.question.now)) at.number)
