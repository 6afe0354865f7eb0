use Rattle.std.proofs.lemmas.Result.{IfOk-weaker}
use Rattle.mg_engine.specs.Commands.{reply_of}
use Rattle.mg_engine.specs.View.{command_view, reply_view}
use Rattle.mg_machine.proofs.Points.{said_is}
use Rattle.mg_machine.proofs.point.Point.read.Goals as goal

pub returns : goal.returns
returns g c =
    IfOk-weaker c.into_result.result _ _
    (λ r complete w at. said_is (reply_view r) (reply_of w (command_view c.args.command.now)) complete.1 (rw complete.0 (c.answer_by.ensures w (rw c.deref.ensures at))))
    c.into_result.ensures
