use Rattle.std.proofs.Common.{◌≡◌, false}
use Rattle.std.proofs.lemmas.Result.{IfOk-weaker}
use Rattle.mg_engine.specs.Commands.{is_write}
use Rattle.mg_engine.specs.View.{command_view}
use Rattle.mg_machine.proofs.seats.Seats.answer.Goals as goal

pub returns-else-is_write-clause-follow : goal.returns-else-is_write-clause-follow
returns-else-is_write-clause-follow g c =
    let reads : is_write (command_view c.args.command.now) ≡ false = cc in
    IfOk-weaker c.read.result _ _ (λ r reply_is name m f. rw reads (reply_is name m f, f)) c.read.ensures
