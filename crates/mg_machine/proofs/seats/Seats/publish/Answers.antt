use Rattle.std.proofs.Common.{◌≡◌, false}
use Rattle.std.proofs.lemmas.Result.{IfOk-weaker}
use Rattle.mg_engine.specs.Commands.{is_write}
use Rattle.mg_engine.specs.View.{command_view}
use Rattle.mg_machine.specs.Machine.{entered}
use Rattle.mg_machine.proofs.seats.Seats.publish.Goals as goal

pub returns-in_ok-enter-clause-follow : goal.returns-in_ok-enter-clause-follow
returns-in_ok-enter-clause-follow g c =
    let reads : is_write (command_view c.args.command.now) ≡ false = cc in
    let looks = c.in_ok-enter.ensures.follow in
    IfOk-weaker c.read.result _ _ (λ r reply_is name m f. rw reads (reply_is name (entered m c.args.seat) (looks name m f), looks name m f)) c.read.ensures
