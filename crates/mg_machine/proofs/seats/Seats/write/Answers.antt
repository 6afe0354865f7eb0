use Rattle.std.proofs.Common.{refl}
use Rattle.mg_engine.specs.View.{command_view}
use Rattle.mg_machine.specs.Machine.{after_write}
use Rattle.mg_machine.proofs.Points.{wrote}
use Rattle.mg_machine.proofs.seats.Seats.write.Goals as goal

pub returns-clause-follow : goal.returns-clause-follow
returns-clause-follow g c = λ name m f.
    let cs = after_write name m.commits c.args.seat (command_view c.args.command.now) in
    let did = c.in_ok-reply.ensures.after name m.commits c.args.seat f.latest in
    (did.0, c.in_ok-enter.ensures.follow name (record m { commits = cs }) (wrote name c.args.self.now _ m cs f did.1 refl))
