use Rattle.std.proofs.Common.{refl}
use Rattle.mg_machine.proofs.Points.{looks}
use Rattle.mg_machine.proofs.seats.Seats.enter.Goals as goal

pub returns-clause-follow : goal.returns-clause-follow
returns-clause-follow c = λ name m f. looks name c.args.self.now _ m c.args.seat c.in_ok-self.field-0 f refl refl c.in_ok-self.ensures.after
