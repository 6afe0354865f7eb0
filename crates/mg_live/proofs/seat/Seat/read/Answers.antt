use Rattle.std.proofs.Common.{refl}
use Rattle.mg_machine.specs.Machine.{world_of}
use Rattle.mg_live.proofs.seat.Seat.read.Goals as goal

pub returns-in-Ok-read : goal.returns-in-Ok-read
returns-in-Ok-read g c =
    let at = c.in-Ok.ensures.snapshot in
    rw (c.in-Ok-read.ensures (world_of g.D.Database.db c.snapshot.new.self.seen) at.stands) (c.in-Ok.ensures.later, refl)
