use Rattle.std.proofs.Common.{◌<◌, length, arith}
use Rattle.mg_machine.specs.Machine.{seen_by, world_of}
use Rattle.mg_machine.proofs.Points.{at_seat}
use Rattle.mg_machine.proofs.seats.Seats.read.Goals as goal

pub returns : goal.returns
returns g c = λ name m f.
    let s = c.args.self.now in
    let here : c.args.seat < length s.each.items = omega (arith, s.each.ok.0) in
    c.in_ok-reply.ensures (world_of name (seen_by m c.args.seat)) (at_seat name s m c.args.seat c.index-seen.result.now f here c.index-seen.ensures).engine
