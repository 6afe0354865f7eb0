use Rattle.std.proofs.Common.{◌≡◌, [], length, arith}
use Rattle.mg_machine.proofs.Points.{after_copies}
use Rattle.mg_machine.proofs.seats.Seats.open.Goals as goal

pub returns-clause-follow : goal.returns-clause-follow
returns-clause-follow c =
    let first = c.in_ok-latest.ensures.after in
    let seats = c.in_ok-each.each in
    let number : length seats.items ≡ c.args.seats = omega (arith, seats.ok.0, c.in_ok-each.ensures.number) in
    record { latest = first; each = after_copies c.args.db.now seats.items c.args.seats [] (c.in_ok-each.ensures.after c.args.db.now [] first) number }
