use Rattle.std.proofs.Common.{◌<◌, length, refl, arith}
use Rattle.mg_machine.proofs.Points.{hears, stays}
use Rattle.mg_machine.proofs.seats.Seats.learn.Goals as goal

pub returns-in_ok-self-clause-follow : goal.returns-in_ok-self-clause-follow
returns-in_ok-self-clause-follow c = λ name m f.
    let s = c.args.self.now in
    let here : c.args.seat < length s.each.items = omega (arith, s.each.ok.0) in
    let there : c.args.by < length s.each.items = omega (arith, s.each.ok.0) in
    hears name s _ m c.args.seat c.args.by c.index.result.now c.index-2.result.now c.index-then-index.result.now c.in_ok-self.field-0 f here there c.index.ensures c.index-2.ensures c.index-then-index.ensures
    c.if-index.true refl refl c.in_ok-self.ensures.after

pub returns-else-index-clause-follow : goal.returns-else-index-clause-follow
returns-else-index-clause-follow c = λ name m f.
    let s = c.args.self.now in
    let here : c.args.seat < length s.each.items = omega (arith, s.each.ok.0) in
    let there : c.args.by < length s.each.items = omega (arith, s.each.ok.0) in
    stays name s m c.args.seat c.args.by c.index.result.now c.index-2.result.now f here there c.index.ensures c.index-2.ensures c.if-index.false
