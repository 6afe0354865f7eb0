use Rattle.std.proofs.Common.{arith}
use Rattle.std.proofs.lemmas.List.Elements.{All-push}
use Rattle.mg_machine.specs.Seats.{by_md5}
use Rattle.mg_machine.specs.Points.{IsAfter}
use Rattle.mg_machine.proofs.seats.copies.Goals as goal

pub loop-preserved : goal.loop-preserved
loop-preserved c =
    let pushed = c.in_ok-push.ensures in
    record {
      after = λ name cs at.
          rw pushed.items (All-push (λ p. IsAfter by_md5 name p cs) c.loop.copies.items c.in_ok-again.field-0 (c.loop.invariant.after name cs at) (c.in_ok-again.ensures.after name cs at));
      number = omega (arith, pushed.len, c.loop.invariant.number);
    }
