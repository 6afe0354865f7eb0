use Rattle.std.proofs.Common.{◌≡◌, [], ap, ◌∙◌, arith, add-one, refl}
use Rattle.mg_live.specs.declared.commit_log.Prefix.{Prefix}
use Rattle.mg_live.proofs.live.Live.open.Goals as goal

pub loop-number-preserved : goal.loop-number-preserved
loop-number-preserved g c =
    let l = c.loop-number in
    let tally = c.new-in-loop-number.ensures in
    let prefix : c.again.result.seen.log ≡ [] = ap (λ (f : Prefix). f.seen.log) c.again.ensures ∙ c.in_ok-desk.ensures.prefix.1 in
    record {
      parts = omega (arith, tally.rest.0, l.invariant.parts);
      amount = tally.rest.1 ∙ l.invariant.amount;
      each = rw (add-one l.number, c.in_ok-push.ensures.items, prefix, tally.none, l.invariant.each) refl;
    }
