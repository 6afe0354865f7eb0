use Rattle.std.proofs.Common.{◌<◌, length, arith, sym, subst}
use Rattle.mg_value.specs.Stored.{AreStored}
use Rattle.mg_value.specs.View.{items_view}
use Rattle.mg_rows.proofs.Joined.{columns_turn, drop_cons_at}
use Rattle.mg_rows.proofs.write.write_columns.Goals as goal

pub loop-value-preserved : goal.loop-value-preserved
loop-value-preserved c =
    let l = c.loop-value in
    let all = c.args.values.now in
    let low : l.value-index < length all = omega arith in (
      columns_turn all l.value-index c.value-item.result _ l.out.items c.write_value.new.out.items low c.value-item.is c.in_ok-write_value.ensures.bytes l.invariant.0,
      λ h. l.invariant.1 (subst (λ vs. AreStored (items_view vs)) (sym (drop_cons_at all l.value-index c.value-item.result low c.value-item.is)) (c.in_ok-write_value.ensures.stored, h)),
    )
