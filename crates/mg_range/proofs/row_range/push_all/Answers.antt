use Rattle.std.proofs.Common.{arith}
use Rattle.mg_value.specs.View.{items_view}
use Rattle.mg_rows.specs.Laws.{joined_items}
use Rattle.mg_range.proofs.Pushed.{all_pushed, pushed}
use Rattle.mg_range.proofs.row_range.push_all.Goals as goal

pub loop-value-preserved : goal.loop-value-preserved
loop-value-preserved c =
    let l = c.loop-value in
    let values = c.args.values.now in
    pushed (joined_items c.args.key.now (items_view values)) l.key c.push.new.self values l.value-index c.value-item.result
    (omega arith) c.value-item.is c.in_ok-push.ensures.pushed l.invariant

pub returns : goal.returns
returns c =
    let l = c.loop-value in
    let values = c.args.values.now in
    all_pushed (joined_items c.args.key.now (items_view values)) l.key values l.value-index (omega arith) l.invariant
