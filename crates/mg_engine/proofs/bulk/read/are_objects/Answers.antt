use Rattle.std.proofs.Common.{◌≡◌, ◌<◌, ◌+◌, length, ◌&&◌, sym, ap, ◌∙◌, arith}
use Rattle.mg_value.specs.Value.{item, item_list}
use Rattle.mg_value.proofs.Items.{items_past, past_all}
use Rattle.mg_engine.specs.Bulk.{are_objects}
use Rattle.mg_engine.proofs.Reading.{next_item}
use Rattle.mg_engine.proofs.bulk.read.are_objects.Goals as goal

pub returns-then-not-is_object : goal.returns-then-not-is_object
returns-then-not-is_object c =
    let l = c.loop-index in
    let vs = c.args.documents.now in
    let rest = items_past (l.index + 1) vs in
    let less : l.index < length (item_list vs) = omega (arith, c.len-index-end.ensures, c.loop-index-test.true) in
    let step : items_past l.index vs ≡ item c.item.result rest = next_item vs l.index c.item.result less c.item.ensures in
    sym (l.invariant ∙ ap are_objects step ∙ ap (λ b. b && are_objects rest) (sym c.is_object.ensures ∙ c.if-not-is_object.true))

pub loop-index-preserved : goal.loop-index-preserved
loop-index-preserved c =
    let l = c.loop-index in
    let vs = c.args.documents.now in
    let rest = items_past (l.index + 1) vs in
    let less : l.index < length (item_list vs) = omega (arith, c.len-index-end.ensures, c.loop-index-test.true) in
    let step : items_past l.index vs ≡ item c.item.result rest = next_item vs l.index c.item.result less c.item.ensures in
    l.invariant ∙ ap are_objects step ∙ ap (λ b. b && are_objects rest) (sym c.is_object.ensures ∙ c.if-not-is_object.false)

pub returns : goal.returns
returns c =
    let l = c.loop-index in
    let vs = c.args.documents.now in
    let end : l.index ≡ length (item_list vs) = omega (arith, c.len-index-end.ensures, c.loop-index-test.false) in
    sym (l.invariant ∙ ap are_objects (past_all vs l.index end))
