use Rattle.std.proofs.Common.{◌≡◌, ◌<◌, ◌+◌, length, ◌||◌, sym, ap, ◌∙◌, arith}
use Rattle.mg_value.specs.Value.{item, item_list}
use Rattle.mg_value.proofs.Items.{items_past, past_all}
use Rattle.mg_face.specs.Ids.{lack_ids}
use Rattle.mg_face.proofs.ItemLemmas.{next_item}
use Rattle.mg_face.proofs.ids.lack_ids.Goals as goal

pub returns-then-lacks_id : goal.returns-then-lacks_id
returns-then-lacks_id c =
    let l = c.loop-index in
    let vs = c.args.documents.now in
    let rest = items_past (l.index + 1) vs in
    let less : l.index < length (item_list vs) = omega (arith, c.len-index-end.ensures, c.loop-index-test.true) in
    let step : items_past l.index vs ≡ item c.item.result rest = next_item vs l.index c.item.result less c.item.ensures in
    sym (l.invariant ∙ ap lack_ids step ∙ ap (λ b. b || lack_ids rest) (sym c.lacks_id.ensures ∙ c.if-lacks_id.true))

pub loop-index-preserved : goal.loop-index-preserved
loop-index-preserved c =
    let l = c.loop-index in
    let vs = c.args.documents.now in
    let rest = items_past (l.index + 1) vs in
    let less : l.index < length (item_list vs) = omega (arith, c.len-index-end.ensures, c.loop-index-test.true) in
    let step : items_past l.index vs ≡ item c.item.result rest = next_item vs l.index c.item.result less c.item.ensures in
    l.invariant ∙ ap lack_ids step ∙ ap (λ b. b || lack_ids rest) (sym c.lacks_id.ensures ∙ c.if-lacks_id.false)

pub returns : goal.returns
returns c =
    let l = c.loop-index in
    let vs = c.args.documents.now in
    let end : l.index ≡ length (item_list vs) = omega (arith, c.len-index-end.ensures, c.loop-index-test.false) in
    sym (l.invariant ∙ ap lack_ids (past_all vs l.index end))
