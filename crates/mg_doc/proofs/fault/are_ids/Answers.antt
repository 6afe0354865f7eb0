use Rattle.std.proofs.Common.{◌≡◌, ◌+◌, ◌<◌, ◌&&◌, length, sym, ap, ◌∙◌, arith}
use Rattle.mg_value.specs.Value.{item_list}
use Rattle.mg_value.proofs.Items.{items_past, past_all}
use Rattle.mg_doc.specs.WellFormed.{are_ids, is_rev_id_value}
use Rattle.mg_doc.proofs.Walks.{ids_next}
use Rattle.mg_doc.proofs.fault.are_ids.Goals as goal

pub returns-then-not-is_id_text : goal.returns-then-not-is_id_text
returns-then-not-is_id_text c =
    let vs = c.args.ids.now in
    let i = c.loop-index.index in
    let less : i < length (item_list vs) = omega (arith, c.len-index-end.ensures) in
    sym (c.loop-index.invariant ∙ ids_next vs i less
    ∙ ap (λ b. b && are_ids (items_past (i + 1) vs)) (ap is_rev_id_value (sym c.item.ensures) ∙ sym c.is_id_text.ensures ∙ c.if-not-is_id_text.true))

pub loop-index-preserved : goal.loop-index-preserved
loop-index-preserved c =
    let vs = c.args.ids.now in
    let i = c.loop-index.index in
    let less : i < length (item_list vs) = omega (arith, c.len-index-end.ensures) in
    c.loop-index.invariant ∙ ids_next vs i less
    ∙ ap (λ b. b && are_ids (items_past (i + 1) vs)) (ap is_rev_id_value (sym c.item.ensures) ∙ sym c.is_id_text.ensures ∙ c.if-not-is_id_text.false)

pub returns : goal.returns
returns c =
    let vs = c.args.ids.now in
    let end : c.loop-index.index ≡ length (item_list vs) = omega (arith, c.len-index-end.ensures) in
    sym (c.loop-index.invariant ∙ ap are_ids (past_all vs c.loop-index.index end))
