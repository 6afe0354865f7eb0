use Rattle.std.proofs.Common.{◌≡◌, ◌<◌, ◌+◌, List, length, sym, ap, ◌∙◌, arith}
use Rattle.mg_value.specs.Value.{Items, item, item_list}
use Rattle.mg_value.proofs.Items.{items_past, past_all}
use Rattle.mg_doc.specs.Document.{Edit, edit_of}
use Rattle.mg_engine.specs.Bulk.{are_objects, edits_of, edits_or_refusal}
use Rattle.mg_engine.proofs.Reading.{all_before, edits_before, first_object, later_objects, next_item, none_before, one_more, refused_as}
use Rattle.mg_engine.proofs.bulk.read.read_edits.Goals as goal

pub read_part-requires : goal.read_part-requires
read_part-requires c =
    let l = c.loop-index in
    let vs = c.args.documents in
    let less : l.index < length (item_list vs) = omega (arith, c.len-count.ensures) in
    let step = next_item vs l.index c.item.result less c.item.ensures in
    first_object c.item.result (items_past (l.index + 1) vs) (sym (ap are_objects step) ∙ l.invariant.objects)

pub loop-index-init : goal.loop-index-init
loop-index-init c =
    let n = c.args.new_edits in
    let vs = c.args.documents in
    record {
      objects = c.requires;
      edits = none_before (edits_of n vs) ∙ sym (ap (λ (es : List Edit). edits_before es (edits_of n vs)) c.in_ok-edits.ensures.items);
    }

pub loop-index-preserved : goal.loop-index-preserved
loop-index-preserved c =
    let l = c.loop-index in
    let n = c.args.new_edits in
    let vs = c.args.documents in
    let v = c.item.result in
    let rest = items_past (l.index + 1) vs in
    let found : List Edit = l.edits.items in
    let less : l.index < length (item_list vs) = omega (arith, c.len-count.ensures) in
    let step : items_past l.index vs ≡ item v rest = next_item vs l.index v less c.item.ensures in
    record {
      objects = later_objects v rest (sym (ap are_objects step) ∙ l.invariant.objects);
      edits = l.invariant.edits ∙ ap (λ (ws : Items). edits_before found (edits_of n ws)) step
          ∙ one_more found c.in_ok-edit.edit (edit_of n v) (edits_of n rest) c.in_ok-edit.ensures.edit
          ∙ sym (ap (λ (es : List Edit). edits_before es (edits_of n rest)) c.in_ok-push.ensures.items);
    }

pub returns-in_err-edit : goal.returns-in_err-edit
returns-in_err-edit c =
    let l = c.loop-index in
    let n = c.args.new_edits in
    let vs = c.args.documents in
    let rest = items_past (l.index + 1) vs in
    let found : List Edit = l.edits.items in
    let less : l.index < length (item_list vs) = omega (arith, c.len-count.ensures) in
    let step : items_past l.index vs ≡ item c.item.result rest = next_item vs l.index c.item.result less c.item.ensures in
    let all = l.invariant.edits ∙ ap (λ (ws : Items). edits_before found (edits_of n ws)) step in
    refused_as n (edits_of n vs) found c.in_err-edit.field-0.0 (edit_of n c.item.result) (edits_of n rest) all c.in_err-edit.ensures.edit
    c.from_residual-in_err-edit.result c.from_residual-in_err-edit.ensures

pub returns : goal.returns
returns c =
    let l = c.loop-index in
    let n = c.args.new_edits in
    let vs = c.args.documents in
    let end : l.index ≡ length (item_list vs) = omega (arith, c.len-count.ensures) in
    ap (edits_or_refusal n)
    (l.invariant.edits ∙ ap (λ (ws : Items). edits_before l.edits.items (edits_of n ws)) (past_all vs l.index end) ∙ all_before l.edits.items)
