use Rattle.std.proofs.Common.{◌≡◌, ◌<◌, ◌^◌, w64, arith, suc, pos, codes, length, sym, ap, ap₂, ◌∙◌}
use Rattle.std.proofs.lemmas.Int.{to_z_pos}
use Rattle.std.proofs.lemmas.List.{length-map}
use Rattle.mg_value.specs.Value.{list, whole, with_member}
use Rattle.mg_engine.proofs.Collecting.{view-Whole}
use Rattle.mg_value.specs.View.{items_of, view}
use Rattle.mg_value.proofs.Views.{view-List}
use Rattle.mg_index.specs.Definition.{listed_of}
use Rattle.mg_engine.proofs.define.indexes_json.Goals as goal

pub returns : goal.returns
returns c =
    let ds = c.args.definitions.now in
    let listed = c.in_ok-listed.listed in
    let items = view-List listed ∙ ap (λ vs. list (items_of vs)) c.in_ok-listed.ensures in
    let number : c.len-rows.result ≡ suc (length ds) =
    c.len-rows.ensures ∙ listed.ok.0 ∙ sym (length-map listed.items view) ∙ ap length c.in_ok-listed.ensures ∙ ap suc (length-map ds listed_of) in
    let small : c.len-rows.result < 2 ^ 63 = omega (arith, c.len-rows.ensures, listed.ok.1, listed.small) in
    let total = view-Whole _ ∙ ap whole (to_z_pos w64 c.len-rows.result small ∙ ap pos number) in
    c.in_ok-insert-2.ensures.ok ∙ ap₂ (λ v w. with_member (codes "indexes") v w) items
    (c.in_ok-insert.ensures.ok ∙ ap₂ (λ v w. with_member (codes "total_rows") v w) total c.empty_object-indexes.ensures)
