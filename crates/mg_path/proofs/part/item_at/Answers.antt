use Rattle.std.proofs.Common.{option_map, ap, ◌∙◌, sym, arith}
use Rattle.mg_value.specs.Value.{item_list}
use Rattle.mg_path.proofs.Places.{none_so_far}
use Rattle.mg_path.proofs.part.item_at.Goals as goal

pub returns-in_err-place : goal.returns-in_err-place
returns-in_err-place g c =
    ap (option_map g.L.LentValue.value) c.from_residual.ensures ∙ sym (none_so_far (item_list (g.L.LentValue.items c.args.items)) _ c.in_err-place.ensures (omega arith))
