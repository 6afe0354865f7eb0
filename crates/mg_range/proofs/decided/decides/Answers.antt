use Rattle.std.proofs.Common.{ap, sym, ◌∙◌}
use Rattle.std.specs.List.{list_all}
use Rattle.mg_normal.specs.View.{atoms_view}
use Rattle.mg_range.specs.Decided.{bounds_one}
use Rattle.mg_range.proofs.Leading.{all_leading}
use Rattle.mg_range.proofs.decided.decides.Goals as goal

pub loop-atom-init : goal.loop-atom-init
loop-atom-init c =
    let atoms = atoms_view c.args.atoms.now in
    all_leading atoms c.args.columns.now ∙ ap (λ cs. list_all (bounds_one cs) atoms) (sym c.bounded_columns-bounded.ensures)
