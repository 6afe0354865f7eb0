use Rattle.std.proofs.Common.{◌≡◌, Some, drop}
use Rattle.mg_normal.specs.Normal.{all_hold}
use Rattle.mg_normal.specs.View.{atoms_view}
use Rattle.mg_normal.proofs.atom.all_hold.Given as goal

-- the result for all is the result for what is left
abbrev pub invariant-loop-atom : goal.invariant-loop-atom
invariant-loop-atom g l =
    let x = Some (g.L.LentValue.value l.fn.document) in
    all_hold x (atoms_view l.atoms) ≡ all_hold x (atoms_view (drop l.atom-index l.atoms))
