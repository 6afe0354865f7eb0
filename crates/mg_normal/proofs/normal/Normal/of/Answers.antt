use Rattle.std.proofs.Common.{◌≡◌, [], ◌∙◌, rules}
use Rattle.mg_selector.specs.View.{selector_of}
use Rattle.mg_normal.specs.Says.{condition_atoms}
use Rattle.mg_normal.specs.View.{condition_of, atoms_view}
use Rattle.mg_normal.proofs.Parted.{normal_meaning}
use Rattle.mg_normal.proofs.normal.Normal.of.Goals as goal

pub returns : goal.returns
returns c =
    let s = selector_of c.args.selector.now in
    let f = condition_of c.in_ok-condition.condition in
    let atoms : atoms_view c.take_atoms.new.atoms.items ≡ condition_atoms f [] = search rules in record {
      meaning = normal_meaning s f _ _ c.in_ok-condition.ensures atoms c.in_ok-rest.ensures.rest;
      atoms = atoms ∙ c.in_ok-condition.ensures.1 [];
    }
