use Rattle.std.proofs.Common.{◌∙◌, [], ap, option_map, sym}
use Rattle.std.specs.Arc.{arc_value}
use Rattle.std.specs.Option.{unwrap_or}
use Rattle.mg_revtree.proofs.Kept.{copy_with}
use Rattle.mg_revtree.proofs.links.older.Older.with.Goals as goal

pub returns-in-None : goal.returns-in-None
returns-in-None c = copy_with c.args.self.now c.args.newer.now c.copy.result (sym c.self.view_is ∙ ap (λ o. unwrap_or (option_map arc_value o) []) c.in-None.is) c.copy.ensures
