use Rattle.std.proofs.Common.{ap, ◌∙◌}
use Rattle.mg_value.specs.Value.{list}
use Rattle.mg_query.proofs.Items.{rendered_as_given}
use Rattle.mg_query.proofs.explanation.copy_list.Goals as goal

pub returns : goal.returns
returns c = c.array_of.ensures ∙ ap list c.in_ok-copy.ensures ∙ rendered_as_given c.args.paths.now c.requires
