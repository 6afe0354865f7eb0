use Rattle.std.proofs.Common.{option_map, ap, ◌∙◌}
use Rattle.mg_value.specs.View.{view}
use Rattle.mg_value.proofs.Lookup.{view-lookup, view_of_ref}
use Rattle.mg_value.proofs.lent.RefJsonLentValue.member.Goals as goal

pub returns : goal.returns
returns c = view_of_ref c.get.result ∙ ap (option_map view) c.get.ensures.value ∙ view-lookup c.args.name.now c.args.object.now.now.entries
