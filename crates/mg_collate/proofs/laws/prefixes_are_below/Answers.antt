use Rattle.std.proofs.Common.{◌++◌, ◌∷◌, ◌∙◌}
use Rattle.mg_collate.proofs.Flat.{text_order}
use Rattle.mg_collate.proofs.Ties.{text_prefix, items_prefix, members_prefix}
use Rattle.mg_collate.proofs.laws.prefixes_are_below.Goals as goal

pub returns-clause-strings : goal.returns-clause-strings
returns-clause-strings c s b more = text_order s (s ++ b ∷ more) ∙ text_prefix s b more

pub returns-clause-arrays : goal.returns-clause-arrays
returns-clause-arrays c = items_prefix

pub returns-clause-objects : goal.returns-clause-objects
returns-clause-objects c = members_prefix
