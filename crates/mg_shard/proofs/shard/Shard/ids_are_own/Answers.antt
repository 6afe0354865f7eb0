use Rattle.std.proofs.Common.{ap, ◌∙◌}
use Rattle.mg_shard.specs.Documents.{form_at}
use Rattle.mg_shard.proofs.Owned.{own_shown}
use Rattle.mg_shard.proofs.shard.Shard.ids_are_own.Goals as goal

pub returns : goal.returns
returns c = λ id form is. own_shown id c.self.inside.documents form (ap (λ v. form_at v.documents id) c.self.view_is ∙ is)
