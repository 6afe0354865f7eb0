use Rattle.std.proofs.Common.{◌∙◌, ap, length}
use Rattle.mg_shard.specs.Documents.{deleted_of}
use Rattle.mg_shard.proofs.Deleted.{deleted_length}
use Rattle.mg_shard.proofs.shard.Shard.count_deleted.Goals as goal

pub returns : goal.returns
returns c =
    c.len.ensures ∙ ap length c.deleted.ensures.deleted ∙ deleted_length c.self.inside.documents c.deleted.ensures.ascends ∙ ap (λ v. length (deleted_of v.documents)) c.self.view_is
