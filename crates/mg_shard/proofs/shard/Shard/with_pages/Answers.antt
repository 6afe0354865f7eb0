use Rattle.std.proofs.Common.{sym, ap, ◌∙◌}
use Rattle.mg_index.specs.Definition.{IndexDefinition}
use Rattle.mg_shard.specs.Documents.{docs_of}
use Rattle.mg_shard.specs.Rows.{rows_of}
use Rattle.mg_shard.proofs.shard.Shard.with_pages.Goals as goal

pub with-requires : goal.with-requires
with-requires c =
    c.requires ∙ ap (λ (d : IndexDefinition). rows_of d.columns (docs_of c.args.self.now.documents)) (sym c.in_ok-copy.ensures)
