use Rattle.std.proofs.Common.{List, sym, ap, ◌∙◌}
use Rattle.mg_index.specs.Definition.{IndexDefinition, Steps}
use Rattle.mg_shard.specs.Documents.{docs_of}
use Rattle.mg_shard.specs.Rows.{rows_of}
use Rattle.mg_shard.proofs.shard.Shard.with_index.Goals as goal

pub with-requires : goal.with-requires
with-requires c =
    c.in_ok-rows.ensures ∙ ap (λ (columns : List Steps). rows_of columns (docs_of c.args.self.now.documents)) c.columns.ensures
    ∙ ap (λ (d : IndexDefinition). rows_of d.columns (docs_of c.args.self.now.documents)) (sym c.in_ok-copy.ensures)
