use Rattle.std.proofs.Common.{◌∙◌, ap}
use Rattle.mg_shard.specs.Documents.{kept_documents}
use Rattle.mg_shard.specs.Shard.{rows_at}
use Rattle.mg_shard.proofs.Catalogued.{rows_found}
use Rattle.mg_shard.proofs.shard.Shard.index_rows.Goals as goal

pub returns : goal.returns
returns c =
    let ddoc = c.args.index.ddoc.now in
    let name = c.args.index.name.now in
    c.rows_there.ensures ∙ rows_found (kept_documents c.self.inside.documents) ddoc name c.self.inside.indexes c.self.invariant.rows ∙ ap (rows_at ddoc name) c.self.view_is
