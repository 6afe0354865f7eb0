use Rattle.mg_index.specs.Catalog.{definition_at}
use Rattle.mg_scan.proofs.Begun.{none_begun, rows_begun}
use Rattle.mg_scan.proofs.unread.unread_in_index.Goals as goal

pub returns-in-Some : goal.returns-in-Some
returns-in-Some c =
    let shard = c.args.shard.now in
    rows_begun c.args.search shard.documents (definition_at c.args.index.ddoc.now c.args.index.name.now shard.definitions) c.in-Some.rows c.in-Some.ensures

pub returns-in-None : goal.returns-in-None
returns-in-None c =
    let shard = c.args.shard.now in
    none_begun c.args.search shard.documents (definition_at c.args.index.ddoc.now c.args.index.name.now shard.definitions) c.in-None.ensures
