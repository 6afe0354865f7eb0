use Rattle.std.proofs.Common.{sym, ◌∙◌}
use Rattle.mg_shard.proofs.Catalogued.{found-named, named_at}
use Rattle.mg_shard.proofs.index_list.index_there.Goals as goal

pub returns-then-is_named : goal.returns-then-is_named
returns-then-is_named c =
    let index = c.args.index in
    named_at index.ddoc.now index.name.now c.args.indexes.now index.place c.in-Some.entry.now c.ascends.ensures c.in-Some.ensures (sym c.is_named.ensures ∙ c.if-is_named.true)

pub returns : goal.returns
returns c = c.get.ensures ∙ found-named c.args.index.ddoc.now c.args.index.name.now c.args.indexes.now
