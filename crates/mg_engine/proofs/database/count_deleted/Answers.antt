use Rattle.std.proofs.Common.{◌+◌, ◌∙◌, ap, length}
use Rattle.mg_shard.specs.Documents.{deleted_of}
use Rattle.mg_shard.specs.Shard.{ShardView}
use Rattle.mg_engine.proofs.Counting.{all_counted, one_counted}
use Rattle.mg_engine.proofs.database.count_deleted.Goals as goal

pub loop-i-preserved : goal.loop-i-preserved
loop-i-preserved c =
    let l = c.loop-i in
    let f = λ (s : ShardView). length (deleted_of s.documents) in
    c.in_ok-count.ensures ∙ ap (λ n. l.count + n) (c.count_deleted.ensures ∙ ap f c.deref-shard.ensures)
    ∙ one_counted f c.args.shards.now l.count l.i c.index-shards-i.result l.invariant c.loop-i-test.true c.index-shards-i.is

pub returns : goal.returns
returns c = all_counted (λ s. length (deleted_of s.documents)) c.args.shards.now c.loop-i.count c.loop-i.i c.loop-i.invariant c.loop-i-test.false
