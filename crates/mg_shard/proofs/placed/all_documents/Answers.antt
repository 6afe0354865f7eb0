use Rattle.std.proofs.Common.{◌≡◌, ◌+◌, ◌++◌, List, [], ◌∷◌, arith, length, take, sym, ap, ◌∙◌, add-one}
use Rattle.std.proofs.Math.Seq.{take-length}
use Rattle.std.specs.Arc.{arc_value}
use Rattle.std.specs.FinMap.{get}
use Rattle.std.specs.Option.{option_or}
use Rattle.mg_shard.specs.Documents.{KeptDocuments}
use Rattle.mg_shard.specs.Redealt.{documents_in, documents_view, kept_in, last_kept}
use Rattle.mg_shard.specs.Shard.{ShardView, shards_view}
use Rattle.mg_shard.proofs.Redealing.{documents_more, one_shard}
use Rattle.mg_shard.proofs.placed.all_documents.Goals as goal

pub loop-shard-preserved : goal.loop-shard-preserved
loop-shard-preserved c = λ id.
    let l = c.loop-shard in
    let shards = c.args.shards.now in
    let from : List KeptDocuments = documents_in (shards_view (take l.shard-index shards)) in
    let one : from ++ (arc_value c.shard-item.result).documents ∷ [] ≡ documents_in (shards_view (take (l.shard-index + 1) shards)) =
    sym (ap (λ n. documents_in (shards_view (take n shards))) (add-one l.shard-index) ∙ documents_more shards l.shard-index c.shard-item.result c.loop-shard-test.true c.shard-item.is) in
    one_shard from (arc_value c.shard-item.result).documents id (last_kept (documents_view l.all.items) id) (last_kept (documents_view c.add_documents.new.all.items) id)
    (l.invariant id)
    (c.in_ok-add_documents.ensures id ∙ ap (λ (s : ShardView). option_or (get s.documents id) (last_kept (documents_view l.all.items) id)) c.deref.ensures)
    ∙ ap (λ (ms : List KeptDocuments). kept_in ms id) one

pub returns : goal.returns
returns c = λ id.
    let l = c.loop-shard in
    let shards = c.args.shards.now in
    let over : l.shard-index ≡ length shards = omega (arith, l.auto.shard-index-end, c.loop-shard-test.false) in
    l.invariant id ∙ ap (λ n. kept_in (documents_in (shards_view (take n shards))) id) over ∙ ap (λ ss. kept_in (documents_in (shards_view ss)) id) (take-length shards)
