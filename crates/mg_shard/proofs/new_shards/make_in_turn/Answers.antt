use Rattle.std.proofs.Common.{◌+◌, List, [], ◌∷◌, ap, length, length-append, sym, ◌∙◌, subst}
use Rattle.mg_shard.specs.Index.{definitions_of}
use Rattle.mg_shard.specs.Redealt.{AreMade, documents_view}
use Rattle.mg_shard.specs.Shard.{ShardView}
use Rattle.mg_shard.proofs.Redealing.{one_made}
use Rattle.mg_shard.proofs.new_shards.make_in_turn.Goals as goal

pub loop-i-preserved : goal.loop-i-preserved
loop-i-preserved c =
    let l = c.loop-i in
    let those = definitions_of c.args.indexes.now in
    record {
      number = ap length c.in_ok-push.ensures.items ∙ length-append l.shards.items (c.in_ok-make_shard.field-0 ∷ []) ∙ ap (λ n. n + 1) l.invariant.number;
      made = subst (λ (ss : List ShardView). AreMade (documents_view c.args.documents.now) c.args.places.now those ss) (sym c.in_ok-push.ensures.items)
          (one_made (documents_view c.args.documents.now) c.args.places.now those l.shards.items l.i c.in_ok-make_shard.field-0 l.invariant.number l.invariant.made c.in_ok-make_shard.ensures);
    }
