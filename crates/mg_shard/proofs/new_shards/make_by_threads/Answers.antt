use denote.Param.Send.{sendable}
use Rattle.std.proofs.Common.{◌≡◌, ℕ, List, IfOk, ap, ◌∙◌, arith, subst}
use Rattle.std.proofs.Crossing.{crosses}
use Rattle.std.proofs.MapsCrossing.{crosses as maps}
use Rattle.std.specs.List.{AllZip, range_with_len}
use Rattle.rayon.proofs.ListFacts.{AllZip-weaken}
use Rattle.mg_shard.specs.Index.{definitions_of}
use Rattle.mg_shard.specs.Redealt.{IsMade, documents_view}
use Rattle.mg_shard.proofs.Crossing.{shard_send}
use Rattle.mg_shard.proofs.Together.{Given, shards_made, shards_number}
use Rattle.mg_shard.proofs.new_shards.make_by_threads.Goals as goal

-- a shard, and the result of each thread, may cross threads
pub map-requires-send-U : goal.map-requires-send-U
map-requires-send-U g c κs within = search (sendable, crosses, maps, shard_send) depth 40

pub collect-requires-send-Self-Item : goal.collect-requires-send-Self-Item
collect-requires-send-Self-Item g c κs within = search (sendable, crosses, maps, shard_send) depth 40

pub collect-requires-send-C : goal.collect-requires-send-C
collect-requires-send-C g c κs within = search (sendable, crosses, maps, shard_send) depth 40

pub returns-clause-number : goal.returns-clause-number
returns-clause-number g c =
    let chain = c.in_ok-made.ensures.1 in
    let P = IsMade (documents_view c.args.documents.now) c.args.places.now (definitions_of c.args.indexes.now) in
    let places : chain.0 ≡ range_with_len 0 c.args.count =
    (rw (c.map.ensures.base, c.with_min_len.ensures.base, c.into_par_iter.ensures.0, c.into_par_iter.ensures.1) at chain.1) ∙ ap (range_with_len 0) (omega arith) in
    shards_number P c.args.count c.in_ok-made.ensures.0 c.in_ok-made.made
    (subst (λ (xs : List ℕ). AllZip (λ i (r : Given). IfOk r (P i)) xs c.in_ok-made.ensures.0) places
    (AllZip-weaken _ (λ i (r : Given). IfOk r (P i)) (λ i r h. rw c.map.ensures.f at h) chain.0 c.in_ok-made.ensures.0 chain.2))
    c.in_ok-made.ensures.2

pub returns-clause-made : goal.returns-clause-made
returns-clause-made g c =
    let chain = c.in_ok-made.ensures.1 in
    let P = IsMade (documents_view c.args.documents.now) c.args.places.now (definitions_of c.args.indexes.now) in
    let places : chain.0 ≡ range_with_len 0 c.args.count =
    (rw (c.map.ensures.base, c.with_min_len.ensures.base, c.into_par_iter.ensures.0, c.into_par_iter.ensures.1) at chain.1) ∙ ap (range_with_len 0) (omega arith) in
    shards_made P c.args.count c.in_ok-made.ensures.0 c.in_ok-made.made
    (subst (λ (xs : List ℕ). AllZip (λ i (r : Given). IfOk r (P i)) xs c.in_ok-made.ensures.0) places
    (AllZip-weaken _ (λ i (r : Given). IfOk r (P i)) (λ i r h. rw c.map.ensures.f at h) chain.0 c.in_ok-made.ensures.0 chain.2))
    c.in_ok-made.ensures.2
