use Rattle.std.proofs.Common.{List, [], ◌∷◌, refl, subst}
use Rattle.std.specs.List.{AllByRecursion}
use Rattle.mg_pages.proofs.Sorted.{all_left, all_right}
use Rattle.mg_scan.specs.Worked.{AreHitsFoundAt}
use Rattle.mg_scan.specs.declared.workers.ShardHits.{ShardHits}
use Rattle.mg_scan.proofs.Maps.{slots-set}
use Rattle.mg_scan.proofs.workers.put_in_slots.Goals as goal

pub loop-shard-init : goal.loop-shard-init
loop-shard-init c = (λ search shards done slots. (done, slots), refl)

pub loop-shard-preserved-then-shard-len : goal.loop-shard-preserved-then-shard-len
loop-shard-preserved-then-shard-len c = (
  λ search shards done slots.
      let i = c.loop-shard.invariant.0 search shards done slots in
      let P : ShardHits → Type 0 = λ d. AreHitsFoundAt search shards d.shard d.hits.items in
      let d = c.in-Some.field-0 in
      let whole = subst (λ (ds : List ShardHits). AllByRecursion P ds) c.in-Some.ensures.items i.0 in
      (all_left P c.pop.new.self.items (d ∷ []) whole, slots-set search shards c.loop-shard.slots.items d.shard d.hits i.1 (all_right P c.pop.new.self.items (d ∷ []) whole).0),
  c.loop-shard.invariant.1,
)

pub loop-shard-preserved-then-shard-len-2 : goal.loop-shard-preserved-then-shard-len-2
loop-shard-preserved-then-shard-len-2 c = (
  λ search shards done slots.
      let i = c.loop-shard.invariant.0 search shards done slots in
      let P : ShardHits → Type 0 = λ d. AreHitsFoundAt search shards d.shard d.hits.items in
      let d = c.in-Some.field-0 in
      let whole = subst (λ (ds : List ShardHits). AllByRecursion P ds) c.in-Some.ensures.items i.0 in
      (all_left P c.pop.new.self.items (d ∷ []) whole, slots-set search shards c.loop-shard.slots.items d.shard d.hits i.1 (all_right P c.pop.new.self.items (d ∷ []) whole).0),
  c.loop-shard.invariant.1,
)

pub loop-shard-preserved : goal.loop-shard-preserved
loop-shard-preserved c = (
  λ search shards done slots.
      let i = c.loop-shard.invariant.0 search shards done slots in
      let P : ShardHits → Type 0 = λ d. AreHitsFoundAt search shards d.shard d.hits.items in
      let d = c.in-Some.field-0 in
      (all_left P c.pop.new.self.items (d ∷ []) (subst (λ (ds : List ShardHits). AllByRecursion P ds) c.in-Some.ensures.items i.0), i.1),
  c.loop-shard.invariant.1,
)

pub returns-clause-slots : goal.returns-clause-slots
returns-clause-slots c = λ search shards done slots. (c.loop-shard.invariant.0 search shards done slots).1
