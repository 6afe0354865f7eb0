use Rattle.std.proofs.Common.{◌≡◌, ◌-◌, ◌∷◌, ◌++◌, [], All, List, ap, drop, length, map, subst, sym, ◌∙◌, arith}
use Rattle.std.proofs.lemmas.List.{drop-map}
use Rattle.mg_collate.specs.Sorted.{IsInOrder}
use Rattle.mg_merge.specs.Merged.{merged}
use Rattle.mg_merge.specs.Pulled.{IsGivenBy}
use Rattle.mg_shard.specs.Shard.{ShardView}
use Rattle.mg_scan.specs.Decided.{IsDecidedIn}
use Rattle.mg_scan.specs.Hit.{AreHitsIn, IsHitOf, hit_row}
use Rattle.mg_scan.specs.Search.{found_by}
use Rattle.mg_scan.specs.Sourced.{rest_of}
use Rattle.mg_scan.specs.declared.source.Source.{Source}
use Rattle.mg_scan.proofs.AfterFirst.{one_given, one_in_order, one_merged, one_seen}
use Rattle.mg_scan.proofs.Sources.{given_within}
use Rattle.mg_scan.proofs.pulling.pull_rows_of_one.Goals as goal

pub merge_pulled-requires : goal.merge_pulled-requires
merge_pulled-requires c =
    let s = c.args.search in
    let src = c.source_after-source.ensures.source in
    subst (λ (sources : List Source). All (IsInOrder s.direction) (map rest_of sources)) (sym (c.deref_mut.ensures.value ∙ c.in_ok-push.ensures.items ∙ ap (λ (xs : List Source). xs ++ c.source_after-source.result.0 ∷ []) c.in_ok-sources.ensures.items))
    (one_in_order s _ c.deref-shard.result.now _ src)

pub returns-clause-rows : goal.returns-clause-rows
returns-clause-rows c =
    let s = c.args.search in
    let skip = c.args.skip in
    let n = c.source_after-source.result.1 in
    let source = c.source_after-source.result.0 in
    let shard = c.deref-shard.result.now in
    let src = c.source_after-source.ensures.source in
    let sources : c.deref_mut.result.now ≡ source ∷ [] = c.deref_mut.ensures.value ∙ c.in_ok-push.ensures.items ∙ ap (λ (xs : List Source). xs ++ c.source_after-source.result.0 ∷ []) c.in_ok-sources.ensures.items in
    let seen = one_seen c.args.shards.now c.index-shards-0.result shard c.requires.one c.index-shards-0.is c.deref-shard.ensures in
    let decided = subst (All (IsDecidedIn s.target s.normal.now s.range.now)) seen c.requires.decided in
    sym (drop-map hit_row (skip - n) c.in_ok-hits.hits.items)
    ∙ ap (drop (skip - n)) (c.in_ok-hits.ensures.rows ∙ ap (λ (xs : List Source). merged s.direction c.saturating_sub-wanted.result (map rest_of xs)) sources)
    ∙ one_merged s n shard source src skip c.saturating_sub-wanted.result c.source_after-source.ensures.within c.saturating_sub-wanted.ensures decided
    ∙ ap (λ (xs : List ShardView). drop skip (merged s.direction s.take (map (found_by s) xs))) (sym seen)

pub returns-clause-hits : goal.returns-clause-hits
returns-clause-hits c =
    let s = c.args.search in
    let source = c.source_after-source.result.0 in
    let shard = c.deref-shard.result.now in
    let sources : c.deref_mut.result.now ≡ source ∷ [] = c.deref_mut.ensures.value ∙ c.in_ok-push.ensures.items ∙ ap (λ (xs : List Source). xs ++ c.source_after-source.result.0 ∷ []) c.in_ok-sources.ensures.items in
    let seen = one_seen c.args.shards.now c.index-shards-0.result shard c.requires.one c.index-shards-0.is c.deref-shard.ensures in
    let hits = c.in_ok-hits.hits.items in
    subst (λ (xs : List ShardView). AreHitsIn xs hits) (sym seen)
    (one_given s c.source_after-source.result.1 shard source c.source_after-source.ensures.source hits
    (subst (λ (xs : List Source). All (IsGivenBy (λ (x : Source). IsHitOf x.shard.now) xs) hits) sources c.in_ok-hits.ensures.given))

pub returns-clause-pulled : goal.returns-clause-pulled
returns-clause-pulled c =
    let sources : c.deref_mut.result.now ≡ c.source_after-source.result.0 ∷ [] = c.deref_mut.ensures.value ∙ c.in_ok-push.ensures.items ∙ ap (λ (xs : List Source). xs ++ c.source_after-source.result.0 ∷ []) c.in_ok-sources.ensures.items in
    omega (arith, ap length sources, c.in_ok-hits.ensures.pulled, c.requires.one, c.saturating_sub-wanted.ensures)

pub returns-clause-given : goal.returns-clause-given
returns-clause-given c = given_within _ _ c.in_ok-hits.hits.items _ c.in_ok-hits.ensures.number
