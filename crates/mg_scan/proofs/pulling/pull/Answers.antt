use Rattle.std.proofs.Common.{All, List, ap, length, map, option_map, sym, subst, ◌∙◌, arith}
use Rattle.mg_collate.specs.Sorted.{IsInOrder}
use Rattle.mg_merge.specs.Merged.{merged}
use Rattle.mg_merge.specs.Pulled.{IsGivenBy}
use Rattle.mg_shard.specs.Shard.{shards_view}
use Rattle.mg_scan.specs.Hit.{IsHitOf}
use Rattle.mg_scan.specs.Sourced.{IsSourceOf, asked, rest_of}
use Rattle.mg_scan.specs.declared.hit.Hit.{Hit}
use Rattle.mg_scan.specs.declared.source.Source.{Source}
use Rattle.mg_scan.proofs.Maps.{length-view}
use Rattle.mg_scan.proofs.Sources.{given_within, hits_given, rests_in_order, rests_merged, rests_size}
use Rattle.mg_scan.proofs.pulling.pull.Goals as goal

pub merge_pulled-requires : goal.merge_pulled-requires
merge_pulled-requires c =
    subst (λ (sources : List Source). All (IsInOrder c.args.search.direction) (map rest_of sources)) (sym c.deref_mut.ensures.value)
    (rests_in_order (asked (option_map (λ n. n.now) c.args.selector)) _ (shards_view c.args.shards.now) c.in_ok-sources.sources.items c.in_ok-sources.ensures)

pub returns-clause-rows : goal.returns-clause-rows
returns-clause-rows c =
    c.in_ok-hits.ensures.rows
    ∙ ap (λ (sources : List Source). merged c.args.search.direction c.args.search.take (map rest_of sources)) c.deref_mut.ensures.value
    ∙ rests_merged (asked (option_map (λ n. n.now) c.args.selector)) _ (shards_view c.args.shards.now) c.in_ok-sources.sources.items c.in_ok-sources.ensures

pub returns-clause-hits : goal.returns-clause-hits
returns-clause-hits c =
    hits_given (IsSourceOf c.args.search (asked (option_map (λ n. n.now) c.args.selector))) (λ shard x is. is.same_shard) (shards_view c.args.shards.now) c.in_ok-sources.sources.items c.in_ok-sources.ensures c.in_ok-hits.hits.items
    (subst (λ (sources : List Source). All (IsGivenBy (λ (x : Source) (h : Hit). IsHitOf x.shard.now h) sources) c.in_ok-hits.hits.items) c.deref_mut.ensures.value c.in_ok-hits.ensures.given)

pub returns-clause-pulled : goal.returns-clause-pulled
returns-clause-pulled c =
    let same = ap length c.deref_mut.ensures.value in
    let size = rests_size (asked (option_map (λ n. n.now) c.args.selector)) _ (shards_view c.args.shards.now) c.in_ok-sources.sources.items c.in_ok-sources.ensures in
    let seen = length-view c.args.shards.now in
    let within = c.in_ok-hits.ensures.pulled in
    omega (arith, same, size, seen, within)

pub returns-clause-given : goal.returns-clause-given
returns-clause-given c = given_within _ _ c.in_ok-hits.hits.items _ c.in_ok-hits.ensures.number
