use Rattle.std.proofs.Common.{◌≡◌, ◌<◌, All, get_or, length, map, arith, ◌∙◌, refl}
use Rattle.std.specs.BinaryHeap.{heap_items}
use Rattle.std.proofs.lemmas.List.{get_or_default, length-map, length-set}
use Rattle.std.proofs.lemmas.List.Sorted.{All-permutation}
use Rattle.mg_merge.specs.Heads.{with_head}
use Rattle.mg_merge.specs.Pulled.{IsGivenBy}
use Rattle.mg_merge.proofs.Fronts.{all_heads, all_with, no_heads}
use Rattle.mg_merge.proofs.Pulls.{first_pulled, from_pulled, from_start, one_given}
use Rattle.mg_merge.proofs.pulled.first_heads.Goals as goal

pub loop-list-init : goal.loop-list-init
loop-list-init g c =
    record {
      size = refl;
      fronts = rw c.in_ok-heads.ensures.items (no_heads g.S.Source.key_of c.args.direction (map g.S.Source.left c.args.sources.now));
      heap = c.in_ok-heads.ensures.heap_order;
      given = rw c.in_ok-heads.ensures.items (λ i d l. absurd (omega arith));
      gives = from_start g.S.Source.offers c.args.sources.now;
    }

pub loop-list-preserved : goal.loop-list-preserved
loop-list-preserved g c =
    let offers = g.S.Source.offers in
    let sources = c.loop-list.sources in
    let start = c.args.sources.now in
    let place = c.loop-list.list in
    let s = get_or sources place c.index-sources-list.result in
    let new = c.pull-item.new.self in
    let l : place < length sources = omega arith in
    let e : s ≡ get_or sources place s = get_or_default sources place c.index-sources-list.result s l in
    let was = c.loop-list.invariant in
    let heads = heap_items c.loop-list.heads in
    let after = heap_items c.push_head.new.heads in
    let pushed = c.in_ok-push_head.ensures.heads in
    let pulled = c.pull-item.result in
    record {
      size = length-set sources place new ∙ was.size;
      fronts = first_pulled g.S.Source.key_of g.S.Source.left c.args.direction sources start place heads after pulled s new was.fronts l was.size e c.pull-item.ensures.item c.pull-item.ensures.end pushed;
      heap = c.in_ok-push_head.ensures.order was.heap;
      given = All-permutation (λ head. IsGivenBy offers start head.item) (with_head pulled place c.args.direction heads) after pushed
          (all_with (λ head. IsGivenBy offers start head.item) pulled place c.args.direction heads was.given (one_given offers start sources place s pulled was.gives l e c.pull-item.ensures.given));
      gives = from_pulled offers start sources place s new was.gives l e c.pull-item.ensures.same;
    }

pub returns-clause-under_way : goal.returns-clause-under_way
returns-clause-under_way g c =
    let left = g.S.Source.left in
    let was = c.loop-list.invariant in
    let size = was.size in
    let started = length-map c.args.sources.now left in
    record {
      size = was.fronts.size;
      order = c.requires;
      fronts = all_heads g.S.Source.key_of c.args.direction (map left c.loop-list.sources) (map left c.args.sources.now) c.loop-list.list (heap_items c.loop-list.heads) (omega (arith, size, started)) was.fronts;
      heap = was.heap;
    }
