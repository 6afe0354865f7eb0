use Rattle.std.proofs.Common.{◌<◌, All, get_or, length, arith, subst, sym}
use Rattle.std.specs.BinaryHeap.{heap_items}
use Rattle.std.proofs.lemmas.List.{get_or_default, length-set}
use Rattle.mg_merge.specs.Pulled.{IsGivenBy}
use Rattle.mg_merge.proofs.Fronts.{some_of_all}
use Rattle.mg_merge.proofs.Pulls.{all_after, from_pulled, no_items, one_given, source_step, top_has}
use Rattle.mg_merge.proofs.pulled.take_first.Goals as goal

pub bounds-sources-list : goal.bounds-sources-list
bounds-sources-list g c =
    let within = top_has (λ head. head.list < length c.args.sources.now) (heap_items c.args.heads.now) c.in-Some.first (heap_items c.pop.new.self) c.in-Some.ensures.permutation c.requires in
    omega (arith, within)

pub returns-clause-within : goal.returns-clause-within
returns-clause-within g c =
    let sources = c.args.sources.now in
    let first = c.in-Some.first in
    let within = top_has (λ head. head.list < length sources) (heap_items c.args.heads.now) first (heap_items c.pop.new.self) c.in-Some.ensures.permutation c.requires in
    subst (λ n. All (λ head. head.list < n) (heap_items c.push_head.new.heads)) (sym (length-set sources first.list c.pull-next.new.self))
    (all_after (λ head. head.list < length sources) (heap_items c.args.heads.now) first (heap_items c.pop.new.self) c.pull-next.result (heap_items c.push_head.new.heads)
    c.in-Some.ensures.permutation c.in_ok-push_head.ensures.heads c.requires (some_of_all c.pull-next.result within))

pub returns-clause-goes_on : goal.returns-clause-goes_on
returns-clause-goes_on g c = λ direction.
    let sources = c.args.sources.now in
    let first = c.in-Some.first in
    let s = get_or sources first.list c.index-sources-list.result in
    let l = top_has (λ head. head.list < length sources) (heap_items c.args.heads.now) first (heap_items c.pop.new.self) c.in-Some.ensures.permutation c.requires in
    source_step g.S.Source.key_of g.T.Ranked.row_of g.S.Source.key_row g.met.S.Source.same_row g.S.Source.left direction sources (heap_items c.args.heads.now) first (heap_items c.pop.new.self) c.pull-next.result s c.pull-next.new.self
    (heap_items c.push_head.new.heads) l (get_or_default sources first.list c.index-sources-list.result s l) c.in-Some.ensures.permutation (λ h. (c.in-Some.ensures.heap_order h).1) c.pull-next.ensures.item c.pull-next.ensures.end
    c.in_ok-push_head.ensures.heads (λ h. c.in_ok-push_head.ensures.order ((c.in-Some.ensures.heap_order h).0))

pub returns-clause-given : goal.returns-clause-given
returns-clause-given g c = λ start all from.
    let offers = g.S.Source.offers in
    let sources = c.args.sources.now in
    let first = c.in-Some.first in
    let s = get_or sources first.list c.index-sources-list.result in
    let l = top_has (λ head. head.list < length sources) (heap_items c.args.heads.now) first (heap_items c.pop.new.self) c.in-Some.ensures.permutation c.requires in
    let e = get_or_default sources first.list c.index-sources-list.result s l in (
      top_has (λ head. IsGivenBy offers start head.item) (heap_items c.args.heads.now) first (heap_items c.pop.new.self) c.in-Some.ensures.permutation all,
      all_after (λ head. IsGivenBy offers start head.item) (heap_items c.args.heads.now) first (heap_items c.pop.new.self) c.pull-next.result (heap_items c.push_head.new.heads) c.in-Some.ensures.permutation c.in_ok-push_head.ensures.heads all
          (one_given offers start sources first.list s c.pull-next.result from l e c.pull-next.ensures.given),
      from_pulled offers start sources first.list s c.pull-next.new.self from l e c.pull-next.ensures.same,
    )

pub returns-in_default-clause-end : goal.returns-in_default-clause-end
returns-in_default-clause-end g c =
    let size = c.pop.new.self.data.ok.0 in
    let none = c.in_default.ensures.none in
    let same = c.in_default.ensures.unchanged.1 in
    no_items c.pop.new.self.data.items (omega (arith, size, none, same))
