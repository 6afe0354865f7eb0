use Rattle.std.proofs.Common.{length, map, arith}
use Rattle.std.specs.BinaryHeap.{heap_items}
use Rattle.std.proofs.lemmas.List.{length-map}
use Rattle.std.proofs.lemmas.List.Sums.{count_by-le-length}
use Rattle.mg_merge.specs.Merged.{order_by}
use Rattle.mg_merge.specs.Pulled.{has_item}
use Rattle.mg_merge.proofs.Fronts.{left_counted}
use Rattle.mg_merge.proofs.Pulls.{first_items, left_size, taken_count}
use Rattle.mg_merge.proofs.pulled.merge_sources.Goals as goal

pub take_items-requires : goal.take_items-requires
take_items-requires g c =
    let begun = c.in_ok-heads.ensures.under_way in
    let left = g.S.Source.left in
    let size = begun.size in
    let now = length-map c.first_heads.new.sources left in
    let was = length-map c.args.sources.now left in
    λ i d l. let within = (begun.fronts.each i d l).1 in omega (arith, within, size, now, was)

pub returns-clause-items : goal.returns-clause-items
returns-clause-items g c =
    let lists = map g.S.Source.left c.args.sources.now in
    let direction = c.args.direction in
    let items = c.in_ok-items.items.items in
    let done = c.in_ok-items.ensures.goes_on direction lists c.in_ok-heads.ensures.under_way in
    let size = length-map items g.S.Source.key_of in
    let within = c.in_ok-items.ensures.within in
    first_items (order_by g.S.Source.key_row direction) c.args.take lists done.0 (map g.S.Source.key_of items) done.2 (omega (arith, size, within))
    (λ fewer. c.in_ok-items.ensures.end direction (omega (arith, size, fewer)) done.0 done.1)

pub returns-clause-given : goal.returns-clause-given
returns-clause-given g c = c.in_ok-items.ensures.given c.args.sources.now c.in_ok-heads.ensures.given c.in_ok-heads.ensures.gives

pub returns-clause-number : goal.returns-clause-number
returns-clause-number g c =
    let done = c.in_ok-items.ensures.goes_on c.args.direction (map g.S.Source.left c.args.sources.now) c.in_ok-heads.ensures.under_way in
    let size = length-map c.in_ok-items.items.items g.S.Source.key_of in
    let number = done.1.fronts.number in
    (done.0, done.2, omega (arith, size, number))

pub returns-clause-pulled : goal.returns-clause-pulled
returns-clause-pulled g c =
    let left = g.S.Source.left in
    let done = c.in_ok-items.ensures.goes_on c.args.direction (map left c.args.sources.now) c.in_ok-heads.ensures.under_way in
    let number = done.1.fronts.number in
    let fewer = count_by-le-length has_item done.0 in
    let size = left_size done.0 (map left c.args.sources.now) done.2.0 in
    let was = length-map c.args.sources.now left in
    let within = c.in_ok-items.ensures.within in
    omega (arith, number, fewer, size, was, within)

pub returns-clause-left : goal.returns-clause-left
returns-clause-left g c =
    let left = g.S.Source.left in
    let direction = c.args.direction in
    let lists = map left c.args.sources.now in
    let items = c.in_ok-items.items.items in
    let done = c.in_ok-items.ensures.goes_on direction lists c.in_ok-heads.ensures.under_way in
    let size = length-map items g.S.Source.key_of in
    let all = taken_count (order_by g.S.Source.key_row direction) lists done.0 (map g.S.Source.key_of items) done.2 in
    let more = left_counted g.S.Source.key_of direction (map left c.take_items.new.sources) done.0 (heap_items c.take_items.new.heads) done.1.size done.1.fronts in
    omega (arith, size, all, more)
