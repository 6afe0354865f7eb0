use Rattle.std.proofs.Common.{List, ap, option_map, sym, subst, refl, ◌∙◌}
use Rattle.mg_collate.specs.Row.{RowValue}
use Rattle.mg_scan.specs.Hit.{hit_row}
use Rattle.mg_scan.specs.RangeEnd.{AreBeforeEnd, EndsOnce}
use Rattle.mg_scan.specs.Kept.{AreServed}
use Rattle.mg_scan.specs.Sourced.{asked, with_selector}
use Rattle.mg_scan.specs.Way.{walked_all_by}
use Rattle.mg_scan.specs.Walked.{holds_at, is_late_row}
use Rattle.mg_scan.proofs.Ends.{ends_on}
use Rattle.mg_scan.proofs.Sources.{on_found, on_late, on_miss}
use Rattle.mg_scan.proofs.finding.next_of_rows.Goals as goal

pub loop-row-init : goal.loop-row-init
loop-row-init c = record { rows = refl; ordered = c.requires.0; sure = c.requires.1; served = c.requires.2 }

pub comes_before-requires : goal.comes_before-requires
comes_before-requires c =
    let l = c.loop-row in
    record {
      ordered = subst (EndsOnce c.args.search) c.in-Some.ensures.steps l.invariant.ordered;
      sure = subst (λ (rows : List RowValue). AreBeforeEnd c.args.search rows l.range_end.sure) c.in-Some.ensures.steps l.invariant.sure;
    }

pub returns-then-comes_before-clause-end : goal.returns-then-comes_before-clause-end
returns-then-comes_before-clause-end c =
    let s = with_selector (asked (option_map (λ n. n.now) c.args.selector)) c.args.search in
    let ds = c.args.shard.now.documents in
    let row = c.in-Some.row.now in
    on_late (is_late_row s.direction s.range.now) (holds_at s.normal.now ds row.1) (walked_all_by s ds c.args.rows.now) row (walked_all_by s ds c.next.new.self)
    (sym c.comes_before.ensures.late ∙ c.if-comes_before.true)
    (c.loop-row.invariant.rows ∙ ap (walked_all_by s ds) c.in-Some.ensures.steps)

pub returns-then-comes_before-clause-ordered : goal.returns-then-comes_before-clause-ordered
returns-then-comes_before-clause-ordered c = ends_on c.args.search c.in-Some.row.now c.next.new.self (subst (EndsOnce c.args.search) c.in-Some.ensures.steps c.loop-row.invariant.ordered)

pub returns-then-comes_before-clause-served : goal.returns-then-comes_before-clause-served
returns-then-comes_before-clause-served c = (subst (AreServed c.args.shard.now.documents) c.in-Some.ensures.steps c.loop-row.invariant.served).1

pub returns-then-is_some-clause-found : goal.returns-then-is_some-clause-found
returns-then-is_some-clause-found c =
    let s = with_selector (asked (option_map (λ n. n.now) c.args.selector)) c.args.search in
    let ds = c.args.shard.now.documents in
    let row = c.in-Some.row.now in
    on_found hit_row (is_late_row s.direction s.range.now) (holds_at s.normal.now ds row.1) (walked_all_by s ds c.args.rows.now) row (walked_all_by s ds c.next.new.self) c.hit_at_row-found.result
    (sym c.comes_before.ensures.late ∙ c.if-comes_before.false) (c.hit_at_row-found.ensures.row)
    (c.loop-row.invariant.rows ∙ ap (walked_all_by s ds) c.in-Some.ensures.steps)

pub returns-then-is_some-clause-ordered : goal.returns-then-is_some-clause-ordered
returns-then-is_some-clause-ordered c = ends_on c.args.search c.in-Some.row.now c.next.new.self (subst (EndsOnce c.args.search) c.in-Some.ensures.steps c.loop-row.invariant.ordered)

pub returns-then-is_some-clause-served : goal.returns-then-is_some-clause-served
returns-then-is_some-clause-served c = (subst (AreServed c.args.shard.now.documents) c.in-Some.ensures.steps c.loop-row.invariant.served).1

pub loop-row-preserved : goal.loop-row-preserved
loop-row-preserved c =
    let s = with_selector (asked (option_map (λ n. n.now) c.args.selector)) c.args.search in
    let ds = c.args.shard.now.documents in
    let row = c.in-Some.row.now in
    record {
      rows = on_miss hit_row (is_late_row s.direction s.range.now) (holds_at s.normal.now ds row.1) (walked_all_by s ds c.args.rows.now) row (walked_all_by s ds c.next.new.self) c.hit_at_row-found.result
          (sym c.comes_before.ensures.late ∙ c.if-comes_before.false) (c.hit_at_row-found.ensures.row) (sym c.is_some.ensures ∙ c.if-is_some.false)
          (c.loop-row.invariant.rows ∙ ap (walked_all_by s ds) c.in-Some.ensures.steps);
      ordered = ends_on c.args.search row c.next.new.self (subst (EndsOnce c.args.search) c.in-Some.ensures.steps c.loop-row.invariant.ordered);
      sure = c.comes_before.ensures.sure;
      served = (subst (AreServed ds) c.in-Some.ensures.steps c.loop-row.invariant.served).1;
    }

pub hit_at_row-found-requires : goal.hit_at_row-found-requires
hit_at_row-found-requires c = (subst (AreServed c.args.shard.now.documents) c.in-Some.ensures.steps c.loop-row.invariant.served).0
