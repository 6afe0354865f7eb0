use Rattle.std.proofs.Common.{◌≡◌, ◌∷◌, [], All, IfNone, IfSome, map, arith, rules, subst}
use Rattle.std.specs.BinaryHeap.{heap_items}
use Rattle.std.proofs.lemmas.List.Elements.{All-push}
use Rattle.mg_merge.specs.Heads.{GoesOn}
use Rattle.mg_merge.specs.Pulled.{IsGivenBy}
use Rattle.mg_merge.proofs.Fronts.{none_remain}
use Rattle.mg_merge.proofs.Pulls.{goes_further, goes_nowhere}
use Rattle.mg_merge.proofs.pulled.take_items.Goals as goal

pub loop-heads-init : goal.loop-heads-init
loop-heads-init g c =
    rw c.in_ok-items.ensures.items (record {
      within = first_of (omega arith, search rules);
      lists = c.requires;
      goes_on = λ direction. goes_nowhere g.S.Source.key_of g.T.Ranked.row_of g.S.Source.key_row direction (map g.S.Source.left c.args.sources.now) (heap_items c.args.heads.now);
      given = λ start all from. (all, from, λ k d l. absurd (omega arith));
    })

pub loop-heads-preserved : goal.loop-heads-preserved
loop-heads-preserved g c =
    let key = g.S.Source.key_of in
    let row = g.T.Ranked.row_of in
    let key_row = g.S.Source.key_row in
    let left = g.S.Source.left in
    let was = c.loop-heads.invariant in
    let item = c.in-Some.item in
    let items = c.loop-heads.items.items in
    let before = heap_items c.loop-heads.heads in
    let after = heap_items c.take_first.new.heads in
    record {
      within = omega arith;
      lists = c.in_ok-taken.ensures.within;
      goes_on = λ direction. rw c.in_ok-push-in-Some.ensures.items (goes_further key row key_row direction (map left c.args.sources.now) (map left c.loop-heads.sources) (map left c.take_first.new.sources) (heap_items c.args.heads.now) before after items item (was.goes_on direction)
          (subst (λ taken. IfSome taken (λ x. GoesOn key row key_row direction (map left c.loop-heads.sources) before (x ∷ []) (map left c.take_first.new.sources) after)) c.in-Some.is (c.in_ok-taken.ensures.goes_on direction)));
      given = λ start all from. let known = was.given start all from in
          let now = c.in_ok-taken.ensures.given start known.0 known.1 in
          (now.1, now.2, rw c.in_ok-push-in-Some.ensures.items (All-push (IsGivenBy g.S.Source.offers start) items item known.2 (subst (λ taken. IfSome taken (IsGivenBy g.S.Source.offers start)) c.in-Some.is now.0)));
    }

pub returns-in-None-clause-goes_on : goal.returns-in-None-clause-goes_on
returns-in-None-clause-goes_on g c = λ direction.
    let before = heap_items c.loop-heads.heads in
    let after = heap_items c.take_first.new.heads in
    let stays : (after ≡ before) × (c.take_first.new.sources ≡ c.loop-heads.sources) =
    subst (λ taken. IfNone taken ((after ≡ before) × (c.take_first.new.sources ≡ c.loop-heads.sources))) c.in-None.is c.in_ok-taken.ensures.stays in
    rw stays.0 (rw stays.1 (c.loop-heads.invariant.goes_on direction))

pub returns-in-None-clause-end : goal.returns-in-None-clause-end
returns-in-None-clause-end g c = λ direction fewer lists begun.
    none_remain g.S.Source.key_of direction (map g.S.Source.left c.take_first.new.sources) lists (heap_items c.take_first.new.heads) begun.fronts (subst (λ taken. IfNone taken (heap_items c.take_first.new.heads ≡ [])) c.in-None.is c.in_ok-taken.ensures.end)

pub returns-in-None-clause-given : goal.returns-in-None-clause-given
returns-in-None-clause-given g c = λ start all from. (c.loop-heads.invariant.given start all from).2

pub returns-clause-goes_on : goal.returns-clause-goes_on
returns-clause-goes_on g c = λ direction. c.loop-heads.invariant.goes_on direction

pub returns-clause-end : goal.returns-clause-end
returns-clause-end g c = λ direction fewer. absurd (omega arith)

pub returns-clause-given : goal.returns-clause-given
returns-clause-given g c = λ start all from. (c.loop-heads.invariant.given start all from).2
