use Rattle.std.proofs.Common.{◌≡◌, ◌<◌, ◌+◌, ◌-◌, ◌/◌, Less, Equal, Greater, length, get_or, sym, ap, ◌∙◌, arith}
use Rattle.std.proofs.lemmas.List.{get_or_read}
use Rattle.mg_index.specs.Definition.{IndexDefinition}
use Rattle.mg_index.specs.Places.{name_order}
use Rattle.mg_index.proofs.Catalogs.{before_tie, from_place, is_at, is_before, up_to}
use Rattle.mg_index.proofs.catalog.slot_of.Goals as goal

pub loop-low-preserved-in-Greater : goal.loop-low-preserved-in-Greater
loop-low-preserved-in-Greater c =
    let ds = c.args.definitions.now in
    let i = c.loop-low.low + (c.loop-low.high - c.loop-low.low) / 2 in
    let lt : i < length ds = omega (arith, c.loop-low.invariant.within) in
    let at : (x : IndexDefinition) → name_order c.args.ddoc.now c.args.name.now (get_or ds i x) ≡ Greater =
    λ x. ap (name_order c.args.ddoc.now c.args.name.now) (sym (get_or_read ds i c.index-definitions-middle.result lt c.index-definitions-middle.is x)) ∙ sym c.in-Greater.ensures in
    record {
      in_order = omega arith;
      within = c.loop-low.invariant.within;
      below = up_to c.args.ddoc.now c.args.name.now ds i c.requires lt at;
      above = c.loop-low.invariant.above;
    }

pub loop-low-preserved : goal.loop-low-preserved
loop-low-preserved c =
    let ds = c.args.definitions.now in
    let i = c.loop-low.low + (c.loop-low.high - c.loop-low.low) / 2 in
    let lt : i < length ds = omega (arith, c.loop-low.invariant.within) in
    let at : (x : IndexDefinition) → name_order c.args.ddoc.now c.args.name.now (get_or ds i x) ≡ Less =
    λ x. ap (name_order c.args.ddoc.now c.args.name.now) (sym (get_or_read ds i c.index-definitions-middle.result lt c.index-definitions-middle.is x)) ∙ sym c.in-Less.ensures in
    record {
      in_order = omega arith;
      within = omega (arith, c.loop-low.invariant.within);
      below = c.loop-low.invariant.below;
      above = from_place c.args.ddoc.now c.args.name.now ds i c.requires at;
    }

pub returns-in-Equal : goal.returns-in-Equal
returns-in-Equal c =
    let ds = c.args.definitions.now in
    let i = c.loop-low.low + (c.loop-low.high - c.loop-low.low) / 2 in
    let lt : i < length ds = omega (arith, c.loop-low.invariant.within) in
    let at : (x : IndexDefinition) → name_order c.args.ddoc.now c.args.name.now (get_or ds i x) ≡ Equal =
    λ x. ap (name_order c.args.ddoc.now c.args.name.now) (sym (get_or_read ds i c.index-definitions-middle.result lt c.index-definitions-middle.is x)) ∙ sym c.in-Equal.ensures in
    is_at c.args.ddoc.now c.args.name.now ds i lt (before_tie c.args.ddoc.now c.args.name.now ds i c.requires lt at) at

pub returns : goal.returns
returns c =
    let l = c.loop-low in
    is_before c.args.ddoc.now c.args.name.now c.args.definitions.now l.low c.requires (omega (arith, l.invariant.within, l.invariant.in_order)) l.invariant.below (λ x lt. l.invariant.above x l.low (omega arith) lt)
