use Rattle.std.proofs.Common.{suc, ◌≡◌, ◌≤◌, ◌+◌, ◌-◌, ◌/◌, ◌<◌, length, Less, Equal, Greater, nat_cmp, sym, ap, ◌∙◌, arith}
use Rattle.std.specs.Cmp.Lexicographic.{slice_cmp}
use Rattle.mg_value.specs.Value.{member_list}
use Rattle.mg_packed.proofs.Put.{gap_found, gap_missed}
use Rattle.mg_packed.proofs.Search.{seen, upper, lower}
use Rattle.mg_packed.proofs.object.Object.gap.Goals as goal

pub loop-low-preserved-in-Greater : goal.loop-low-preserved-in-Greater
loop-low-preserved-in-Greater c =
    let i = c.loop-low.invariant in
    let m = c.loop-low.low + (c.loop-low.high - c.loop-low.low) / 2 in
    let within : m < length (member_list c.args.self.now) = omega arith in
    let at : seen c.args.name.now c.args.self.now m ≡ Greater = ap (slice_cmp nat_cmp c.args.name.now) (sym c.name.ensures) ∙ sym c.in-Greater.ensures in
    record {
      stored = i.stored;
      ordered = omega arith;
      within = i.within;
      below = λ k h. lower c.args.name.now c.args.self.now i.stored m k (omega arith) within at;
      above = i.above;
    }

pub loop-low-preserved : goal.loop-low-preserved
loop-low-preserved c =
    let i = c.loop-low.invariant in
    let m = c.loop-low.low + (c.loop-low.high - c.loop-low.low) / 2 in
    let at : seen c.args.name.now c.args.self.now m ≡ Less = ap (slice_cmp nat_cmp c.args.name.now) (sym c.name.ensures) ∙ sym c.in-Less.ensures in
    record {
      stored = i.stored;
      ordered = omega arith;
      within = omega arith;
      below = i.below;
      above = λ k h less. upper c.args.name.now c.args.self.now i.stored m k h less at;
    }

pub returns-in-Equal-clause-before : goal.returns-in-Equal-clause-before
returns-in-Equal-clause-before c =
    let m = c.loop-low.low + (c.loop-low.high - c.loop-low.low) / 2 in
    let within : m < length (member_list c.args.self.now) = omega (arith, c.loop-low.invariant.within) in
    let at : seen c.args.name.now c.args.self.now m ≡ Equal = ap (slice_cmp nat_cmp c.args.name.now) (sym c.name.ensures) ∙ sym c.in-Equal.ensures in
    c.over.ensures.before ∙ sym (gap_found c.args.name.now c.args.self.now c.loop-low.invariant.stored m within at).0

pub returns-in-Equal-clause-after : goal.returns-in-Equal-clause-after
returns-in-Equal-clause-after c =
    let m = c.loop-low.low + (c.loop-low.high - c.loop-low.low) / 2 in
    let within : m < length (member_list c.args.self.now) = omega (arith, c.loop-low.invariant.within) in
    let at : seen c.args.name.now c.args.self.now m ≡ Equal = ap (slice_cmp nat_cmp c.args.name.now) (sym c.name.ensures) ∙ sym c.in-Equal.ensures in
    let next : m + 1 ≡ suc m = omega arith in
    c.over.ensures.after ∙ next ∙ sym (gap_found c.args.name.now c.args.self.now c.loop-low.invariant.stored m within at).1

pub returns-clause-before : goal.returns-clause-before
returns-clause-before c =
    let i = c.loop-low.invariant in
    let within : c.loop-low.low ≤ length (member_list c.args.self.now) = omega (arith, i.within, i.ordered) in
    c.at.ensures.before ∙ sym (gap_missed c.args.name.now c.args.self.now c.loop-low.low within i.below (λ k h less. i.above k (omega arith) less)).0

pub returns-clause-after : goal.returns-clause-after
returns-clause-after c =
    let i = c.loop-low.invariant in
    let within : c.loop-low.low ≤ length (member_list c.args.self.now) = omega (arith, i.within, i.ordered) in
    c.at.ensures.after ∙ sym (gap_missed c.args.name.now c.args.self.now c.loop-low.low within i.below (λ k h less. i.above k (omega arith) less)).1
