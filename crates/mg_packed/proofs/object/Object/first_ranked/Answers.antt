use Rattle.std.proofs.Common.{◌≤◌, ◌+◌, ◌-◌, ◌/◌, ◌<◌, length, sym, ap, arith}
use Rattle.mg_value.specs.Value.{member_list}
use Rattle.mg_packed.specs.Ranks.{rank_of}
use Rattle.mg_packed.specs.Read.{nth_name}
use Rattle.mg_packed.proofs.Fronts.{later_ranks, ranks_found}
use Rattle.mg_packed.proofs.object.Object.first_ranked.Goals as goal

pub loop-first-preserved-then-rank_of-limit : goal.loop-first-preserved-then-rank_of-limit
loop-first-preserved-then-rank_of-limit c =
    let i = c.loop-first.invariant in
    let ms = c.args.self.now in
    let m = c.loop-first.first + (c.loop-first.end - c.loop-first.first) / 2 in
    let within : m < length (member_list ms) = omega arith in
    let at : rank_of (nth_name ms m) < c.args.limit = omega (arith, c.rank_of.ensures, ap rank_of c.name.ensures) in
    record {
      stored = i.stored;
      ordered = omega arith;
      within = i.within;
      below = λ k h. omega (arith, at, later_ranks ms i.stored k m (omega arith) within);
      above = i.above;
    }

pub loop-first-preserved : goal.loop-first-preserved
loop-first-preserved c =
    let i = c.loop-first.invariant in
    let ms = c.args.self.now in
    let m = c.loop-first.first + (c.loop-first.end - c.loop-first.first) / 2 in
    let at : c.args.limit ≤ rank_of (nth_name ms m) = omega (arith, c.rank_of.ensures, ap rank_of c.name.ensures) in
    record {
      stored = i.stored;
      ordered = omega arith;
      within = omega arith;
      below = i.below;
      above = λ k h less. omega (arith, at, later_ranks ms i.stored m k h less);
    }

pub returns : goal.returns
returns c =
    let i = c.loop-first.invariant in
    sym (ranks_found c.args.limit c.args.self.now c.loop-first.first (omega (arith, i.within, i.ordered)) i.below (λ k h less. i.above k (omega arith) less))
