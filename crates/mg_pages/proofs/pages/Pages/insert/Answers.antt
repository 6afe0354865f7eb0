use Rattle.std.proofs.Common.{◌≡◌, ◌+◌, Fits, w64, rules, length, arith, ap, sym, subst, ◌∙◌}
use Rattle.std.proofs.Math.Facts.{Fits-lt-pow}
use Rattle.mg_pages.specs.Order.{Ascends}
use Rattle.mg_pages.specs.Subtree.{elements_of}
use Rattle.mg_pages.proofs.Counts.{count_put}
use Rattle.mg_pages.proofs.Sorted.{inserted_ascends}
use Rattle.mg_pages.proofs.pages.Pages.insert.Goals as goal

pub grow-requires : goal.grow-requires
grow-requires g c =
    let xs = elements_of c.self.inside.root.items in
    let ys = elements_of c.put_in_root.new.root.items in
    let count = c.count_after_put-self-inside in
    let fits : Fits w64 count.result = search rules in
    let more : c.in-Some.more ≡ length xs + 1 = omega (arith, c.in-Some.ensures, c.self.invariant.counted) in
    let counted : count.result ≡ length ys = count_put g.T.Keyed.order g.met.T.Keyed.total c.args.element xs ys c.in_ok-had.had c.in-Some.more count.result c.self.invariant.sorted c.in_ok-had.ensures.ok c.in_ok-had.ensures.had more count.ensures.over count.ensures.new in
    omega (arith, counted, Fits-lt-pow fits)

pub invariant_of-self-2 : goal.invariant_of-self-2
invariant_of-self-2 g c =
    let order = g.T.Keyed.order in
    let xs = elements_of c.self.inside.root.items in
    let ys = elements_of c.put_in_root.new.root.items in
    let count = c.count_after_put-self-inside in
    let more : c.in-Some.more ≡ length xs + 1 = omega (arith, c.in-Some.ensures, c.self.invariant.counted) in
    let counted : count.result ≡ length ys = count_put order g.met.T.Keyed.total c.args.element xs ys c.in_ok-had.had c.in-Some.more count.result c.self.invariant.sorted c.in_ok-had.ensures.ok c.in_ok-had.ensures.had more count.ensures.over count.ensures.new in
    record {
      sorted = subst (Ascends order) (sym (c.grow.ensures ∙ c.in_ok-had.ensures.ok)) (inserted_ascends order g.met.T.Keyed.total c.args.element xs c.self.invariant.sorted);
      counted = counted ∙ sym (ap length c.grow.ensures);
    }
