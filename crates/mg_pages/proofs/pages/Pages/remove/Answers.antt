use Rattle.std.proofs.Common.{◌≡◌, true, false, Option, Some, None, is_some, option_map, length, arith, ap, sym, ◌∙◌, subst, refl}
use Rattle.mg_pages.specs.Order.{Ascends, found}
use Rattle.mg_pages.specs.Subtree.{elements_of}
use Rattle.mg_pages.proofs.Sorted.{removed_absent, removed_ascends, removed_present}
use Rattle.mg_pages.proofs.pages.Pages.remove.Goals as goal

none_mapped : {A B : Type 0} (f : A → B) (o : Option A) → is_some o ≡ false → is_some (option_map f o) ≡ false
none_mapped f None h = refl
none_mapped f (Some x) h = h

some_mapped : {A B : Type 0} (f : A → B) (o : Option A) → is_some o ≡ true → is_some (option_map f o) ≡ true
some_mapped f None h = h
some_mapped f (Some x) h = refl

pub returns-then-is_none-clause-ok : goal.returns-then-is_none-clause-ok
returns-then-is_none-clause-ok g c =
    let key = g.Q.Probe.against c.args.key.now in
    let none : is_some (found key c.args.self.now) ≡ false = sym (ap is_some c.get.ensures) ∙ none_mapped (λ t. t.now) c.get.result (c.if-is_none.ensures {u = tt}) in
    sym (removed_absent g.T.Keyed.order key (g.met.Q.Probe.probes c.args.key.now) c.args.self.now (subst (Ascends g.T.Keyed.order) c.self.view_is c.self.invariant.sorted) none)

pub take_out_among-requires-clause-there : goal.take_out_among-requires-clause-there
take_out_among-requires-clause-there g c =
    let key = g.Q.Probe.against c.args.key.now in
    ap (λ us. is_some (found key us)) c.self.view_is ∙ sym (ap is_some c.get.ensures) ∙ some_mapped (λ t. t.now) c.get.result (c.if-is_none.ensures {u = tt})

pub invariant_of-self-2 : goal.invariant_of-self-2
invariant_of-self-2 g c =
    let order = g.T.Keyed.order in
    let key = g.Q.Probe.against c.args.key.now in
    let xs = elements_of c.self.inside.root.items in
    let new = c.shrink.ensures ∙ c.in_ok-take_out_among.ensures.ok in
    let there = ap (λ us. is_some (found key us)) c.self.view_is ∙ sym (ap is_some c.get.ensures) ∙ some_mapped (λ t. t.now) c.get.result (c.if-is_none.ensures {u = tt}) in
    let n = removed_present order key (g.met.Q.Probe.probes c.args.key.now) xs c.self.invariant.sorted there in
    record {
      sorted = subst (Ascends order) (sym new) (removed_ascends order key (g.met.Q.Probe.probes c.args.key.now) xs c.self.invariant.sorted);
      counted = omega (arith, n, c.self.invariant.counted, ap length new);
    }
