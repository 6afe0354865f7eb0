use Rattle.std.proofs.Common.{◌≡◌, is_lt, ap, sym, ◌∙◌, subst}
use Rattle.mg_pages.specs.Order.{inserted}
use Rattle.mg_pages.specs.Subtree.{IsLast}
use Rattle.mg_pages.proofs.Sorted.{less_from_test}
use Rattle.mg_pages.proofs.Lasts.{inserted_below_last, inserted_at_last}
use Rattle.mg_pages.proofs.insertion.last_with.Goals as goal
use Rattle.mg_pages.proofs.insertion.last_with.Goals.{then-is_lt, else-is_lt}

pub returns : goal.returns
returns g c = λ xs s it.
    let order = g.T.Keyed.order in
    let x = c.args.element.now in
    let l = c.args.last.now in
    let answer : is_lt (order x l) ≡ c.is_lt.result = sym (c.is_lt.ensures ∙ ap is_lt c.order.ensures) in
    elim c.if-is_lt.branch [
      | then-is_lt w ↦ subst (λ y. IsLast y (inserted order x xs)) (sym (c.in_ok-kept.ensures ∙ ap (λ r. r.now) w.kept-is)) (inserted_below_last order x l xs it (less_from_test (order x l) (answer ∙ w.if-is_lt.true)))
      | else-is_lt w ↦ subst (λ y. IsLast y (inserted order x xs)) (sym (c.in_ok-kept.ensures ∙ ap (λ r. r.now) w.kept-is)) (inserted_at_last order x l xs it g.met.T.Keyed.total s (answer ∙ w.if-is_lt.false))
    ]
