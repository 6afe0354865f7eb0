use Rattle.std.proofs.Common.{◌≡◌, [], Vec, Global, get_or, sym, ◌∙◌, subst, arith}
use Rattle.std.proofs.lemmas.Bool.{iff_false}
use Rattle.std.proofs.lemmas.List.{length-map}
use Rattle.mg_merge.specs.Merged.{IsInOrderBy, contents_of, order_by}
use Rattle.mg_merge.proofs.Orders.{list_at, one_more_list}
use Rattle.mg_merge.proofs.order.items_are_in_order.Goals as goal

pub returns-then-not-is_in_order : goal.returns-then-not-is_in_order
returns-then-not-is_in_order g c = (
  λ h. absurd cc,
  λ ordered. let lists = contents_of c.args.lists.now in
      let place = c.loop-list.list-index in
      let size = length-map c.args.lists.now (λ (l : Vec _ Global). l.items) in
      let here : c.deref.result.now ≡ get_or lists place [] = c.deref.ensures.value ∙ list_at c.args.lists.now place c.list-item.result [] (omega arith) c.list-item.is in
      absurd (iff_false c.is_in_order.ensures c.if-not-is_in_order.true (subst (IsInOrderBy g.T.Ranked.row_of c.args.direction) (sym here) (ordered place [] (omega (arith, size))))),
)

pub loop-list-preserved : goal.loop-list-preserved
loop-list-preserved g c =
    let lists = contents_of c.args.lists.now in
    let place = c.loop-list.list-index in
    one_more_list (order_by g.T.Ranked.row_of c.args.direction) lists place c.loop-list.invariant
    (λ d. let here : c.deref.result.now ≡ get_or lists place d = c.deref.ensures.value ∙ list_at c.args.lists.now place c.list-item.result d (omega arith) c.list-item.is in
    subst (IsInOrderBy g.T.Ranked.row_of c.args.direction) here (c.is_in_order.ensures.0 c.if-not-is_in_order.false))
