use Rattle.std.proofs.Common.{◌++◌, sym, ap, ◌∙◌, subst}
use Rattle.json.specs.Value.{value_view}
use Rattle.mg_value.specs.Borrowed.{IsTreeOf}
use Rattle.mg_value.specs.Text.{compact}
use Rattle.mg_packed.specs.Read.{value_in}
use Rattle.mg_packed.specs.Tables.{tables}
use Rattle.mg_packed.proofs.Valued.{valued}
use Rattle.mg_packed.proofs.reader.tree_packed.Goals as goal

pub joined-requires : goal.joined-requires
joined-requires c =
    let p = c.in_ok-push_tree.ensures in
    let v = p.0 in
    (v, p.2.stored, c.deref.ensures.value ∙ p.2.text ∙ ap (λ x. x ++ compact v) c.in_ok-text.ensures.items, c.deref-2.ensures.value ∙ p.2.tables ∙ ap (λ x. x ++ tables v) c.in_ok-tables.ensures.items)

pub returns : goal.returns
returns c =
    let p = c.in_ok-push_tree.ensures in
    let v = p.0 in
    let is = c.in_ok-packed.ensures ∙ ap value_in (c.deref.ensures.value ∙ p.2.text ∙ ap (λ x. x ++ compact v) c.in_ok-text.ensures.items) ∙ valued v p.2.stored in
    subst (λ w. IsTreeOf (value_view c.args.tree.now) w) (sym is) p.1
