use Rattle.std.proofs.Common.{◌+◌, ◌-◌, [], ◌++◌, length, ap, ◌∙◌, arith}
use Rattle.mg_value.specs.Text.{compact}
use Rattle.mg_value.specs.Value.{object, member_list}
use Rattle.mg_packed.specs.Front.{without_names_beginning}
use Rattle.mg_packed.specs.Read.{value_in}
use Rattle.mg_packed.specs.Tables.{tables, member_pieces}
use Rattle.mg_packed.proofs.Filled.{object_text, object_tables}
use Rattle.mg_packed.proofs.Fronts.{below_within, front_parts, stored_without}
use Rattle.mg_packed.proofs.Ranges.{kept_made}
use Rattle.mg_packed.proofs.Valued.{valued}
use Rattle.mg_packed.proofs.without_names.object_without.Goals as goal

pub push_range-requires-clause-some : goal.push_range-requires-clause-some
push_range-requires-clause-some c = (_, _, 123, [], c.in_ok-pieces.ensures)

pub push_range-requires-clause-within : goal.push_range-requires-clause-within
push_range-requires-clause-within c = omega (arith, c.front_gap-gap.ensures.before, below_within (c.args.front + 1) c.args.members.now)

pub push_range-requires-2-clause-some : goal.push_range-requires-2-clause-some
push_range-requires-2-clause-some c = (_, _, 123, _, c.in_ok-push_range.ensures _ _ 123 [] c.in_ok-pieces.ensures)

pub push_range-requires-2-clause-ordered : goal.push_range-requires-2-clause-ordered
push_range-requires-2-clause-ordered c = omega (arith, c.len-count.ensures.count, c.front_gap-gap.ensures.after, below_within (c.args.front + 2) c.args.members.now)

pub end-requires : goal.end-requires
end-requires c = (_, _, 123, _, c.in_ok-push_range-2.ensures _ _ 123 _ (c.in_ok-push_range.ensures _ _ 123 [] c.in_ok-pieces.ensures))

pub joined-requires : goal.joined-requires
joined-requires c =
    let ms = c.args.members.now in
    let g = c.front_gap-gap in
    let stored = c.len-count.ensures.stored in
    let new = without_names_beginning c.args.front ms in
    let all = kept_made ms g.result.before g.result.after c.len-count.result (length (member_list ms)) c.len-count.ensures.count ∙ ap member_pieces (front_parts c.args.front ms g.result.before g.result.after stored g.ensures.before g.ensures.after) in
    let made = c.in_ok-end.ensures _ _ 123 _ (c.in_ok-push_range-2.ensures _ _ 123 _ (c.in_ok-push_range.ensures _ _ 123 [] c.in_ok-pieces.ensures)) in (
      object new,
      stored_without c.args.front ms stored,
      c.deref.ensures.value ∙ object_text _ _ new _ all made.0 ∙ ap (λ x. x ++ compact (object new)) c.in_ok-out.ensures.items,
      c.deref-2.ensures.value ∙ object_tables _ _ new _ all made.1 ∙ ap (λ x. x ++ tables (object new)) c.in_ok-inner.ensures.items,
    )

pub returns : goal.returns
returns c =
    let ms = c.args.members.now in
    let g = c.front_gap-gap in
    let stored = c.len-count.ensures.stored in
    let new = without_names_beginning c.args.front ms in
    let all = kept_made ms g.result.before g.result.after c.len-count.result (length (member_list ms)) c.len-count.ensures.count ∙ ap member_pieces (front_parts c.args.front ms g.result.before g.result.after stored g.ensures.before g.ensures.after) in
    let made = c.in_ok-end.ensures _ _ 123 _ (c.in_ok-push_range-2.ensures _ _ 123 _ (c.in_ok-push_range.ensures _ _ 123 [] c.in_ok-pieces.ensures)) in
    c.in_ok-packed.ensures
    ∙ ap value_in (c.deref.ensures.value ∙ object_text _ _ new _ all made.0 ∙ ap (λ x. x ++ compact (object new)) c.in_ok-out.ensures.items)
    ∙ valued (object new) (stored_without c.args.front ms stored)
