use Rattle.std.proofs.Common.{◌-◌, [], ◌++◌, ap, ◌∙◌}
use Rattle.mg_value.specs.Text.{compact}
use Rattle.mg_value.specs.Value.{object, text, put}
use Rattle.mg_packed.specs.Read.{value_in}
use Rattle.mg_packed.specs.Tables.{tables}
use Rattle.mg_packed.proofs.Filled.{object_text, object_tables}
use Rattle.mg_packed.proofs.Put.{put_stored}
use Rattle.mg_packed.proofs.Ranges.{put_made}
use Rattle.mg_packed.proofs.Valued.{valued}
use Rattle.mg_packed.proofs.with_text.object_with_text.Goals as goal

pub push_range-requires-clause-some : goal.push_range-requires-clause-some
push_range-requires-clause-some c = (_, _, 123, [], c.in_ok-pieces.ensures)

pub push_member-requires : goal.push_member-requires
push_member-requires c = (_, _, 123, _, c.in_ok-push_range.ensures _ _ 123 [] c.in_ok-pieces.ensures)

pub push_range-requires-2-clause-some : goal.push_range-requires-2-clause-some
push_range-requires-2-clause-some c = (_, _, 123, _, c.in_ok-push_member.ensures _ _ 123 _ (c.in_ok-push_range.ensures _ _ 123 [] c.in_ok-pieces.ensures))

pub end-requires : goal.end-requires
end-requires c = (_, _, 123, _, c.in_ok-push_range-2.ensures _ _ 123 _ (c.in_ok-push_member.ensures _ _ 123 _ (c.in_ok-push_range.ensures _ _ 123 [] c.in_ok-pieces.ensures)))

pub joined-requires : goal.joined-requires
joined-requires c =
    let k = c.args.name.now in
    let v = text c.args.text.now in
    let ms = c.args.members.now in
    let g = c.gap-gap.ensures in
    let new = put k v ms in
    let all = put_made k v ms c.gap-gap.result.before c.gap-gap.result.after c.len-count.result g.before g.after c.len-count.ensures.count g.within in
    let made = c.in_ok-end.ensures _ _ 123 _ (c.in_ok-push_range-2.ensures _ _ 123 _ (c.in_ok-push_member.ensures _ _ 123 _ (c.in_ok-push_range.ensures _ _ 123 [] c.in_ok-pieces.ensures))) in (
      object new,
      put_stored k v ms g.stored c.utf8.name c.utf8.text,
      c.deref.ensures.value ∙ object_text _ _ new _ all made.0 ∙ ap (λ x. x ++ compact (object new)) c.in_ok-out.ensures.items,
      c.deref-2.ensures.value ∙ object_tables _ _ new _ all made.1 ∙ ap (λ x. x ++ tables (object new)) c.in_ok-inner.ensures.items,
    )

pub returns : goal.returns
returns c =
    let k = c.args.name.now in
    let v = text c.args.text.now in
    let ms = c.args.members.now in
    let g = c.gap-gap.ensures in
    let new = put k v ms in
    let all = put_made k v ms c.gap-gap.result.before c.gap-gap.result.after c.len-count.result g.before g.after c.len-count.ensures.count g.within in
    let made = c.in_ok-end.ensures _ _ 123 _ (c.in_ok-push_range-2.ensures _ _ 123 _ (c.in_ok-push_member.ensures _ _ 123 _ (c.in_ok-push_range.ensures _ _ 123 [] c.in_ok-pieces.ensures))) in
    c.in_ok-packed.ensures
    ∙ ap value_in (c.deref.ensures.value ∙ object_text _ _ new _ all made.0 ∙ ap (λ x. x ++ compact (object new)) c.in_ok-out.ensures.items)
    ∙ valued (object new) (put_stored k v ms g.stored c.utf8.name c.utf8.text)
