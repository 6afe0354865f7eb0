use Rattle.std.proofs.Common.{◌≡◌, ◌+◌, ◌<◌, suc, length, sym, ap, ap₂, ◌∙◌, arith}
use Rattle.mg_value.specs.Value.{member, member_list}
use Rattle.mg_packed.specs.Walk.{members_past}
use Rattle.mg_packed.proofs.Walks.{member_next, members_done}
use Rattle.mg_packed.proofs.lent.PartLentValue.next.Goals as goal

pub returns-then-index-len : goal.returns-then-index-len
returns-then-index-len c = members_done c.args.walk.now.0 c.args.walk.now.1 (omega (arith, c.len.ensures.count, c.if-index-len.true))

pub returns : goal.returns
returns c =
    let ms = c.args.walk.now.0 in
    let i = c.args.walk.now.1 in
    let less : i < length (member_list ms) = omega (arith, c.len.ensures.count, c.if-index-len.false) in
    let after : suc i ≡ i + 1 = omega arith in
    member_next ms i less ∙ ap₂ (λ k v. member k v (members_past (suc i) ms)) (sym c.name.ensures) (sym c.value.ensures)
    ∙ ap (λ n. member c.name.result.now c.value.result (members_past n ms)) after
