use Rattle.std.proofs.Common.{◌≡◌, ◌∙◌, length, ap, sym, arith}
use Rattle.std.proofs.lemmas.Bool.Decides.{nat_tests}
use Rattle.mg_value.specs.Value.{member_list, object}
use Rattle.mg_packed.specs.Kind.{kind_value}
use Rattle.mg_revtree.proofs.Bodies.{no_members_are}
use Rattle.mg_revtree.proofs.body.has_no_members.Goals as goal

pub returns-in-Object : goal.returns-in-Object
returns-in-Object c = λ empty.
    let none : length (member_list c.in-Object.members) ≡ 0 = grind (arith, nat_tests, empty, c.len.ensures.count) in
    let is : c.args.packed.now ≡ object c.in-Object.members = sym c.part.ensures ∙ sym c.kind.ensures ∙ ap kind_value c.in-Object.is in
    is ∙ ap object (no_members_are c.in-Object.members none)
