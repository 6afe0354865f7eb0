use Rattle.std.proofs.Common.{◌+◌, ◌<◌, ◌≤◌, ◌&&◌, length, sym, ap, ◌∙◌, arith}
use Rattle.mg_value.specs.Value.{member_list}
use Rattle.mg_packed.specs.Walk.{members_past}
use Rattle.mg_packed.proofs.Walks.{members_done}
use Rattle.mg_doc.specs.Document.{has_known_names}
use Rattle.mg_doc.specs.WellFormed.{is_known_name}
use Rattle.mg_doc.proofs.Walks.{known_next}
use Rattle.mg_doc.proofs.members.has_known_names.Goals as goal

pub returns-then-not-is_known : goal.returns-then-not-is_known
returns-then-not-is_known c =
    let ms = c.args.members.now in
    let i = c.loop-index.index in
    let less : i < length (member_list ms) = omega (arith, c.len-index-end.ensures.count) in
    sym (c.loop-index.invariant ∙ known_next ms i less
    ∙ ap (λ b. b && has_known_names (members_past (i + 1) ms)) (ap is_known_name (sym c.name.ensures) ∙ sym c.is_known.ensures ∙ c.if-not-is_known.true))

pub loop-index-preserved : goal.loop-index-preserved
loop-index-preserved c =
    let ms = c.args.members.now in
    let i = c.loop-index.index in
    let less : i < length (member_list ms) = omega (arith, c.len-index-end.ensures.count) in
    c.loop-index.invariant ∙ known_next ms i less
    ∙ ap (λ b. b && has_known_names (members_past (i + 1) ms)) (ap is_known_name (sym c.name.ensures) ∙ sym c.is_known.ensures ∙ c.if-not-is_known.false)

pub returns : goal.returns
returns c =
    let ms = c.args.members.now in
    let end : length (member_list ms) ≤ c.loop-index.index = omega (arith, c.len-index-end.ensures.count) in
    sym (c.loop-index.invariant ∙ ap has_known_names (members_done ms c.loop-index.index end))
