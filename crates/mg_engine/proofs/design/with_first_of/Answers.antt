use Rattle.std.proofs.Common.{◌≡◌, ◌∙◌, ℕ, List, [], ap, sym}
use Rattle.mg_value.specs.Value.{object, with_member}
use Rattle.mg_value.specs.View.{members_view, view}
use Rattle.mg_shard.proofs.Touched.{none_left}
use Rattle.mg_engine.specs.Design.{with_first}
use Rattle.mg_engine.proofs.Editing.{nothing}
use Rattle.mg_engine.proofs.design.with_first_of.Goals as goal

pub returns-in-Some : goal.returns-in-Some
returns-in-Some c =
    let into = view c.args.into in
    c.in_ok-insert-in-Some.ensures.ok ∙ ap (λ (s : List ℕ). with_member s (view c.in-Some.value) into) c.deref.ensures
    ∙ sym (ap (λ es. with_first (object (members_view es)) into) c.in-Some.ensures.removal)

pub returns : goal.returns
returns c =
    let entries = c.args.members.entries in
    let none : entries ≡ [] = nothing entries (none_left _ c.in-None.ensures.variant.1) in
    sym (ap (λ es. with_first (object (members_view es)) (view c.args.into)) none)
