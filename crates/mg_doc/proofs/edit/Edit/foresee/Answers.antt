use Rattle.std.proofs.Common.{subst}
use Rattle.std.specs.Result.{result_map_both}
use Rattle.mg_doc.specs.Applied.{Foreseen}
use Rattle.mg_doc.specs.Base.{look_of}
use Rattle.mg_doc.specs.Document.{Edit}
use Rattle.mg_doc.specs.contracts.edit.Edit.{the_view}
use Rattle.mg_doc.proofs.Edits.{looks_for}
use Rattle.mg_doc.proofs.edit.Edit.foresee.Goals as goal

pub returns-in-Replica : goal.returns-in-Replica
returns-in-Replica c = λ h stands.
    let e : Edit = the_view c.self.inside in
    let P : Edit → Type 0 = λ x. Foreseen h x (result_map_both (look_of x) (λ y. y) c.look_for.result) c.args.tree.now in
    subst P c.self.view_is (looks_for h e c.in-Replica.path c.in-Replica.is c.args.tree.now c.look_for.result stands (c.look_for.ensures h stands))
