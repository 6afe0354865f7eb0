use Rattle.std.proofs.Common.{◌≡◌, ℕ, List, Some, IfOk, subst}
use Rattle.mg_engine.specs.Commands.{Asked}
use Rattle.mg_engine.specs.View.{reply_view}
use Rattle.mg_machine.specs.Machine.{Commit, after_write, write_reply}
use Rattle.mg_machine.specs.Points.{IsAfter}
use Rattle.mg_machine.proofs.point.Point.write.Goals as goal

pub returns-clause-after : goal.returns-clause-after
returns-clause-after g c =
    let P : Asked → Type 0 = λ a. IfOk c.write_prepared.result (λ r. (name : List ℕ) (cs : List Commit) (seat : ℕ) → IsAfter g.P.Placement.place name c.args.self.now cs
    → (reply_view r.0 ≡ Some (write_reply name cs a)) × IsAfter g.P.Placement.place name r.1 (after_write name cs seat a)) in
    subst P c.in_ok-prepared.ensures c.write_prepared.ensures.after
