use Rattle.std.proofs.Common.{◌≡◌, ◌-◌, ℕ, List, [], ◌∷◌, ◌++◌, length, min, refl, ap, inr, ◌∙◌}
use Rattle.bytes.specs.Filled.{Filled}
use Rattle.mg_wire.proofs.CarryLemmas.{same, sent_more, pending_less, said_kept}
use Rattle.mg_wire.proofs.connection.Connection.count.Goals as goal

pub returns-clause-sent : goal.returns-clause-sent
returns-clause-sent c =
    let head : c.min-head.result ≡ min c.args.count (length c.args.self.now.output.items) = c.min-head.ensures ∙ ap (min c.args.count) c.len.ensures.value in
    sent_more c.args.self.now (record c.args.self.now { output = c.advance.new.self; tail = c.advance-2.new.self; writes = c.and-self-2.result }) c.min-head.result _ c.args.count (c.and-self-2.ensures ∙ ap (λ (ws : List (Filled × ℕ)). ws ++ (c.args.self.now.tail, c.args.count - c.min-head.result) ∷ []) c.and-self.ensures) head refl

pub returns-clause-pending : goal.returns-clause-pending
returns-clause-pending c =
    let head : c.min-head.result ≡ min c.args.count (length c.args.self.now.output.items) = c.min-head.ensures ∙ ap (min c.args.count) c.len.ensures.value in
    pending_less c.args.self.now (record c.args.self.now { output = c.advance.new.self; tail = c.advance-2.new.self; writes = c.and-self-2.result }) c.min-head.result _ c.args.count c.advance.ensures.items c.advance-2.ensures.items head refl

pub returns-clause-holds : goal.returns-clause-holds
returns-clause-holds c =
    same c.args.self.now _ refl refl refl (said_kept c.args.self.now (record c.args.self.now { output = c.advance.new.self; tail = c.advance-2.new.self; writes = c.and-self-2.result }) c.args.count (returns-clause-sent c) (returns-clause-pending c)) refl refl refl refl (inr refl)
