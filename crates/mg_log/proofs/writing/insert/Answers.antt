use Rattle.std.proofs.Common.{inl, inr, string_bytes, IsTrue, subst}
use Rattle.std.proofs.lemmas.Bool.{cases_Bool}
use Rattle.sqlite.specs.Held.{state}
use Rattle.mg_log.proofs.Statements.{insert_adds, inside_keeps}
use Rattle.mg_log.proofs.writing.insert.Goals as goal

pub returns-clause-added : goal.returns-clause-added
returns-clause-added g c clean writing =
    insert_adds (state g.S.Store c.args.tx.now.conn.now) (state g.S.Store c.execute.new.self.conn.now) c.args.number (record { kind = c.args.kind.now; body = string_bytes c.args.body.now }) c.execute.result writing
    (rw (c.params-to_sql.ensures, c.params-to_sql-2.ensures, c.params-to_sql-3.ensures) at (c.execute.ensures.runs clean writing.inside))

pub returns-clause-kept : goal.returns-clause-kept
returns-clause-kept g c clean writing =
    inside_keeps (state g.S.Store c.args.tx.now.conn.now) (state g.S.Store c.execute.new.self.conn.now) _ _ c.execute.result (c.execute.ensures.runs clean writing.inside)

pub returns-clause-was_open : goal.returns-clause-was_open
returns-clause-was_open g c clean is_open =
    let old = state g.S.Store c.args.tx.now.conn.now in
    let new = state g.S.Store c.execute.new.self.conn.now in
    elim (cases_Bool old.in_transaction) [
      | inl inside ↦ (inside_keeps old new _ _ c.execute.result (c.execute.ensures.runs clean inside)).was_open is_open
      | inr outside ↦ subst (λ h. IsTrue (state g.S.Store h).is_open) (c.execute.ensures.ended outside).1 is_open
    ]
