use Rattle.sqlite.specs.Held.{state}
use Rattle.mg_log.proofs.Statements.{on_err}
use Rattle.mg_log.proofs.Opening.{kept_from}
use Rattle.mg_log.proofs.rows.next_header.Goals as goal

pub returns-in_err-advance-clause-kept : goal.returns-in_err-advance-clause-kept
returns-in_err-advance-clause-kept g c clean =
    on_err _ (kept_from (state g.S.Store c.args.rows.now.conn.now) (state g.S.Store c.advance.new.self.conn.now) _ (c.in_err-advance.ensures.kept clean))
