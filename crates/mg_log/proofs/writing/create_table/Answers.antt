use Rattle.sqlite.specs.Held.{state}
use Rattle.mg_log.proofs.Making.{creates}
use Rattle.mg_log.proofs.writing.create_table.Goals as goal

pub returns-clause-made : goal.returns-clause-made
returns-clause-made g c clean inside blank =
    creates (state g.S.Store c.args.tx.now.conn.now) (state g.S.Store c.execute.new.self.conn.now) c.execute.result blank (c.execute.ensures.runs clean inside)
