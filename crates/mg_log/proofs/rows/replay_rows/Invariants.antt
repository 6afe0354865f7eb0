use Rattle.std.proofs.Common.{◌≡◌, List, [], false, length}
use Rattle.sqlite.specs.State.{HasCleanDisk, IsUnchanged, Survives}
use Rattle.sqlite.specs.Held.{state}
use Rattle.mg_log.specs.Header.{heading_of}
use Rattle.mg_log.specs.Entry.{Entry}
use Rattle.mg_log.proofs.Reading.{HasGivenLog}
use Rattle.mg_log.proofs.rows.replay_rows.Given as goal

abbrev pub invariant-rows : goal.invariant-rows
invariant-rows g l =
    let old = state g.S.Store l.fn.conn in
    let now = state g.S.Store l.rows.conn.now in
    record {
      same : l.rows.conn.ghost_name ≡ l.initial.rows.conn.ghost_name;
      survives : Survives old now (λ _. ⊥);
      idle : l.rows.conn.now.in_transaction ≡ false;
      entries : List Entry;
      counted : l.count ≡ length entries;
      follows : g.R.Replay.follows l.replay entries;
      given : HasCleanDisk now → IsUnchanged old now × HasGivenLog g.S.Store (heading_of l.header) entries l.rows.conn.now;
    }
