use Rattle.std.proofs.Common.{◌≡◌, ◌+◌, IsTrue, take}
use Rattle.sqlite.specs.State.{HasCleanDisk, Survives}
use Rattle.sqlite.specs.Held.{state}
use Rattle.mg_log.specs.Entry.{entries_of}
use Rattle.mg_log.specs.Rows.{IsWriting, Adds}
use Rattle.mg_log.proofs.writing.insert_all.Given as goal

abbrev pub invariant-loop-commit : goal.invariant-loop-commit
invariant-loop-commit g l =
    let old = state g.S.Store l.fn.tx.conn.now in
    let now = state g.S.Store l.tx.conn.now in
    record {
      same : l.tx.conn.ghost_name ≡ l.fn.tx.conn.ghost_name;
      number : l.number ≡ l.count + l.commit-index;
      added : HasCleanDisk now → IsWriting old → Adds (l.count + 1) (entries_of (take l.commit-index l.commits)) old now;
      was_open : HasCleanDisk now → IsTrue now.is_open → IsTrue old.is_open;
      survives : Survives old now (λ _. ⊥);
    }
