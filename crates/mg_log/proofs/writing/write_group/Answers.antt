use Rattle.std.proofs.Common.{◌≡◌, IsTrue, rules, subst, arith}
use Rattle.sqlite.specs.State.{HasCleanDisk}
use Rattle.sqlite.specs.Held.{state}
use Rattle.sqlite.proofs.StateLemmas.{survives_then}
use Rattle.sqlite.proofs.Callers.{survives_begin}
use Rattle.mg_log.specs.Entry.{entries_of}
use Rattle.mg_log.specs.Rows.{ClosesIfFaulty, IsWritten, LeavesAllOrNone, LeavesSame, StaysLog}
use Rattle.mg_log.proofs.Statements.{on_err}
use Rattle.mg_log.proofs.Transaction.{begins, refused, committed, all_or_none, commit_failed, leaves_same, none_of}
use Rattle.mg_log.proofs.writing.write_group.Goals as goal

pub returns-in_err-insert_all-clause-not_stored : goal.returns-in_err-insert_all-clause-not_stored
returns-in_err-insert_all-clause-not_stored g c =
    let h = c.args.conn.now in
    let s = state g.S.Store h in
    let m = state g.S.Store c.insert_all.new.tx.conn.now in
    let t = state g.S.Store c.drop-tx.new.self.0 in
    let inside = survives_begin g.S.Store h m _ (rw c.transaction-tx.ensures.begun at c.insert_all.ensures.survives) in
    let whole = survives_then s m t _ _ _ (λ _ _ none. none) (λ _ _ none. none) inside c.drop-tx.ensures.survives in
    let same : c.drop-tx.new.self.0 ≡ c.conn-1.given.0 = search rules in
    λ clean _. subst (λ k. HasCleanDisk (state g.S.Store k) → LeavesSame s (state g.S.Store k)) same (λ clean. leaves_same s t (λ is_open db may. g.met.S.Store.settled h.store db is_open may) whole clean) clean

pub returns-in_err-insert_all-clause-crash : goal.returns-in_err-insert_all-clause-crash
returns-in_err-insert_all-clause-crash g c =
    let h = c.args.conn.now in
    let s = state g.S.Store h in
    let m = state g.S.Store c.insert_all.new.tx.conn.now in
    let t = state g.S.Store c.drop-tx.new.self.0 in
    let inside = survives_begin g.S.Store h m _ (rw c.transaction-tx.ensures.begun at c.insert_all.ensures.survives) in
    let whole = survives_then s m t _ _ _ (λ _ _ none. none) (λ _ _ none. none) inside c.drop-tx.ensures.survives in
    let same : c.drop-tx.new.self.0 ≡ c.conn-1.given.0 = search rules in
    subst (λ k. HasCleanDisk (state g.S.Store k) → LeavesAllOrNone s (state g.S.Store k) c.args.count (entries_of c.args.commits.now)) same
    (λ clean. none_of s t c.args.count (entries_of c.args.commits.now) (leaves_same s t (λ is_open db may. g.met.S.Store.settled h.store db is_open may) whole clean))

pub returns-in_err-insert_all-clause-refused : goal.returns-in_err-insert_all-clause-refused
returns-in_err-insert_all-clause-refused g c =
    let s = state g.S.Store c.args.conn.now in
    let m = state g.S.Store c.insert_all.new.tx.conn.now in
    let t = state g.S.Store c.drop-tx.new.self.0 in
    let same : c.drop-tx.new.self.0 ≡ c.conn-1.given.0 = search rules in
    λ clean. on_err c.from_residual.result (subst (λ k. HasCleanDisk (state g.S.Store k) → StaysLog s (state g.S.Store k)) same
    (λ clean h entries log.
    let kept = (rw c.transaction-tx.ensures.begun at (c.insert_all.ensures.kept (omega (arith, c.drop-tx.ensures.survives.clean)))) (begins s m t h entries log) in
    refused s m t h entries log kept (c.drop-tx.ensures.undone clean)) clean)

pub returns-in-Ok-clause-written : goal.returns-in-Ok-clause-written
returns-in-Ok-clause-written g c =
    let h = c.args.conn.now in
    let s = state g.S.Store h in
    let m = state g.S.Store c.insert_all.new.tx.conn.now in
    let t = state g.S.Store c.commit.new.self.0 in
    let news = entries_of c.args.commits.now in
    let inside = survives_begin g.S.Store h m _ (rw c.transaction-tx.ensures.begun at c.insert_all.ensures.survives) in
    let same : c.commit.new.self.0 ≡ c.conn-2-1.given.0 = search rules in
    subst (λ k. HasCleanDisk (state g.S.Store k) → IsWritten s (state g.S.Store k) c.args.count news) same
    (λ clean. committed s m t c.args.count news inside (rw c.transaction-tx.ensures.begun at c.in_ok-insert_all.ensures.added) c.commit.ensures.survives clean (c.in-Ok.ensures.ok clean).1)

pub returns-in-Ok-clause-crash : goal.returns-in-Ok-clause-crash
returns-in-Ok-clause-crash g c =
    let h = c.args.conn.now in
    let s = state g.S.Store h in
    let m = state g.S.Store c.insert_all.new.tx.conn.now in
    let t = state g.S.Store c.commit.new.self.0 in
    let news = entries_of c.args.commits.now in
    let inside = survives_begin g.S.Store h m _ (rw c.transaction-tx.ensures.begun at c.insert_all.ensures.survives) in
    let same : c.commit.new.self.0 ≡ c.conn-2-1.given.0 = search rules in
    subst (λ k. HasCleanDisk (state g.S.Store k) → LeavesAllOrNone s (state g.S.Store k) c.args.count news) same
    (all_or_none s m t c.args.count news inside (rw c.transaction-tx.ensures.begun at c.in_ok-insert_all.ensures.added) c.commit.ensures.survives (λ is_open db may. g.met.S.Store.settled h.store db is_open may))

pub returns-in-Err-clause-crash : goal.returns-in-Err-clause-crash
returns-in-Err-clause-crash g c =
    let h = c.args.conn.now in
    let s = state g.S.Store h in
    let m = state g.S.Store c.insert_all.new.tx.conn.now in
    let t = state g.S.Store c.commit.new.self.0 in
    let news = entries_of c.args.commits.now in
    let inside = survives_begin g.S.Store h m _ (rw c.transaction-tx.ensures.begun at c.insert_all.ensures.survives) in
    let same : c.commit.new.self.0 ≡ c.conn-2-1.given.0 = search rules in
    subst (λ k. HasCleanDisk (state g.S.Store k) → LeavesAllOrNone s (state g.S.Store k) c.args.count news) same
    (all_or_none s m t c.args.count news inside (rw c.transaction-tx.ensures.begun at c.in_ok-insert_all.ensures.added) c.commit.ensures.survives (λ is_open db may. g.met.S.Store.settled h.store db is_open may))

pub returns-in-Err-clause-refused : goal.returns-in-Err-clause-refused
returns-in-Err-clause-refused g c =
    let h = c.args.conn.now in
    let s = state g.S.Store h in
    let m = state g.S.Store c.insert_all.new.tx.conn.now in
    let t = state g.S.Store c.commit.new.self.0 in
    let news = entries_of c.args.commits.now in
    let inside = survives_begin g.S.Store h m _ (rw c.transaction-tx.ensures.begun at c.insert_all.ensures.survives) in
    let same : c.commit.new.self.0 ≡ c.conn-2-1.given.0 = search rules in
    subst (λ k. HasCleanDisk (state g.S.Store k) → StaysLog s (state g.S.Store k)) same
    (λ clean. commit_failed s m t c.args.count news inside (rw c.transaction-tx.ensures.begun at c.in_ok-insert_all.ensures.added) c.commit.ensures.survives
    (rw c.transaction-tx.ensures.begun at c.insert_all.ensures.kept) _ clean (c.in-Err.ensures.err clean))

pub returns-in_err-insert_all-clause-closes : goal.returns-in_err-insert_all-clause-closes
returns-in_err-insert_all-clause-closes g c =
    let h = c.args.conn.now in
    let s = state g.S.Store h in
    let m = state g.S.Store c.insert_all.new.tx.conn.now in
    let t = state g.S.Store c.drop-tx.new.self.0 in
    let inside = survives_begin g.S.Store h m _ (rw c.transaction-tx.ensures.begun at c.insert_all.ensures.survives) in
    let whole = survives_then s m t _ _ _ (λ _ _ none. none) (λ _ _ none. none) inside c.drop-tx.ensures.survives in
    let same : c.drop-tx.new.self.0 ≡ c.conn-1.given.0 = search rules in
    subst (λ k. HasCleanDisk (state g.S.Store k) → ClosesIfFaulty s (state g.S.Store k)) same whole.closes

pub returns-in-Ok-clause-closes : goal.returns-in-Ok-clause-closes
returns-in-Ok-clause-closes g c =
    let h = c.args.conn.now in
    let s = state g.S.Store h in
    let m = state g.S.Store c.insert_all.new.tx.conn.now in
    let t = state g.S.Store c.commit.new.self.0 in
    let inside = survives_begin g.S.Store h m _ (rw c.transaction-tx.ensures.begun at c.insert_all.ensures.survives) in
    let whole = survives_then s m t _ _ (λ db. db ≡ m.now.trees) (λ _ _ none. absurd none) (λ _ _ is. is) inside c.commit.ensures.survives in
    let same : c.commit.new.self.0 ≡ c.conn-2-1.given.0 = search rules in
    subst (λ k. HasCleanDisk (state g.S.Store k) → ClosesIfFaulty s (state g.S.Store k)) same whole.closes

pub returns-in-Err-clause-closes : goal.returns-in-Err-clause-closes
returns-in-Err-clause-closes g c =
    let h = c.args.conn.now in
    let s = state g.S.Store h in
    let m = state g.S.Store c.insert_all.new.tx.conn.now in
    let t = state g.S.Store c.commit.new.self.0 in
    let inside = survives_begin g.S.Store h m _ (rw c.transaction-tx.ensures.begun at c.insert_all.ensures.survives) in
    let whole = survives_then s m t _ _ (λ db. db ≡ m.now.trees) (λ _ _ none. absurd none) (λ _ _ is. is) inside c.commit.ensures.survives in
    let same : c.commit.new.self.0 ≡ c.conn-2-1.given.0 = search rules in
    subst (λ k. HasCleanDisk (state g.S.Store k) → ClosesIfFaulty s (state g.S.Store k)) same whole.closes

pub returns-in-Ok-clause-was_open : goal.returns-in-Ok-clause-was_open
returns-in-Ok-clause-was_open g c =
    let h = c.args.conn.now in
    let s = state g.S.Store h in
    let same : c.commit.new.self.0 ≡ c.conn-2-1.given.0 = search rules in
    subst (λ k. HasCleanDisk (state g.S.Store k) → IsTrue s.is_open) same
    (λ clean. (rw c.transaction-tx.ensures.begun at c.insert_all.ensures.was_open) (omega (arith, c.commit.ensures.survives.clean)) (c.in-Ok.ensures.ok clean).1.was_open)

pub returns-in_err-insert_all-clause-stays_shut : goal.returns-in_err-insert_all-clause-stays_shut
returns-in_err-insert_all-clause-stays_shut g c clean _ =
    let s = state g.S.Store c.args.conn.now in
    let same : c.drop-tx.new.self.0 ≡ c.conn-1.given.0 = search rules in
    subst (λ k. HasCleanDisk (state g.S.Store k) → IsTrue (state g.S.Store k).is_open → IsTrue s.is_open) same
    (λ clean is_open. (rw c.transaction-tx.ensures.begun at c.insert_all.ensures.was_open) (omega (arith, c.drop-tx.ensures.survives.clean)) ((c.drop-tx.ensures.undone clean).was_open is_open)) clean
