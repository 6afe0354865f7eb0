use Rattle.std.proofs.Common.{◌≡◌, [], refl, string_bytes, rules, subst}
use Rattle.sqlite.specs.State.{HasCleanDisk, Survives}
use Rattle.sqlite.specs.Held.{state}
use Rattle.sqlite.proofs.Callers.{survives_begin}
use Rattle.mg_log.specs.Header.{Heading, IsHeaderText}
use Rattle.mg_log.specs.Rows.{IsLogIn, IsNewLog}
use Rattle.mg_log.proofs.Making.{created_log, creates_survives}
use Rattle.mg_log.proofs.writing.create.Goals as goal

pub returns-clause-made : goal.returns-clause-made
returns-clause-made g c =
    let h = c.args.conn.now in
    let s = state g.S.Store h in
    let m = state g.S.Store c.create_table.new.tx.conn.now in
    let u = state g.S.Store c.insert.new.tx.conn.now in
    let t = state g.S.Store c.commit.new.self.0 in
    let head = string_bytes c.args.head.now in
    let makes = survives_begin g.S.Store h m _ (rw c.transaction-tx.ensures.begun at c.create_table.ensures.survives) in
    let making = λ (clean : HasCleanDisk m). (rw c.transaction-tx.ensures.begun at (c.in_ok-create_table.ensures.made clean)) refl c.requires.blank in
    let same : c.commit.new.self.0 ≡ c.conn-2-1.given.0 = search rules in
    subst (λ k. HasCleanDisk (state g.S.Store k) → IsNewLog s (state g.S.Store k) head) same
    (λ clean. created_log s m u t head making c.in_ok-insert.ensures.added makes c.insert.ensures.survives c.commit.ensures.survives clean (c.in_ok-commit.ensures.ok clean).1)

pub returns-clause-survives : goal.returns-clause-survives
returns-clause-survives g c =
    let h = c.args.conn.now in
    let s = state g.S.Store h in
    let m = state g.S.Store c.create_table.new.tx.conn.now in
    let u = state g.S.Store c.insert.new.tx.conn.now in
    let t = state g.S.Store c.commit.new.self.0 in
    let head = string_bytes c.args.head.now in
    let makes = survives_begin g.S.Store h m _ (rw c.transaction-tx.ensures.begun at c.create_table.ensures.survives) in
    let making = λ (clean : HasCleanDisk m). (rw c.transaction-tx.ensures.begun at (c.in_ok-create_table.ensures.made clean)) refl c.requires.blank in
    let same : c.commit.new.self.0 ≡ c.conn-2-1.given.0 = search rules in
    subst (λ k. (h : Heading) → IsHeaderText h head → Survives s (state g.S.Store k) (IsLogIn h [])) same
    (creates_survives s m u t head making c.in_ok-insert.ensures.added makes c.insert.ensures.survives c.commit.ensures.survives)

pub returns-in_err-commit-clause-survives : goal.returns-in_err-commit-clause-survives
returns-in_err-commit-clause-survives g c =
    let h = c.args.conn.now in
    let s = state g.S.Store h in
    let m = state g.S.Store c.create_table.new.tx.conn.now in
    let u = state g.S.Store c.insert.new.tx.conn.now in
    let t = state g.S.Store c.commit.new.self.0 in
    let head = string_bytes c.args.head.now in
    let makes = survives_begin g.S.Store h m _ (rw c.transaction-tx.ensures.begun at c.create_table.ensures.survives) in
    let making = λ (clean : HasCleanDisk m). (rw c.transaction-tx.ensures.begun at (c.in_ok-create_table.ensures.made clean)) refl c.requires.blank in
    let same : c.commit.new.self.0 ≡ c.conn-2-1.given.0 = search rules in
    subst (λ k. (h : Heading) → IsHeaderText h head → Survives s (state g.S.Store k) (IsLogIn h [])) same
    (creates_survives s m u t head making c.in_ok-insert.ensures.added makes c.insert.ensures.survives c.commit.ensures.survives)
