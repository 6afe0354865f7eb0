use Rattle.std.proofs.Common.{◌≡◌, inl, inr, ◌⊎◌, ◌++◌, Err, rules, refl, sym, ap, subst, ◌∙◌}
use Rattle.sqlite.specs.Held.{state}
use Rattle.mg_log.specs.Header.{heading_of}
use Rattle.mg_log.specs.Entry.{entries_of}
use Rattle.mg_log.specs.Rows.{IsLogIn}
use Rattle.mg_log.proofs.Statements.{on_ok}
use Rattle.mg_log.proofs.log.Log.append.Goals as goal

pub returns-then-not-self-clause-crash : goal.returns-then-not-self-clause-crash
returns-then-not-self-clause-crash g c clean entries keeps db may =
    inl (subst (IsLogIn (heading_of c.args.self.now.header) entries) (sym (g.met.S.Store.settled c.args.self.now.conn.store db keeps.rows.is_open may)) keeps.rows.holds)

pub returns-then-commits-self-clause-crash : goal.returns-then-commits-self-clause-crash
returns-then-commits-self-clause-crash g c clean entries keeps db may =
    inl (subst (IsLogIn (heading_of c.args.self.now.header) entries) (sym (g.met.S.Store.settled c.args.self.now.conn.store db keeps.rows.is_open may)) keeps.rows.holds)

pub returns-then-commits-self-clause-not_stored : goal.returns-then-commits-self-clause-not_stored
returns-then-commits-self-clause-not_stored g c clean entries keeps none db may =
    subst (IsLogIn (heading_of c.args.self.now.header) entries) (sym (g.met.S.Store.settled c.args.self.now.conn.store db keeps.rows.is_open may)) keeps.rows.holds

pub returns-in-Ok-clause-durable : goal.returns-in-Ok-clause-durable
returns-in-Ok-clause-durable g c clean entries keeps =
    let h = heading_of c.args.self.now.header in
    let log = c.in-Ok.ensures.written clean h entries keeps.rows keeps.counted in
    on_ok c.write_group-done.result (λ db may. subst (IsLogIn h (entries ++ entries_of c.args.commits.now)) (sym (g.met.S.Store.settled c.write_group-done.new.conn.store db log.is_open may)) log.holds)

pub returns-in-Err-NoMemory-clause-not_stored : goal.returns-in-Err-NoMemory-clause-not_stored
returns-in-Err-NoMemory-clause-not_stored g c clean entries keeps none = c.write_group-done.ensures.not_stored clean none (heading_of c.args.self.now.header) entries keeps.rows

pub returns-in-Err : goal.returns-in-Err
returns-in-Err g c =
    let h = heading_of c.args.self.now.header in
    record {
      appended = λ clean entries keeps. rw c.in-Err.is tt;
      durable = λ clean entries keeps. rw c.in-Err.is tt;
      crash = λ clean entries keeps. c.in-Err.ensures.crash clean h entries keeps.rows keeps.counted;
      not_stored = λ clean entries keeps none. c.write_group-done.ensures.not_stored clean none h entries keeps.rows;
      refused = λ clean entries keeps. rw c.in-Err.is (λ is_open. record { rows = c.in-Err.ensures.refused clean h entries keeps.rows is_open; counted = keeps.counted });
      ends = rw c.in-Err.is (λ _ _. refl);
      lost = λ lost. absurd (let a = lost in let b = c.if-not-self.false in cc);
      was_open = λ clean. rw c.in-Err.is tt;
      was_lost = λ is. absurd (rw is at c.write_group-done.ensures.named);
      stays = λ _. inr (search rules);
      full = λ _ _ is. absurd (rw is at c.write_group-done.ensures.named);
      closes = c.write_group-done.ensures.closes;
      stays_shut = c.write_group-done.ensures.stays_shut;
      header = refl;
      honest = c.in-Err.ensures.honest;
    }
