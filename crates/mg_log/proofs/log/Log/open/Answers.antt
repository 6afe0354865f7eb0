use Rattle.std.proofs.Common.{◌≡◌, List, [], ◌<◌, ◌-◌, ◌^◌, false, length, refl, sym, ap, subst, rules, ◌∙◌}
use Rattle.std.proofs.lemmas.Result.{IfOk-weaker, IfErr-weaker}
use Rattle.sqlite.specs.Held.{state}
use Rattle.sqlite.specs.Effect.{Database}
use Rattle.sqlite.proofs.StateLemmas.{survives_weaker}
use Rattle.sqlite_catalog.specs.Listing.{IsSound}
use Rattle.mg_log.specs.Table.{log_schema, no_schema}
use Rattle.mg_log.specs.Header.{heading_of, new_heading}
use Rattle.mg_log.specs.Entry.{Entry}
use Rattle.mg_log.specs.Rows.{Holds, IsLog, IsLogIn, IsFirstLog}
use Rattle.mg_log.specs.Log.{connection_of}
use Rattle.mg_log.proofs.Making.{not_blank, not_empty}
use Rattle.mg_log.proofs.Statements.{both_ok}
use Rattle.mg_log.proofs.Opening.{is_log_read}
use Rattle.mg_log.proofs.Unique.{same_log}
use Rattle.mg_log.proofs.log.Log.open.Goals as goal

pub returns-then-is_blank-clause-found : goal.returns-then-is_blank-clause-found
returns-then-is_blank-clause-found g c =
    let old = state g.S.Store c.args.conn in
    let alone : c.args.conn.in_transaction ≡ false = c.requires.idle in
    let blank : old.now.schema ≡ no_schema = search rules in
    IfOk-weaker c.make.result _ _ (λ log made clean h entries held.
    let was = (made clean).0 in
    let settled : old.now ≡ old.committed = c.is_autocommit-is_idle.ensures.settled (search rules) was in
    let sound = (c.schema.ensures.live was).0 in
    absurd (not_blank old.committed.trees (subst (λ s. IsSound s old.committed.trees) (ap (λ (d : Database). d.schema) (sym settled) ∙ blank) (subst (λ (d : Database). IsSound d.schema d.trees) settled sound)) held.sound))
    c.make.ensures.made

pub returns-then-is_blank-clause-crash : goal.returns-then-is_blank-clause-crash
returns-then-is_blank-clause-crash g c =
    let old = state g.S.Store c.args.conn in
    let blank : old.now.schema ≡ no_schema = search rules in
    IfOk-weaker c.make.result _ _ (λ log s. survives_weaker old (connection_of g.S.Store log) _ _ (λ _ db is. (blank, is)) s) c.make.ensures.survives

pub returns-then-is_blank-clause-crash_err : goal.returns-then-is_blank-clause-crash_err
returns-then-is_blank-clause-crash_err g c =
    let old = state g.S.Store c.args.conn in
    let blank : old.now.schema ≡ no_schema = search rules in
    IfErr-weaker c.make.result _ _ (λ e s. survives_weaker old (state g.S.Store e.1) _ _ (λ _ db is. (blank, is)) s) c.make.ensures.survives_err

pub returns-then-is_blank-clause-fresh : goal.returns-then-is_blank-clause-fresh
returns-then-is_blank-clause-fresh g c =
    both_ok c.make.result (λ log made header clean _. (header, (made clean).1, c.requires.start)) c.make.ensures.made c.make.ensures.header

pub returns-in-Ok-clause-fresh : goal.returns-in-Ok-clause-fresh
returns-in-Ok-clause-fresh g c clean blank =
    let old = state g.S.Store c.args.conn in
    let ours : old.now.schema ≡ log_schema = search rules in
    absurd (not_empty (sym ours ∙ blank))

pub returns-in-Ok-clause-opened : goal.returns-in-Ok-clause-opened
returns-in-Ok-clause-opened g c =
    let old = state g.S.Store c.args.conn in
    let new = state g.S.Store c.replay_rows.new.conn in
    let ours : old.now.schema ≡ log_schema = search rules in
    let it = c.in-Ok.ensures.read in (
      it.entries,
      it.follows,
      λ clean.
          let was = it.rows clean in
          record {
            rows = is_log_read old new (heading_of c.in-Ok.header) it.entries ours (c.is_autocommit-is_idle.ensures.settled (search rules)) (λ is_open. (c.schema.ensures.live is_open).0) c.replay_rows.ensures.idle was.0 was.1;
            counted = it.counted;
          },
    )

pub returns-in-Ok-clause-found : goal.returns-in-Ok-clause-found
returns-in-Ok-clause-found g c clean h entries held =
    let old = state g.S.Store c.args.conn in
    let new = state g.S.Store c.replay_rows.new.conn in
    let k = heading_of c.in-Ok.header in
    let ours : old.now.schema ≡ log_schema = search rules in
    let it = c.in-Ok.ensures.read in
    let was = it.rows clean in
    let settled = c.is_autocommit-is_idle.ensures.settled (search rules) was.1.0.was_open in
    let one = same_log k h it.entries entries old.committed.trees (subst (λ (d : Database). Holds k it.entries d.trees) settled was.0) held.holds in
    let log = is_log_read old new k it.entries ours (c.is_autocommit-is_idle.ensures.settled (search rules)) (λ is_open. (c.schema.ensures.live is_open).0) c.replay_rows.ensures.idle was.0 was.1 in (
      one.0,
      record { rows = subst (IsLog new k) one.1 log; counted = it.counted ∙ ap length one.1 },
      subst (g.R.Replay.follows c.replay_rows.new.replay) one.1 it.follows,
    )
