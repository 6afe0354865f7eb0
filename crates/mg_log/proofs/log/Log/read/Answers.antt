use Rattle.std.proofs.Common.{◌≡◌, rules, sym, ap, subst, ◌∙◌}
use Rattle.sqlite.specs.Held.{state}
use Rattle.sqlite.specs.Effect.{Database}
use Rattle.mg_log.specs.Table.{log_schema}
use Rattle.mg_log.specs.Header.{heading_of}
use Rattle.mg_log.specs.Rows.{Holds}
use Rattle.mg_log.proofs.Opening.{is_log_read, stays_log}
use Rattle.mg_log.proofs.Unique.{same_log}
use Rattle.mg_log.proofs.log.Log.read.Goals as goal

pub returns-in-Ok-clause-read : goal.returns-in-Ok-clause-read
returns-in-Ok-clause-read g c clean entries keeps =
    let k = heading_of c.in-Ok._header in
    let h = heading_of c.args.self.now.header in
    let old = state g.S.Store c.args.self.now.conn in
    let it = c.in-Ok.ensures.read in
    let was = it.rows clean in
    let held = subst (λ (d : Database). Holds k it.entries d.trees) keeps.rows.settled was.0 in
    let one = same_log k h it.entries entries old.committed.trees held keeps.rows.holds.holds in
    subst (g.R.Replay.follows c.replay_rows.new.replay) one.1 it.follows

pub returns-in-Ok-clause-same : goal.returns-in-Ok-clause-same
returns-in-Ok-clause-same g c clean entries keeps =
    let h = heading_of c.args.self.now.header in
    let old = state g.S.Store c.args.self.now.conn in
    let new = state g.S.Store c.replay_rows.new.conn in
    let was = c.in-Ok.ensures.read.rows clean in
    let held = subst (λ (d : Database). Holds h entries d.trees) (sym keeps.rows.settled) keeps.rows.holds.holds in
    record {
      rows = is_log_read old new h entries keeps.rows.schema (λ _. keeps.rows.settled) (λ is_open. (c.schema.ensures.live is_open).0) c.replay_rows.ensures.idle held was.1;
      counted = keeps.counted;
    }

pub returns-in-Err-clause-refused : goal.returns-in-Err-clause-refused
returns-in-Err-clause-refused g c clean entries keeps is_open =
    let old = state g.S.Store c.args.self.now.conn in
    let new = state g.S.Store c.replay_rows.new.conn in
    record { rows = stays_log old new (heading_of c.args.self.now.header) entries keeps.rows (c.in-Err.ensures.kept clean) is_open; counted = keeps.counted }
