use Rattle.std.proofs.Common.{◌≡◌, [], ◌∷◌, ◌++◌, ◌+◌, length-append, refl, rules, subst, sym, ap, ◌∙◌, arith}
use Rattle.sqlite.specs.State.{State, HasCleanDisk, Survives, IsUnchanged, CommitsShowing}
use Rattle.sqlite.specs.Held.{state}
use Rattle.sqlite.proofs.Callers.{begun_plain, unchanged_then}
use Rattle.sqlite.proofs.StateLemmas.{survives_then}
use Rattle.sqlite.specs.Effect.{Database}
use Rattle.mg_log.specs.Header.{heading_of}
use Rattle.mg_log.specs.Entry.{entry_of}
use Rattle.mg_log.specs.Rows.{Holds, IsKept}
use Rattle.mg_log.specs.Reading.{select_text}
use Rattle.mg_log.proofs.Statements.{on_err}
use Rattle.mg_log.proofs.Opening.{kept_then, query_kept}
use Rattle.mg_log.proofs.Reading.{plain_in, read_survives, first_given, next_given, last_given}
use Rattle.mg_log.proofs.rows.replay_rows.Goals as goal

pub returns-in_err-rows-clause-survives : goal.returns-in_err-rows-clause-survives
returns-in_err-rows-clause-survives g c =
    let old = state g.S.Store c.args.conn.now in
    let new = state g.S.Store c.query.follows.lender-at-none in
    let held = c.query.follows.holds-at-none in
    let kept : Survives old new (CommitsShowing select_text [] old) = search rules in
    read_survives old new c.requires.schema kept

pub returns-in_err-header-clause-survives : goal.returns-in_err-header-clause-survives
returns-in_err-header-clause-survives g c =
    let old = state g.S.Store c.args.conn.now in
    let first = state g.S.Store c.in_ok-rows.rows.conn.now in
    let now = c.next_header.new.rows.conn.now in
    let begun = read_survives old first c.requires.schema c.in_ok-rows.ensures.survives in
    let whole = survives_then old first (state g.S.Store now) _ _ (λ _. ⊥) (λ _ _ none. none) (λ _ _ none. none) begun c.next_header.ensures.survives in
    let same : now ≡ c.conn-in_err-header-1.given.0 = search rules in
    subst (λ k. Survives old (state g.S.Store k) (λ _. ⊥)) same whole

pub rows-init : goal.rows-init
rows-init g c =
    let old = state g.S.Store c.args.conn.now in
    let a = c.in_ok-rows.rows.conn.now in
    let b = c.next_header.new.rows.conn.now in
    let begun = read_survives old (state g.S.Store a) c.requires.schema c.in_ok-rows.ensures.survives in
    record {
      same = refl;
      survives = survives_then old (state g.S.Store a) (state g.S.Store b) _ _ (λ _. ⊥) (λ _ _ none. none) (λ _ _ none. none) begun c.next_header.ensures.survives;
      idle = c.next_header.ensures.idle (c.in_ok-rows.ensures.mode c.requires.idle);
      entries = [];
      counted = refl;
      follows = c.requires.start;
      given = λ clean.
          let early : HasCleanDisk (state g.S.Store a) = omega (arith, c.next_header.ensures.survives.clean) in
          let started = begun_plain g.S.Store select_text [] c.args.conn.now a (plain_in old c.requires.schema) (c.in_ok-rows.ensures.begun early) in (
            unchanged_then old (state g.S.Store a) (state g.S.Store b) started.1 (c.in_ok-header.ensures.same clean),
            first_given g.S.Store a b (heading_of c.in_ok-header.header) started.0 (c.in_ok-header.ensures.gives clean),
          );
    }

pub returns-in_default-clause-read : goal.returns-in_default-clause-read
returns-in_default-clause-read g c =
    let old = state g.S.Store c.args.conn.now in
    let a = c.rows.rows.conn.now in
    let b = c.next_commit.new.rows.conn.now in
    let h = heading_of c.in_ok-header.header in
    let was = c.rows.invariant in
    let same : b ≡ c.conn-in_default-1.given.0 = search rules in
    record {
      entries = was.entries;
      follows = was.follows;
      counted = was.counted;
      rows = subst (λ k. HasCleanDisk (state g.S.Store k) → Holds h was.entries old.now.trees × IsUnchanged old (state g.S.Store k)) same (λ clean.
          let early : HasCleanDisk (state g.S.Store a) = omega (arith, c.next_commit.ensures.survives.clean) in
          let given = was.given early in
          let now = given.0.0.now_is in
          let has = ap (λ (d : Database). d.schema) now ∙ c.requires.schema in
          let held = last_given g.S.Store a b h was.entries (c.rows.count + 1) given.1 has (rw c.in_default.is at (c.in_ok-commit.ensures.gives clean)) in (
            subst (λ (d : Database). Holds h was.entries d.trees) now held,
            unchanged_then old (state g.S.Store a) (state g.S.Store b) given.0 (c.in_ok-commit.ensures.same clean),
          ));
    }

pub rows-preserved : goal.rows-preserved
rows-preserved g c =
    let old = state g.S.Store c.args.conn.now in
    let a = c.rows.rows.conn.now in
    let b = c.next_commit.new.rows.conn.now in
    let h = heading_of c.in_ok-header.header in
    let was = c.rows.invariant in
    let commit = c.in-Some.commit in
    record {
      same = c.next_commit.ensures.same_reference ∙ was.same;
      survives = survives_then old (state g.S.Store a) (state g.S.Store b) _ _ (λ _. ⊥) (λ _ _ none. none) (λ _ _ none. none) was.survives c.next_commit.ensures.survives;
      idle = c.next_commit.ensures.idle was.idle;
      entries = was.entries ++ entry_of commit ∷ [];
      counted = ap (λ n. n + 1) was.counted ∙ sym (length-append was.entries (entry_of commit ∷ []));
      follows = c.in-Ok.ensures was.entries was.follows;
      given = λ clean.
          let early : HasCleanDisk (state g.S.Store a) = omega (arith, c.next_commit.ensures.survives.clean) in
          let given = was.given early in (
            unchanged_then old (state g.S.Store a) (state g.S.Store b) given.0 (c.in_ok-commit.ensures.same clean),
            next_given g.S.Store a b h was.entries (c.rows.count + 1) given.1 commit (ap (λ n. n + 1) was.counted) (rw c.in-Some.is at (c.in_ok-commit.ensures.gives clean)),
          );
    }

pub returns-in_err-rows-clause-kept : goal.returns-in_err-rows-clause-kept
returns-in_err-rows-clause-kept g c clean =
    let old = state g.S.Store c.args.conn.now in
    let new = state g.S.Store c.query.follows.lender-at-none in
    let held = c.query.follows.holds-at-none in
    let it = rw c.in_err-rows.was at held in
    on_err _ (query_kept old new _ c.requires.schema (it.err clean))

pub returns-in_err-header-clause-kept : goal.returns-in_err-header-clause-kept
returns-in_err-header-clause-kept g c clean =
    let old = state g.S.Store c.args.conn.now in
    let a = c.in_ok-rows.rows.conn.now in
    let b = c.next_header.new.rows.conn.now in
    let same : b ≡ c.conn-in_err-header-1.given.0 = search rules in
    let kept = subst (λ k. HasCleanDisk (state g.S.Store k) → IsKept old (state g.S.Store k)) same (λ clean.
    let early : HasCleanDisk (state g.S.Store a) = omega (arith, c.next_header.ensures.survives.clean) in
    let started = begun_plain g.S.Store select_text [] c.args.conn.now a (plain_in old c.requires.schema) (c.in_ok-rows.ensures.begun early) in
    kept_then old (state g.S.Store a) (state g.S.Store b) started.1 (c.in_err-header.ensures.kept clean)) in
    on_err _ (kept clean)
