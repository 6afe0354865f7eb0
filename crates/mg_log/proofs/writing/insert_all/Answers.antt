use Rattle.std.proofs.Common.{◌≡◌, ◌+◌, ◌∙◌, ◌∷◌, [], subst, arith}
use Rattle.sqlite.specs.Held.{state}
use Rattle.sqlite.proofs.StateLemmas.{survives_then}
use Rattle.mg_log.specs.Entry.{entry_of}
use Rattle.mg_log.specs.Rows.{Adds}
use Rattle.mg_log.proofs.Statements.{adds_next}
use Rattle.mg_log.proofs.writing.insert_all.Goals as goal

pub loop-commit-preserved : goal.loop-commit-preserved
loop-commit-preserved g c =
    let old = state g.S.Store c.args.tx.now.conn.now in
    let mid = state g.S.Store c.loop-commit.tx.conn.now in
    let now = state g.S.Store c.insert_commit.new.tx.conn.now in
    let was = c.loop-commit.invariant in
    let next : c.loop-commit.number + 1 ≡ (c.args.count + 1) + c.loop-commit.commit-index = omega (arith, was.number) in
    record {
      same = c.insert_commit.ensures.same_reference ∙ was.same;
      number = omega (arith, was.number);
      added = λ clean writing.
          let before = was.added (omega (arith, c.insert_commit.ensures.survives.clean)) writing in
          adds_next (c.args.count + 1) c.loop-commit.commit-index c.args.commits.now c.commit-item.result old mid now c.loop-commit-test.true c.commit-item.is before
          (subst (λ n. Adds n (entry_of c.commit-item.result ∷ []) mid now) next (c.in_ok-insert_commit.ensures.added clean before.writing));
      was_open = λ clean is_open. was.was_open (omega (arith, c.insert_commit.ensures.survives.clean)) (c.insert_commit.ensures.was_open clean is_open);
      survives = survives_then old mid now _ _ _ (λ _ _ none. none) (λ _ _ none. none) was.survives c.insert_commit.ensures.survives;
    }
