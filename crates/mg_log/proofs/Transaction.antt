-- One transaction on a log.
use Rattle.std.proofs.Common.{◌≡◌, ◌⊎◌, inl, inr, ⊎_elim, ℕ, ◌+◌, List, ◌∷◌, ◌++◌, length, true, false, IsTrue, refl, sym, ap, subst, ◌∙◌, arith}
use Rattle.sqlite.specs.Tree.{Trees}
use Rattle.sqlite.specs.Effect.{Database}
use Rattle.sqlite.specs.State.{State, HasCleanDisk, Survives, Shows, IsRolledBack, KeepsCommit}
use Rattle.sqlite.specs.Steps.{FailsToCommit}
use Rattle.sqlite.specs.declared.error.Error.{Error}
use Rattle.sqlite.proofs.StateLemmas.{survives_then}
use Rattle.sqlite_catalog.specs.Listing.{IsSound}
use Rattle.mg_log.specs.Table.{log_schema}
use Rattle.mg_log.specs.Header.{Heading}
use Rattle.mg_log.specs.Entry.{Entry, head_entry}
use Rattle.mg_log.specs.Rows.{Holds, IsLogIn, IsLog, IsWriting, Adds, IsWritten, LeavesAllOrNone, LeavesSame, StaysLog}

-- the connection once a transaction has begun
abbrev pub begun : State → State
begun s = record s { in_transaction = true }

-- what is added behind all rows of a log is added to the log
pub holds_more : (h : Heading) (entries news : List Entry) (n : ℕ) (old new : State) → n ≡ length entries + 1 → Adds n news old new → Holds h entries old.now.trees → Holds h (entries ++ news) new.now.trees
holds_more h entries news n old new counted adds held =
    let all = head_entry held.head ∷ entries in
    let counted_all : length all ≡ n = omega (arith, counted) in
    record { head = held.head; says = held.says; rows = adds.holds all counted_all held.rows }

-- s is the log before the call, m the transaction before its end, and t the state after the call
module _ (s m t : State) (h : Heading) (entries : List Entry) (log : IsLog s h entries) where
  pub begins : IsWriting (begun s)
  begins = record { is_open = log.is_open; inside = refl; schema = log.schema; sound = subst (λ (d : Database). IsSound log_schema d.trees) (sym log.settled) log.holds.sound }

  module _ (news : List Entry) (n : ℕ) (counted : n ≡ length entries + 1) (adds : Adds n news (begun s) m) where
    pub added : IsLogIn h (entries ++ news) m.now.trees
    added = record {
      holds = holds_more h entries news n (begun s) m counted adds (subst (λ (d : Database). Holds h entries d.trees) (sym log.settled) log.holds.holds);
      sound = adds.writing.sound;
    }

    pub appended : Shows m t m.now m.now false → IsLog t h (entries ++ news)
    appended shows = record {
      is_open = shows.is_open;
      autocommit = shows.mode;
      schema = ap (λ (d : Database). d.schema) shows.now_is ∙ adds.writing.schema;
      settled = shows.now_is ∙ sym shows.committed_is;
      holds = subst (λ (d : Database). IsLogIn h (entries ++ news) d.trees) (sym shows.committed_is) added;
    }

  -- what a transaction that is undone leaves
  pub refused : KeepsCommit (begun s) m → IsRolledBack m t → IsTrue t.is_open → IsLog t h entries
  refused kept undone is_open =
      let both = undone.undone is_open in
      let was : m.committed ≡ s.committed = kept.committed (undone.was_open is_open) in
      let same : t.committed ≡ s.committed = both.1 ∙ was in
      record {
        is_open = is_open;
        autocommit = undone.autocommit;
        schema = ap (λ (d : Database). d.schema) (both.0 ∙ was ∙ sym log.settled) ∙ log.schema;
        settled = both.0 ∙ sym both.1;
        holds = subst (λ (d : Database). IsLogIn h entries d.trees) (sym same) log.holds;
      }

  -- what a crash leaves: the log as it was, or what the call commits
  pub crashed : ((db : Trees) → s.may_leave db → db ≡ s.committed.trees) → (P : Trees → Type 0) → Survives s t P → HasCleanDisk t → (db : Trees) → t.may_leave db → IsLogIn h entries db ⊎ P db
  crashed only P survives clean db may = ⊎_elim (λ before. inl (subst (IsLogIn h entries) (sym (only db before)) log.holds)) (λ made. inr made) (survives.crash clean db may)

-- a log's transaction that ends by a commit: s is the log, m the transaction with the new rows, and t what the commit leaves
module _ (s m t : State) (count : ℕ) (news : List Entry) (inside : Survives s m (λ _. ⊥)) (adding : HasCleanDisk m → IsWriting (begun s) → Adds (count + 1) news (begun s) m) (ends : Survives m t (λ db. db ≡ m.now.trees)) where
  early : HasCleanDisk t → HasCleanDisk m
  early clean = omega (arith, ends.clean)

  next : (entries : List Entry) → count ≡ length entries → count + 1 ≡ length entries + 1
  next entries counted = omega (arith, counted)

  all_added : HasCleanDisk t → (h : Heading) (entries : List Entry) → IsLog s h entries → count ≡ length entries → IsLogIn h (entries ++ news) m.now.trees
  all_added clean h entries log counted = added s m t h entries log news (count + 1) (next entries counted) (adding (early clean) (begins s m t h entries log))

  pub committed : HasCleanDisk t → Shows m t m.now m.now false → IsWritten s t count news
  committed clean shows h entries log counted = appended s m t h entries log news (count + 1) (next entries counted) (adding (early clean) (begins s m t h entries log)) shows

  pub all_or_none : (IsTrue s.is_open → (db : Trees) → s.may_leave db → db ≡ s.committed.trees) → HasCleanDisk t → LeavesAllOrNone s t count news
  all_or_none only clean h entries log counted =
      let all = all_added clean h entries log counted in
      let whole = survives_then s m t _ _ (IsLogIn h (entries ++ news)) (λ _ _ none. absurd none) (λ _ x is. subst (IsLogIn h (entries ++ news)) (sym is) all) inside ends in
      crashed s m t h entries log (only log.is_open) _ whole clean

  pub commit_failed : (HasCleanDisk m → IsWriting (begun s) → KeepsCommit (begun s) m) → (e : Error) → HasCleanDisk t → FailsToCommit m t e → StaysLog s t
  commit_failed keeping e clean fails h entries log =
      let start = begins s m t h entries log in
      refused s m t h entries log (keeping (early clean) start) (undone_by e fails (adding (early clean) start))
    where
      undone_by : (e : Error) → FailsToCommit m t e → Adds (count + 1) news (begun s) m → IsRolledBack m t
      undone_by e (inl failed) adds = failed.3
      undone_by e (inr late) adds = absurd (let a = adds.writing.inside in let b = late.1 in cc)

-- a transaction that was not committed leaves the log
pub leaves_same : (s t : State) → (IsTrue s.is_open → (db : Trees) → s.may_leave db → db ≡ s.committed.trees) → Survives s t (λ _. ⊥) → HasCleanDisk t → LeavesSame s t
leaves_same s t only survives clean h entries log db may = ⊎_elim (λ was. was) (λ none. absurd none) (crashed s s t h entries log (only log.is_open) _ survives clean db may)

-- and so it does where all or none was asked
pub none_of : (s t : State) (count : ℕ) (news : List Entry) → LeavesSame s t → LeavesAllOrNone s t count news
none_of s t count news same h entries log counted db may = inl (same h entries log db may)
