-- What an open makes of the rows that it read.
use Rattle.std.proofs.Common.{◌≡◌, ◌⊎◌, inl, inr, List, [], false, IsTrue, refl, sym, ap, subst, ◌∙◌}
use Rattle.sqlite.specs.Effect.{Database, IsDatabase}
use Rattle.sqlite.specs.State.{State, Fails, FailsToQuery, IsNotRun, IsUnchanged}
use Rattle.sqlite.specs.declared.error.Error.{Error}
use Rattle.sqlite.specs.Listing.{understood}
use Rattle.sqlite.proofs.Callers.{IsPlain, unchanged_then}
use Rattle.sqlite_catalog.specs.Listing.{IsSound}
use Rattle.mg_log.specs.Table.{log_schema}
use Rattle.mg_log.specs.Header.{Heading}
use Rattle.mg_log.specs.Entry.{Entry}
use Rattle.mg_log.specs.Reading.{select_text}
use Rattle.mg_log.specs.Rows.{Holds, IsKept, IsLog, IsLogIn}
use Rattle.mg_log.proofs.Reading.{select_plain}
use Rattle.mg_log.proofs.Transaction.{refused}

-- a connection that has read its log is that log
pub is_log_read : (old new : State) (h : Heading) (entries : List Entry) → old.now.schema ≡ log_schema → (IsTrue old.is_open → old.now ≡ old.committed) → (IsTrue old.is_open → IsDatabase old.now) → new.in_transaction ≡ false
    → Holds h entries old.now.trees → IsUnchanged old new → IsLog new h entries
is_log_read old new h entries has settled sound idle held unchanged =
    let same = unchanged.0 in
    let back : new.committed ≡ old.now = same.committed_is ∙ sym (settled same.was_open) in
    record {
      is_open = same.is_open;
      autocommit = idle;
      schema = ap (λ (d : Database). d.schema) same.now_is ∙ has;
      settled = same.now_is ∙ sym back;
      holds = record {
        holds = subst (λ (d : Database). Holds h entries d.trees) (sym back) held;
        sound = subst (λ (d : Database). IsSound log_schema d.trees) (sym back) (subst (λ s. IsSound s old.now.trees) has (sound same.was_open));
      };
    }

-- a call that fails, or changes nothing
pub kept_from : (s t : State) (e : Error) → Fails s t ⊥ e ⊎ IsUnchanged s t → IsKept s t
kept_from s t e (inl failed) = inr failed.3
kept_from s t e (inr same) = inl same

-- what a connection that changed nothing then leaves
pub kept_then : (a b c : State) → IsUnchanged a b → IsKept b c → IsKept a c
kept_then a b c p (inl same) = inl (unchanged_then a b c p same)
kept_then a b c p (inr undone) = inr (record {
  was_open = λ _. p.0.was_open;
  undone = λ is_open. let h = undone.undone is_open in (h.0 ∙ p.0.committed_is, h.1 ∙ p.0.committed_is);
  autocommit = undone.autocommit;
  unmarked = undone.unmarked;
  counts = record { changes = undone.counts.changes ∙ p.1.changes; last_rowid = undone.counts.last_rowid ∙ p.1.last_rowid };
})

-- a query of the rows that does not begin
pub query_kept : (s t : State) (e : Error) → s.now.schema ≡ log_schema → FailsToQuery select_text [] s t e → IsKept s t
unfolding FailsToQuery IsNotRun
query_kept s t e has (inl (inl none)) = inl none.1
query_kept s t e has (inl (inr failed)) = inr failed.3
query_kept s t e has (inr h) =
    let known = sym h.1.is ∙ ap (λ x. understood x select_text) has in
    let none = (subst IsPlain (sym known) select_plain).0 in
    inl (rw none at h.2).3

-- and so the log is kept
pub stays_log : (s t : State) (h : Heading) (entries : List Entry) → IsLog s h entries → IsKept s t → IsTrue t.is_open → IsLog t h entries
stays_log s t h entries log (inl same) is_open = record {
  is_open = is_open;
  autocommit = same.0.mode ∙ log.autocommit;
  schema = ap (λ (d : Database). d.schema) same.0.now_is ∙ log.schema;
  settled = same.0.now_is ∙ log.settled ∙ sym same.0.committed_is;
  holds = subst (λ (d : Database). IsLogIn h entries d.trees) (sym same.0.committed_is) log.holds;
}
stays_log s t h entries log (inr undone) is_open = refused s s t h entries log (record { was_open = λ was. was; committed = λ _. refl }) undone is_open
