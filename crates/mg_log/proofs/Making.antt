-- What making the table does.
use Rattle.std.proofs.Common.{◌≡◌, ℕ, List, [], ◌∷◌, ◌++◌, length, false, None, Option, Ok, Err, Result, OnOk, IsTrue, refl, sym, ap, subst, ◌∙◌, arith}
use Rattle.std.proofs.lemmas.List.Sorted.{IsPermutation-refl}
use Rattle.std.specs.List.{AllZip}
use Rattle.sqlite.specs.Order.{Row}
use Rattle.sqlite.specs.Command.TheVariants.{CreateTable}
use Rattle.sqlite.specs.Change.{created, next_tree}
use Rattle.sqlite.specs.Does.{Tally, Does, lacks_sequence}
use Rattle.sqlite.specs.Tree.{Trees}
use Rattle.sqlite.specs.Table.{Table}
use Rattle.sqlite.specs.Schema.{Schema}
use Rattle.sqlite.specs.Effect.{Database}
use Rattle.sqlite.specs.declared.error.Error.{Error}
use Rattle.sqlite.specs.declared.run.Mode.{Mode}
use Rattle.sqlite_catalog.specs.Listing.{IsSound, IsTableRow}
use Rattle.sqlite.specs.State.{State, HasCleanDisk, Survives, mode_of, Writes, Shows, ExecutesInside}
use Rattle.sqlite.proofs.StateLemmas.{survives_then}
use Rattle.sqlite.proofs.Callers.{runs_as}
use Rattle.mg_log.specs.Table.{commits_table, log_schema, no_schema}
use Rattle.mg_log.specs.Header.{Heading, IsHeaderText}
use Rattle.mg_log.specs.Entry.{Entry, head_entry}
use Rattle.mg_log.specs.Rows.{IsLog, IsLogIn, IsWriting, Adds, IsNewLog}
use Rattle.mg_log.proofs.Statements.{create_text, create_is, create_plain, went, same_value}

made_as : (limit : Option ℕ) (mode : Mode) (db : Database) (tally : Tally) (after : Database) → db.schema ≡ no_schema → Does limit mode [] db create_text None CreateTable (Ok (tally, after))
    → (after.schema ≡ log_schema) × (after.trees 0 ≡ [])
made_as limit mode db tally after has h =
    let all = went h in
    let first = went all.1 in
    let made = first.1 in
    let both : Ok made.table ≡ Ok commits_table = sym made.defined ∙ create_is.2 in
    let same : made.table ≡ commits_table = cc in
    let schema : first.0.schema ≡ log_schema = made.is ∙ ap (λ s. created s made.table) has ∙ ap (created no_schema) same in
    let plain : lacks_sequence first.0.schema ≡ false = ap lacks_sequence schema in
    let now : after ≡ first.0 = ap (λ (p : Tally × Database). p.1) (same_value all.2) ∙ same_value (rw plain at first.2) in
    (ap (λ (d : Database). d.schema) now ∙ schema, ap (λ (d : Database). d.trees 0) now ∙ subst (λ s. first.0.trees (next_tree s) ≡ []) has made.empty)

-- the table stands in the transaction, with no row
pub creates : (old new : State) (r : Result ℕ Error) → old.now.schema ≡ no_schema → ExecutesInside 0 create_text [] old new r → OnOk r (IsTrue old.is_open × IsWriting new × (new.now.trees 0 ≡ []))
creates old new (Err e) has h = tt
creates old new (Ok count) has h =
    let w = subst (λ t. Writes old new None CreateTable t [] count) create_is.1 (runs_as create_text [] old new no_schema has CreateTable create_is.0 create_plain count h.0) in
    let done = made_as old.step_limit (mode_of old) old.now w.tally new.now has w.changed in
    (h.1.was_open, record { is_open = h.1.is_open; inside = h.1.mode; schema = done.0; sound = subst (λ s. IsSound s new.now.trees) done.0 w.sound }, done.1)

-- the header's row in the new table is a log with no commit
pub new_log : (m u : State) (h : Heading) (head : List ℕ) → IsHeaderText h head → m.now.trees 0 ≡ [] → Adds 0 (head_entry head ∷ []) m u → IsLogIn h [] u.now.trees
new_log m u h head says none adds = record {
  holds = record { head = head; says = says; rows = adds.holds [] refl (rw none (IsPermutation-refl _)) };
  sound = adds.writing.sound;
}

-- and so it is once it is committed
pub new_log_committed : (m u t : State) (h : Heading) (head : List ℕ) → IsHeaderText h head → m.now.trees 0 ≡ [] → Adds 0 (head_entry head ∷ []) m u → Shows u t u.now u.now false → IsLog t h []
new_log_committed m u t h head says none adds shows = record {
  is_open = shows.is_open;
  autocommit = shows.mode;
  schema = ap (λ (d : Database). d.schema) shows.now_is ∙ adds.writing.schema;
  settled = shows.now_is ∙ sym shows.committed_is;
  holds = subst (λ (d : Database). IsLogIn h [] d.trees) (sym shows.committed_is) (new_log m u h head says none adds);
}

-- a new log: s is the database without tables, m has the table, u the header's row too, and t is what the commit leaves
module _ (s m u t : State) (head : List ℕ) (making : HasCleanDisk m → IsTrue s.is_open × IsWriting m × (m.now.trees 0 ≡ [])) (adding : HasCleanDisk u → IsWriting m → Adds 0 (head_entry head ∷ []) m u)
    (makes : Survives s m (λ _. ⊥)) (adds : Survives m u (λ _. ⊥)) (ends : Survives u t (λ db. db ≡ u.now.trees)) where
  early_u : HasCleanDisk t → HasCleanDisk u
  early_u clean = omega (arith, ends.clean)

  early_m : HasCleanDisk t → HasCleanDisk m
  early_m clean = omega (arith, ends.clean, adds.clean)

  pub created_log : HasCleanDisk t → Shows u t u.now u.now false → IsNewLog s t head
  created_log clean shows h says =
      let it = making (early_m clean) in
      (it.0, new_log_committed m u t h head says it.2 (adding (early_u clean) it.1) shows)

  pub creates_survives : (h : Heading) → IsHeaderText h head → Survives s t (IsLogIn h [])
  creates_survives h says =
      let inside = survives_then s m u _ _ (λ _. ⊥) (λ _ _ none. none) (λ _ _ none. none) makes adds in
      survives_then s u t _ _ (IsLogIn h []) (λ _ _ none. absurd none)
      (λ clean db is. let it = making (early_m clean) in subst (IsLogIn h []) (sym is) (new_log m u h head says it.2 (adding (early_u clean) it.1)))
      inside ends

both_listed : (rows : List Row) (t : Table) → AllZip IsTableRow rows [] → AllZip IsTableRow rows (t ∷ []) → ⊥
both_listed [] t a b = b
both_listed (r ∷ rows) t a b = a

-- a database with no table is no log
pub not_blank : (db : Trees) → IsSound no_schema db → IsSound log_schema db → ⊥
not_blank db a b = both_listed _ commits_table a.lists.listed.tables b.lists.listed.tables

-- the schema of a log is not empty
pub not_empty : ¬ (log_schema ≡ no_schema)
not_empty same = let e = ap (λ (s : Schema). length s.tables) same in omega arith
