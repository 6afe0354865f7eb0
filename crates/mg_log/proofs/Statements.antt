-- What the statements that write do to the table.
use Rattle.std.proofs.Common.{◌≡◌, ◌⊎◌, inl, inr, ℕ, ◌+◌, pos, List, [], ◌∷◌, ◌++◌, length, codes, Bool, true, false, not, cond, ◌&&◌, None, Ok, Err, Result, IfOk, OnOk, OnErr, refl, sym, ap, subst, ◌∙◌, append-nil, append_assoc, length-append, ◌<◌, take, get_or, arith}
use Rattle.std.proofs.lemmas.List.{take_more, map-append, length-map, length-take-le}
use Rattle.sqlite.specs.declared.types.Value.{Value}
use Rattle.sqlite.specs.declared.types.Value.TheVariants.{Null, Int, Text}
use Rattle.sqlite.specs.Order.{Row}
use Rattle.sqlite.specs.Term.{Term, lit, col}
use Rattle.sqlite.specs.Ops.{unary}
use Rattle.sqlite.specs.Kind.TheVariants.{Integer}
use Rattle.sqlite.specs.Source.TheVariants.{Values}
use Rattle.sqlite.specs.Command.TheVariants.{Insert, CreateTable}
use Rattle.sqlite.specs.Compile.{table_defined_by}
use Rattle.sqlite.specs.Edit.{Edit, edit_of, edited, is_taken, are_fresh}
use Rattle.sqlite.specs.Cast.{cast}
use Rattle.sqlite.specs.Rowids.TheVariants.{Chosen}
use Rattle.sqlite.specs.Does.{Tally, Does}
use Rattle.sqlite.specs.Rows.{Written}
use Rattle.sqlite.specs.Tree.{Trees, put_row}
use Rattle.sqlite_tied.specs.Compute.{everything}
use Rattle.sqlite_catalog.specs.Listing.{IsSound}
use Rattle.sqlite.specs.declared.error.Error.{Error}
use Rattle.sqlite.specs.Listing.{understood}
use Rattle.sqlite.specs.Effect.{Database}
use Rattle.sqlite.specs.State.{State, mode_of, Executes, ExecutesInside, IsUnchanged, IsRolledBack, KeepsCommit}
use Rattle.sqlite.proofs.Callers.{IsPlain, command_of, statement_of, runs_as, one_step}
use Rattle.mg_log.specs.Table.{commits_table, log_schema, no_schema}
use Rattle.mg_log.specs.declared.commit.Commit.{Commit}
use Rattle.mg_log.specs.Entry.{Entry, entry_of, entries_of}
use Rattle.mg_log.specs.Rows.{stored, Lists, IsWriting, Adds}
use Rattle.mg_log.proofs.Numbered.{one_more}

abbrev pub create_text : List ℕ
create_text = codes "CREATE TABLE commits (number INTEGER PRIMARY KEY, kind TEXT NOT NULL, body TEXT NOT NULL) STRICT"

abbrev pub insert_text : List ℕ
insert_text = codes "INSERT INTO commits (number, kind, body) VALUES (?1, ?2, ?3)"

abbrev terms : List Term
terms = col 0 0 ∷ lit Null ∷ col 0 1 ∷ col 0 2 ∷ []

pub create_is : (command_of (understood no_schema create_text) ≡ CreateTable) × (statement_of create_text (understood no_schema create_text) ≡ create_text) × (table_defined_by create_text ≡ Ok commits_table)
unfolding understood everything
create_is = (refl, refl, refl)

insert_is : command_of (understood log_schema insert_text) ≡ Insert 0 (Values terms 4)
unfolding understood everything
insert_is = refl

pub create_plain : IsPlain (understood no_schema create_text)
unfolding understood everything
create_plain = (refl, refl)

insert_plain : IsPlain (understood log_schema insert_text)
unfolding understood everything
insert_plain = (refl, refl)

-- a column keeps a value of its own type
either : (b : Bool) (x : Value) → cond b x x ≡ x
either true x = refl
either false x = refl

cast_null : cast Integer Null ≡ Null
unfolding unary
cast_null = either _ Null

cast_int : (n : _) → cast Integer (Int n) ≡ Int n
unfolding unary
cast_int n = either _ (Int n)

-- a part that gave a value did not stop on the way
pub went : {B E R : Type 0} {b : B} {Stops : E → Type 0} → ((stop : E) × Stops stop × (Ok b ≡ Err stop)) ⊎ R → R
went (inl stopped) = absurd (let e = stopped.2 in cc)
went (inr on) = on

pub same_value : {B E : Type 0} {a b : B} → ◌≡◌ {A = Result B E} (Ok a) (Ok b) → a ≡ b
same_value e = cc

abbrev source : ℕ → Entry → Row
source number e = Int (pos number) ∷ Null ∷ Text e.kind ∷ Text e.body ∷ []

abbrev pub params_of : ℕ → Entry → Row
params_of number e = Int (pos number) ∷ Text e.kind ∷ Text e.body ∷ []

abbrev edit_for : Trees → ℕ → Entry → Edit
edit_for db number e = edit_of db commits_table [] Chosen 0 (source number e ∷ [])

news_are : (db : Trees) (number : ℕ) (e : Entry) → (edit_for db number e).news ≡ stored number e ∷ []
news_are db number e = rw (cast_null, cast_int (pos number)) refl

not_false : (b : Bool) → (not b && true) ≡ true → b ≡ false
not_false true h = absurd (let e = h in cc)
not_false false h = refl

-- an insert puts the row where its number was free
inserted : (old new : State) (number : ℕ) (e : Entry) (count : ℕ) → old.now.schema ≡ log_schema → Executes insert_text (params_of number e) old new (Ok count)
    → (new.now.schema ≡ log_schema) × (is_taken (old.now.trees 0) (stored number e) ≡ false) × (new.now.trees 0 ≡ put_row (stored number e) (old.now.trees 0)) × IsSound log_schema new.now.trees
inserted old new number e count has h =
    let params = params_of number e in
    let db = old.now.trees in
    let command = Insert 0 (Values terms 4) in
    let w = runs_as insert_text params old new log_schema has command insert_is insert_plain count h in
    let text = statement_of insert_text (understood log_schema insert_text) in
    let done = went (subst (λ s. Does old.step_limit (mode_of old) params (record old.now { schema = s }) text None command (Ok (w.tally, new.now))) has w.changed) in
    let now = ap (λ (p : Tally × Database). p.1) (same_value (went (went done.2).2).2) in
    let given = went done.1 in
    let written = went (went given.2).2 in
    let counted = went written.2 in
    let trees : done.0.trees ≡ written.0 = ap (λ (it : Written). it.trees) (same_value counted.2) ∙ same_value counted.1 in
    let applied = one_step log_schema _ db written.0 (edit_of db commits_table [] Chosen 0 given.0) refl written.1 in
    let rows : edited db (edit_of db commits_table [] Chosen 0 given.0) ≡ put_row (stored number e) (db 0) =
    ap (λ all. edited db (edit_of db commits_table [] Chosen 0 all)) given.1.1 ∙ rw (cast_null, cast_int (pos number)) refl in
    let fresh : are_fresh (db 0) (stored number e ∷ []) ≡ true =
    sym (ap (λ all. are_fresh (db 0) (edit_of db commits_table [] Chosen 0 all).news) given.1.1 ∙ ap (are_fresh (db 0)) (news_are db number e)) ∙ applied.fresh in (
      ap (λ (d : Database). d.schema) now,
      not_false _ fresh,
      ap (λ (d : Database). d.trees 0) now ∙ ap (λ (t : Trees). t 0) trees ∙ applied.rows ∙ rows,
      subst (λ s. IsSound s new.now.trees) (ap (λ (d : Database). d.schema) now) w.sound,
    )

pub insert_adds : (old new : State) (number : ℕ) (e : Entry) (r : Result ℕ Error) → IsWriting old → ExecutesInside 0 insert_text (params_of number e) old new r → OnOk r (Adds number (e ∷ []) old new)
insert_adds old new number e (Err error) writing h = tt
insert_adds old new number e (Ok count) writing h =
    let it = inserted old new number e count writing.schema h.0 in
    record {
      writing = record { is_open = h.1.is_open; inside = h.1.mode; schema = it.0; sound = it.3 };
      committed = h.1.committed_is;
      holds = λ before len lists.
          let same : number ≡ length before = sym len in
          one_more before e old.now.trees new.now.trees (subst (λ k. is_taken (old.now.trees 0) (stored k e) ≡ false) same it.1) (subst (λ k. new.now.trees 0 ≡ put_row (stored k e) (old.now.trees 0)) same it.2) lists;
    }

-- ---- steps of a transaction

unchanged_keeps : (old new : State) → IsUnchanged old new → KeepsCommit old new
unchanged_keeps old new h = record { was_open = λ _. h.0.was_open; committed = λ _. h.0.committed_is }

rolled_keeps : (old new : State) → IsRolledBack old new → KeepsCommit old new
rolled_keeps old new h = record { was_open = h.was_open; committed = λ is_open. (h.undone is_open).1 }

-- a statement in a transaction commits nothing
pub inside_keeps : (old new : State) (sql : List ℕ) (params : Row) (r : Result ℕ Error) → ExecutesInside 0 sql params old new r → KeepsCommit old new
inside_keeps old new sql params (Ok count) h = record { was_open = λ _. h.1.was_open; committed = λ _. h.1.committed_is }
inside_keeps old new sql params (Err e) (inl (ran, inl same)) = unchanged_keeps old new same
inside_keeps old new sql params (Err e) (inl (ran, inr undone)) = rolled_keeps old new undone
inside_keeps old new sql params (Err e) (inr barred) = unchanged_keeps old new barred.2

pub keeps_then : (a b c : State) → KeepsCommit a b → KeepsCommit b c → KeepsCommit a c
keeps_then a b c p q = record { was_open = λ o. p.was_open (q.was_open o); committed = λ o. q.committed o ∙ p.committed (q.was_open o) }

pub adds_none : (n : ℕ) (s : State) → IsWriting s → Adds n [] s s
adds_none n s writing = record { writing = writing; committed = refl; holds = λ before len lists. rw append-nil lists }

pub adds_then : (n : ℕ) (xs ys : List Entry) (a b c : State) → Adds n xs a b → Adds (n + length xs) ys b c → Adds n (xs ++ ys) a c
adds_then n xs ys a b c p q = record {
  writing = q.writing;
  committed = q.committed ∙ p.committed;
  holds = λ before len lists.
      let sum : length (before ++ xs) ≡ n + length xs = length-append before xs ∙ ap (λ k. k + length xs) len in
      subst (λ all. Lists all c.now.trees) (append_assoc before xs ys) (q.holds (before ++ xs) sum (p.holds before len lists));
}

-- one more commit of a group
pub adds_next : (n i : ℕ) (commits : List Commit) (x : Commit) (a b c : State) → i < length commits → x ≡ get_or commits i x → Adds n (entries_of (take i commits)) a b → Adds (n + i) (entry_of x ∷ []) b c
    → Adds n (entries_of (take (i + 1) commits)) a c
adds_next n i commits x a b c low is p q =
    let len : length (entries_of (take i commits)) ≡ i = length-map (take i commits) entry_of ∙ length-take-le i commits (omega arith) in
    let list : entries_of (take (i + 1) commits) ≡ entries_of (take i commits) ++ entry_of x ∷ [] =
    ap entries_of (take_more commits i x low) ∙ map-append entry_of (take i commits) (get_or commits i x ∷ []) ∙ ap (λ y. entries_of (take i commits) ++ entry_of y ∷ []) (sym is) in
    subst (λ all. Adds n all a c) (sym list) (adds_then n _ (entry_of x ∷ []) a b c p (subst (λ k. Adds (n + k) (entry_of x ∷ []) b c) (sym len) q))

pub on_err : {X E P : Type 0} (r : Result X E) → P → OnErr r P
on_err (Ok x) p = tt
on_err (Err e) p = p

pub on_ok : {X E P : Type 0} (r : Result X E) → P → OnOk r P
on_ok (Ok x) p = p
on_ok (Err e) p = tt

pub both_ok : {X E : Type 0} {P Q R : X → Type 0} (r : Result X E) → ((x : X) → P x → Q x → R x) → IfOk r P → IfOk r Q → IfOk r R
both_ok (Ok x) f p q = f x p q
both_ok (Err e) f p q = tt
