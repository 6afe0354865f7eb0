-- What reading the table shows.
use Rattle.std.proofs.Common.{◌≡◌, ℕ, ◌+◌, pos, negsuc, List, [], ◌∷◌, ◌++◌, length, map, codes, false, None, Some, refl, sym, ap, subst, ◌∙◌, arith}
use Rattle.std.specs.Prelude.{flat_map}
use Rattle.std.specs.List.Sorted.{IsPermutation}
use Rattle.std.proofs.lemmas.List.Sorted.{IsPermutation-map, IsPermutation-sym}
use Rattle.std.proofs.lemmas.List.{map-append}
use Rattle.sqlite.specs.declared.types.Value.TheVariants.{Int}
use Rattle.sqlite.specs.Order.{Row}
use Rattle.sqlite.specs.Collation.TheVariants.{Binary}
use Rattle.sqlite.specs.Term.{lit, col}
use Rattle.sqlite.specs.Query.{Query, inner, end, IsAnswer, output, Output}
use Rattle.sqlite.specs.Program.{overlay}
use Rattle.sqlite.specs.Command.{Command}
use Rattle.sqlite.specs.Command.TheVariants.{Select}
use Rattle.sqlite.specs.Effect.{Database}
use Rattle.sqlite_tied.specs.Compute.{everything}
use Rattle.sqlite.specs.Listing.{understood, reads_listing}
use Rattle.sqlite.specs.State.{State, Shown, IsUnchanged, Survives, CommitsShowing}
use Rattle.sqlite.proofs.Callers.{IsPlain, command_of, reads_as, never_commits}
use Rattle.sqlite.proofs.StateLemmas.{survives_weaker}
use Rattle.mg_log.specs.Table.{log_schema}
use Rattle.sqlite.specs.Store.{Ghosts}
use Rattle.sqlite.specs.Held.{Held, state}
use Rattle.sqlite.specs.Given.{HasGiven}
use Rattle.mg_log.specs.declared.commit.Commit.{Commit}
use Rattle.mg_log.specs.Header.{Heading, IsHeaderText}
use Rattle.mg_log.specs.Entry.{Entry, entry_of, head_entry}
use Rattle.mg_log.specs.Reading.{select_text, GivesHeader, GivesNext}
use Rattle.mg_log.specs.Rows.{row_of, rows_from, shown, three_of, Lists, Holds}
use Rattle.mg_log.proofs.Numbered.{rows_from-append}

abbrev query : Query
query = record {
  from = inner 0 end;
  filter = [];
  group = None;
  project = col 1 0 ∷ col 1 2 ∷ col 1 3 ∷ [];
  distinct = false;
  collations = [];
  order = (col 1 0, record { collation = Binary; descending = false }) ∷ [];
  limit = lit (Int (negsuc 0));
  offset = lit (Int (pos 0));
}

abbrev command : Command
command = Select (record { lets = []; body = query }) (codes "number" ∷ codes "kind" ∷ codes "body" ∷ [])

select_is : (command_of (understood log_schema select_text) ≡ command) × (reads_listing log_schema select_text ≡ false)
unfolding understood everything
select_is = (refl, refl)

pub select_plain : IsPlain (understood log_schema select_text)
unfolding understood everything
select_plain = (refl, refl)

-- the query is plain under the schema of a log
pub plain_in : (s : State) → s.now.schema ≡ log_schema → IsPlain (understood s.now.schema select_text)
plain_in s has = subst (λ x. IsPlain (understood x select_text)) (sym has) select_plain

outputs : (rows : List Row) → map (λ (o : Output). o.1) (map (output query) (flat_map (λ r. ([] ∷ r ∷ []) ∷ []) rows)) ≡ map shown rows
outputs [] = refl
outputs (r ∷ rows) = ap (λ more. shown r ∷ more) (outputs rows)

-- the answer has the rows of the table, in some order
answered : (old new : State) (rows : List Row) → old.now.schema ≡ log_schema → Shown select_text [] old new rows → IsPermutation (map shown (old.now.trees 0)) rows
answered old new rows has h =
    let a : IsAnswer query (overlay old.now.trees []) [] rows = (reads_as select_text [] old new log_schema has command select_is.0 select_plain select_is.1 rows h).answer _ in
    let all : map (λ (o : Output). o.1) a.kept ≡ map shown (old.now.trees 0) = ap (map (λ (o : Output). o.1)) (a.distinct ∙ ap (map (output query)) a.grouped) ∙ outputs (old.now.trees 0) in
    let mixed = IsPermutation-map (λ (o : Output). o.1) a.kept a.ordered a.same in
    rw a.shown (rw all at mixed)

threes : (rows : List Row) → map three_of (map shown rows) ≡ map shown rows
threes [] = refl
threes (r ∷ rows) = ap (λ more. shown r ∷ more) (threes rows)

-- where the answer is numbered from 0, the table lists it
pub reads_list : (old new : State) (rows : List Row) (all : List Entry) → old.now.schema ≡ log_schema → Shown select_text [] old new rows → map three_of rows ≡ rows_from 0 all → Lists all old.now.trees
reads_list old new rows all has h numbered =
    let mixed = IsPermutation-map three_of _ _ (answered old new rows has h) in
    IsPermutation-sym _ _ (rw (threes (old.now.trees 0), numbered) at mixed)

-- reading changes nothing
pub shown_same : (old new : State) (rows : List Row) → old.now.schema ≡ log_schema → Shown select_text [] old new rows → IsUnchanged old new
unfolding Shown
shown_same old new rows has h =
    let known = sym h.1.is ∙ ap (λ s. understood s select_text) has in
    let none = (subst IsPlain (sym known) select_plain).0 in
    (rw none at h.2).3

pub read_survives : (old new : State) → old.now.schema ≡ log_schema → Survives old new (CommitsShowing select_text [] old) → Survives old new (λ _. ⊥)
read_survives old new has = survives_weaker old new _ _ (λ _ db. never_commits select_text [] old db (plain_in old has))

-- one more row with the next number
pub numbered_more : (rows : List Row) (row : Row) (all : List Entry) (e : Entry) → map three_of rows ≡ rows_from 0 all → three_of row ≡ row_of (length all) e → map three_of (rows ++ row ∷ []) ≡ rows_from 0 (all ++ e ∷ [])
numbered_more rows row all e before this =
    let one : three_of row ∷ [] ≡ rows_from (0 + length all) (e ∷ []) = ap (λ r. r ∷ []) (this ∙ ap (λ n. row_of n e) (let s : length all ≡ 0 + length all = omega arith in s)) in
    map-append three_of rows (row ∷ []) ∙ ap (λ xs. xs ++ three_of row ∷ []) before ∙ ap (λ ys. rows_from 0 all ++ ys) one ∙ sym (rows_from-append 0 all (e ∷ []))

-- the query has given the rows of this header and these commits
abbrev pub HasGivenLog : {S : Type 0} → Ghosts S → Heading → List Entry → Held S → Type 0
HasGivenLog g h entries now = (given : List Row) × (head : List ℕ) × IsHeaderText h head × (map three_of given ≡ rows_from 0 (head_entry head ∷ entries)) × HasGiven g select_text [] now given

module _ {S : Type 0} (g : Ghosts S) (a b : Held S) (h : Heading) where
  pub first_given : HasGiven g select_text [] a [] → GivesHeader g a b h → HasGivenLog g h [] b
  first_given began gives = let it = gives [] began in (it.0 ∷ [], it.1.head, it.1.says, ap (λ r. r ∷ []) it.1.is, it.2)

  module _ (entries : List Entry) (number : ℕ) (before : HasGivenLog g h entries a) where
    pub next_given : (c : Commit) → number ≡ length entries + 1 → GivesNext g a b number (Some c) → HasGivenLog g h (entries ++ entry_of c ∷ []) b
    next_given c counted gives =
        let it = gives before.0 before.4 in
        let all = head_entry before.1 ∷ entries in
        let place : number ≡ length all = omega (arith, counted) in
        let this : three_of it.0 ≡ row_of (length all) (entry_of c) = it.1 ∙ ap (λ n. row_of n (entry_of c)) place in
        (before.0 ++ it.0 ∷ [], before.1, before.2, numbered_more before.0 it.0 all (entry_of c) before.3 this, it.2)

    pub last_given : (state g a).now.schema ≡ log_schema → GivesNext g a b number None → Holds h entries (state g a).now.trees
    last_given has gives = record {
      head = before.1;
      says = before.2;
      rows = reads_list (state g a) (state g b) before.0 (head_entry before.1 ∷ entries) has (gives before.0 before.4) before.3;
    }
