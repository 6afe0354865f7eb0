-- Histories that are dealt to shards: look-ups, and what an edit changes.
use lib.Dec.{T, eqb}
use Rattle.std.proofs.Common.{◌≡◌, ℕ, zero, suc, ◌<◌, Bool, true, false, List, [], ◌∷◌, Ok, Err, Result, Option, Some, None, option_and_then, unwrap_or, length, slice_get, set, cond, refl, ap, sym, ◌∙◌, subst, arith, length-set}
use Rattle.std.proofs.lemmas.Bool.{eqb-true, eq-eqb}
use Rattle.std.proofs.lemmas.Cmp.{nat_list_cmp_total}
use Rattle.std.proofs.lemmas.Option.{slice_get_within}
use Rattle.std.specs.Ordering.{eq_by_cmp}
use Rattle.std.specs.FinMap.{FinMap, empty, get, get-empty, get-insert, get-retain_keys, insert, retain_keys, same_map}
use Rattle.mg_doc.specs.Document.{Edit}
use Rattle.mg_doc.specs.Edit.{edited, outcome_of}
use Rattle.mg_doc.specs.declared.error.EditRefusal.{EditRefusal}
use Rattle.mg_revtree.specs.Revision.{Revision}
use Rattle.mg_revtree.specs.History.{Paths}
use Rattle.mg_shard.specs.Dealt.{AreDealt, Placing, ShardsStandFor, histories_on, kept_at}
use Rattle.mg_shard.specs.Documents.{KeptDocument, StandFor, StandsAt}
use Rattle.mg_shard.specs.Edits.{after_edit, id_in, outcome_in}
use Rattle.mg_shard.specs.Histories.{Histories, history_at}
use Rattle.mg_shard.specs.Shard.{ShardView}
use Rattle.mg_shard.proofs.Shown.{bytes_cmp, bytes_exact}
use Rattle.mg_shard.proofs.Standing.{same_id, stand_empty}
use Rattle.mg_shard.proofs.Touched.{after_done, after_refused}

-- ---- a list with one element replaced

pub slice_get-set : {X : Type 0} (xs : List X) (i : ℕ) (x : X) → i < length xs → slice_get (set xs i x) i ≡ Some x
slice_get-set [] i x l = absurd (omega arith)
slice_get-set (y ∷ xs) zero x l = refl
slice_get-set (y ∷ xs) (suc i) x l = slice_get-set xs i x (omega arith)

pub slice_get-set_other : {X : Type 0} (xs : List X) (i j : ℕ) (x : X) → (j ≡ i → ⊥) → slice_get (set xs i x) j ≡ slice_get xs j
slice_get-set_other [] i j x apart = refl
slice_get-set_other (y ∷ xs) zero zero x apart = absurd (apart refl)
slice_get-set_other (y ∷ xs) zero (suc j) x apart = refl
slice_get-set_other (y ∷ xs) (suc i) zero x apart = refl
slice_get-set_other (y ∷ xs) (suc i) (suc j) x apart = slice_get-set_other xs i j x (λ e. apart (ap suc e))

pub same_some : {X : Type 0} (x y : X) → Some x ≡ Some y → x ≡ y
same_some x y e = ap (λ o. unwrap_or o x) e

-- ---- the histories of the ids that pass a test

module _ {X : Type 0} where
  pub get-kept : (m : FinMap bytes_cmp X) (p : List ℕ → Bool) (q : List ℕ) → get (retain_keys m p) q ≡ cond (p q) (get m q) None
  get-kept m p q = get-retain_keys m p q (λ x t. ap p (sym (bytes_exact q x t)))

  kept_or : (b p q : Bool) (v : X) (o : Option X) → (b ≡ true → p ≡ q) → cond p (cond b (Some v) o) None ≡ cond q (cond b (Some v) (cond p o None)) (cond p o None)
  kept_or true true true v o h = refl
  kept_or true true false v o h = absurd (subst T (h refl) tt)
  kept_or true false true v o h = absurd (subst T (sym (h refl)) tt)
  kept_or true false false v o h = refl
  kept_or false true true v o h = refl
  kept_or false true false v o h = refl
  kept_or false false true v o h = refl
  kept_or false false false v o h = refl

  chosen : (b : Bool) (m : FinMap bytes_cmp X) (k : List ℕ) (v : X) (q : List ℕ) → get (cond b (insert m k v) m) q ≡ cond b (cond (eq_by_cmp bytes_cmp q k) (Some v) (get m q)) (get m q)
  chosen true m k v q = get-insert nat_list_cmp_total m k v q
  chosen false m k v q = refl

  -- an insertion into the map inserts among those that pass, or leaves them unchanged
  pub kept-insert : (m : FinMap bytes_cmp X) (p : List ℕ → Bool) (k : List ℕ) (v : X) → retain_keys (insert m k v) p ≡ cond (p k) (insert (retain_keys m p) k v) (retain_keys m p)
  kept-insert m p k v = same_map nat_list_cmp_total bytes_exact _ _ (λ q.
      get-kept (insert m k v) p q
      ∙ ap (λ o. cond (p q) o None) (get-insert nat_list_cmp_total m k v q)
      ∙ kept_or (eq_by_cmp bytes_cmp q k) (p q) (p k) v (get m q) (λ e. ap p (same_id q k e))
      ∙ sym (chosen (p k) (retain_keys m p) k v q ∙ ap (λ o. cond (p k) (cond (eq_by_cmp bytes_cmp q k) (Some v) o) o) (get-kept m p q)))

-- ---- one id

-- the history of an id is kept on the shard where the id is placed
pub history_on : (place : Placing) (n i : ℕ) (hs : Histories) (id : List ℕ) → place id n ≡ i → get (histories_on place n i hs) id ≡ get hs id
history_on place n i hs id at = get-kept hs (λ id. eqb (place id n) i) id ∙ ap (λ b. cond b (get hs id) None) (eq-eqb (place id n) i at)

same_history : (place : Placing) (n i : ℕ) (hs : Histories) (id : List ℕ) → place id n ≡ i → history_at (histories_on place n i hs) id ≡ history_at hs id
same_history place n i hs id at = ap (λ (o : Option Paths). unwrap_or o []) (history_on place n i hs id at)

-- an edit has the same outcome on the histories of the shard where its id is placed
pub same_outcome : (place : Placing) (n i : ℕ) (hs : Histories) (e : Edit) → place (id_in e) n ≡ i → outcome_in (histories_on place n i hs) e ≡ outcome_in hs e
same_outcome place n i hs e at = ap (λ (h : Paths). outcome_of h e) (same_history place n i hs (id_in e) at)

none_there : (id : List ℕ) (k : Option KeptDocument) (o : Option Paths) → k ≡ None → o ≡ None → StandsAt id k o
none_there id None None e f = tt
none_there id None (Some h) e f = absurd cc
none_there id (Some d) o e f = absurd cc

nowhere : (o : Option Paths) → ((h : Paths) → o ≡ Some h → ⊥) → o ≡ None
nowhere None never = refl
nowhere (Some h) never = absurd (never h refl)

kept_there : (place : Placing) (shards : List ShardView) (hs : Histories) (id : List ℕ) (o : Option ShardView) → slice_get shards (place id (length shards)) ≡ o → ShardsStandFor place shards hs
    → StandsAt id (option_and_then (λ s. get s.documents id) o) (get hs id)
kept_there place shards hs id (Some s) at st =
    subst (λ o. StandsAt id (get s.documents id) o) (history_on place (length shards) (place id (length shards)) hs id refl) (st.each (place id (length shards)) s at id)
kept_there place shards hs id None at st =
    none_there id None (get hs id) refl (nowhere (get hs id) (λ h s. past (slice_get shards (place id (length shards))) at (st.placed id h s)))
  where
    past : (o : Option ShardView) → slice_get shards (place id (length shards)) ≡ None → place id (length shards) < length shards → ⊥
    past o none l = no_one shards (place id (length shards)) none l
      where
        no_one : (xs : List ShardView) (i : ℕ) → slice_get xs i ≡ None → i < length xs → ⊥
        no_one [] i e l = omega arith
        no_one (x ∷ xs) zero e l = cc
        no_one (x ∷ xs) (suc i) e l = no_one xs i e (omega arith)

-- the document of an id, on the shard where the id is placed, stands for its history
pub stands_at : (place : Placing) (shards : List ShardView) (hs : Histories) (id : List ℕ) → ShardsStandFor place shards hs → StandsAt id (kept_at place shards id) (get hs id)
stands_at place shards hs id st = kept_there place shards hs id (slice_get shards (place id (length shards))) refl st

-- ---- an edit

put_here : (place : Placing) (n i : ℕ) (hs : Histories) (e : Edit) (r : Result Revision EditRefusal) → place (id_in e) n ≡ i → outcome_in hs e ≡ r
    → histories_on place n i (after_edit hs e) ≡ after_edit (histories_on place n i hs) e
put_here place n i hs e (Ok r) at is =
    let id = id_in e in
    let there = histories_on place n i hs in
    let h = edited (history_at hs id) e in
    ap (λ m. histories_on place n i m) (after_done hs e r is)
    ∙ kept-insert hs (λ id. eqb (place id n) i) id h
    ∙ ap (λ b. cond b (insert there id h) there) (eq-eqb (place id n) i at)
    ∙ ap (λ g. insert there id (edited g e)) (sym (same_history place n i hs id at))
    ∙ sym (after_done there e r (same_outcome place n i hs e at ∙ is))
put_here place n i hs e (Err x) at is =
    ap (λ m. histories_on place n i m) (after_refused hs e x is) ∙ sym (after_refused (histories_on place n i hs) e x (same_outcome place n i hs e at ∙ is))

pub not_there : (a b : ℕ) → (a ≡ b → ⊥) → eqb a b ≡ false
not_there a b h = decided (eqb a b) (λ e. h (eqb-true a b e))
  where
    decided : (b : Bool) → (b ≡ true → ⊥) → b ≡ false
    decided true h = absurd (h refl)
    decided false h = refl

put_elsewhere : (place : Placing) (n i : ℕ) (hs : Histories) (e : Edit) (r : Result Revision EditRefusal) → (place (id_in e) n ≡ i → ⊥) → outcome_in hs e ≡ r
    → histories_on place n i (after_edit hs e) ≡ histories_on place n i hs
put_elsewhere place n i hs e (Ok r) away is =
    let id = id_in e in
    let h = edited (history_at hs id) e in
    ap (λ m. histories_on place n i m) (after_done hs e r is)
    ∙ kept-insert hs (λ id. eqb (place id n) i) id h
    ∙ ap (λ b. cond b (insert (histories_on place n i hs) id h) (histories_on place n i hs)) (not_there (place id n) i away)
put_elsewhere place n i hs e (Err x) away is = ap (λ m. histories_on place n i m) (after_refused hs e x is)

still_placed : (place : Placing) (n : ℕ) (hs : Histories) (e : Edit) (r : Result Revision EditRefusal) (q : List ℕ) (h : Paths) → outcome_in hs e ≡ r → place (id_in e) n < n
    → ((id : List ℕ) (h : Paths) → get hs id ≡ Some h → place id n < n) → get (after_edit hs e) q ≡ Some h → place q n < n
still_placed place n hs e (Ok r) q h is below before s =
    let id = id_in e in
    either (eq_by_cmp bytes_cmp q id) refl (sym (get-insert nat_list_cmp_total hs id (edited (history_at hs id) e) q) ∙ ap (λ m. get m q) (sym (after_done hs e r is)) ∙ s)
  where
    either : (b : Bool) → eq_by_cmp bytes_cmp q (id_in e) ≡ b → cond b (Some (edited (history_at hs (id_in e)) e)) (get hs q) ≡ Some h → place q n < n
    either true at t = let same = same_id q (id_in e) at in subst (λ x. place x n < n) (sym same) below
    either false at t = before q h t
still_placed place n hs e (Err x) q h is below before s = before q h (ap (λ m. get m q) (sym (after_refused hs e x is)) ∙ s)

-- if one value is replaced by the one after an edit that belongs there, all values stand for the histories after the edit
pub edit_dealt : {X : Type 0} (Stands : X → Histories → Type 0) (place : Placing) (xs : List X) (hs : Histories) (e : Edit) (i : ℕ) (after : X) → AreDealt Stands place xs hs
    → place (id_in e) (length xs) ≡ i → i < length xs → Stands after (after_edit (histories_on place (length xs) i hs) e)
    → AreDealt Stands place (set xs i after) (after_edit hs e)
edit_dealt {X} Stands place xs hs e i after st at below stands =
    let long : length (set xs i after) ≡ length xs = length-set xs i after in
    record {
      placed = λ q h s. subst (λ m. place q m < m) (sym long) (still_placed place (length xs) hs e (outcome_in hs e) q h refl (subst (λ k. k < length xs) (sym at) below) st.placed s);
      each = λ j x is. subst (λ m. Stands x (histories_on place m j (after_edit hs e))) (sym long) (one j x (eqb j i) refl is);
    }
  where
    one : (j : ℕ) (x : X) (b : Bool) → eqb j i ≡ b → slice_get (set xs i after) j ≡ Some x → Stands x (histories_on place (length xs) j (after_edit hs e))
    one j x true is s =
        let same : j ≡ i = eqb-true j i is in
        let here : after ≡ x = same_some after x (sym (slice_get-set xs i after below) ∙ ap (slice_get (set xs i after)) (sym same) ∙ s) in
        subst (λ k. Stands x (histories_on place (length xs) k (after_edit hs e))) (sym same)
        (subst (λ m. Stands x m) (sym (put_here place (length xs) i hs e (outcome_in hs e) at refl))
        (subst (λ y. Stands y (after_edit (histories_on place (length xs) i hs) e)) here stands))
    one j x false is s =
        let apart : j ≡ i → ⊥ = λ a. subst T (sym (eq-eqb j i a) ∙ is) tt in
        subst (λ m. Stands x m) (sym (put_elsewhere place (length xs) j hs e (outcome_in hs e) (λ a. apart (sym a ∙ at)) refl))
        (st.each j x (sym (slice_get-set_other xs i j after apart) ∙ s))

-- the same, if the new value stands for whatever the old one stood for, after the edit
pub applied_there : {X : Type 0} (Stands : X → Histories → Type 0) (place : Placing) (xs : List X) (hs : Histories) (e : Edit) (i : ℕ) (before after : X) (o : Result Revision EditRefusal)
    → place (id_in e) (length xs) ≡ i → slice_get xs i ≡ Some before
    → ((gs : Histories) → Stands before gs → o ≡ outcome_in gs e)
    → ((gs : Histories) → Stands before gs → Stands after (after_edit gs e))
    → AreDealt Stands place xs hs → AreDealt Stands place (set xs i after) (after_edit hs e) × (o ≡ outcome_in hs e)
applied_there Stands place xs hs e i before after o at is told did st =
    let gs = histories_on place (length xs) i hs in
    let stood = st.each i before is in (
      edit_dealt Stands place xs hs e i after st at (slice_get_within xs i before is) (did gs stood),
      told gs stood ∙ same_outcome place (length xs) i hs e at,
    )

-- ---- all values replaced

-- if each value of another list stands for what the value with its number stood for, the lists stand for the same histories
pub all_dealt : {X Y : Type 0} (Stands : X → Histories → Type 0) (Stand : Y → Histories → Type 0) (place : Placing) (xs : List X) (ys : List Y) (hs : Histories) → length ys ≡ length xs
    → ((i : ℕ) (y : Y) → slice_get ys i ≡ Some y → (x : X) × (slice_get xs i ≡ Some x) × ((gs : Histories) → Stands x gs → Stand y gs))
    → AreDealt Stands place xs hs → AreDealt Stand place ys hs
all_dealt Stands Stand place xs ys hs long each st = record {
  placed = λ id h s. subst (λ n. place id n < n) (sym long) (st.placed id h s);
  each = λ i y is. let from = each i y is in
      subst (λ n. Stand y (histories_on place n i hs)) (sym long) (from.2 (histories_on place (length xs) i hs) (st.each i from.0 from.1));
}

-- ---- no document on any shard

abbrev no_histories : Histories
no_histories = empty

never_there : (o : Option Paths) (h : Paths) → o ≡ None → o ≡ Some h → ⊥
never_there None h e f = absurd cc
never_there (Some g) h e f = absurd cc

cond_none : (b : Bool) → ◌≡◌ {A = Option Paths} (cond b None None) None
cond_none true = refl
cond_none false = refl

nothing_on : (place : Placing) (n i : ℕ) → histories_on place n i empty ≡ empty
nothing_on place n i = same_map nat_list_cmp_total bytes_exact (histories_on place n i empty) empty (λ q.
    get-kept empty (λ id. eqb (place id n) i) q ∙ ap (λ o. cond (eqb (place q n) i) o None) (get-empty bytes_cmp q) ∙ cond_none (eqb (place q n) i) ∙ sym (get-empty bytes_cmp q))

pub no_documents : (place : Placing) (shards : List ShardView) → ((i : ℕ) (s : ShardView) → slice_get shards i ≡ Some s → s.documents ≡ empty) → ShardsStandFor place shards empty
no_documents place shards none = record {
  placed = λ id h s. absurd (never_there (get no_histories id) h (get-empty bytes_cmp id) s);
  each = λ i s is. subst (λ m. StandFor m (histories_on place (length shards) i empty)) (sym (none i s is)) (subst (λ m. StandFor empty m) (sym (nothing_on place (length shards) i)) stand_empty);
}
