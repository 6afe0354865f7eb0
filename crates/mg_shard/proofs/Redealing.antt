-- Documents that are dealt anew: the list of lent documents, their places, the documents of one place, and what the new shards stand for.
use lib.Dec.{eqb}
use Rattle.std.proofs.Common.{◌≡◌, ℕ, zero, suc, ◌+◌, ◌<◌, ◌≤◌, Bool, true, false, List, [], ◌∷◌, ◌++◌, Less, Option, Some, None, option_and_then, option_map, length, get_or, map, slice_get, take, cond, is_eq, refl, ap, sym, ◌∙◌, subst, add-one, arith, true≢false}
use Rattle.std.proofs.lemmas.Bool.{eq-eqb, eqb-true}
use Rattle.std.proofs.lemmas.Cmp.{nat_list_cmp_total}
use Rattle.std.proofs.lemmas.List.{length-map, take_all}
use Rattle.std.proofs.lemmas.Option.{slice_get-get_or, slice_get-map}
use Rattle.std.specs.Arc.{arc_value}
use Rattle.std.specs.declared.alloc.Global.{Global}
use Rattle.std.specs.declared.sync.Arc.{Arc}
use Rattle.std.specs.FinMap.{find, get, get-empty, get-from_entries, get-insert}
use Rattle.std.specs.List.{All, AllByRecursion, slice_index_or}
use Rattle.std.specs.Option.{option_or}
use Rattle.std.specs.Ordering.{eq_by_cmp}
use Rattle.mg_index.specs.Definition.{IndexDefinition}
use Rattle.mg_pages.specs.Identified.{id_order}
use Rattle.mg_pages.specs.Order.{Ascends, inserted}
use Rattle.mg_revtree.specs.History.{Paths}
use Rattle.mg_shard.specs.Dealt.{Placing, ShardsStandFor, histories_on}
use Rattle.mg_shard.specs.Documents.{KeptDocument, KeptDocuments, StandsAt, kept_entry, id_bytes, kept_of, kept_documents}
use Rattle.mg_shard.specs.Histories.{Histories}
use Rattle.mg_shard.specs.Redealt.{AreMade, ArePlaces, AreRedealt, IsMade, IsPlace, KeepsThose, documents_in, kept_in, last_kept, first_definitions}
use Rattle.mg_shard.specs.Shard.{ShardView, shards_view}
use Rattle.mg_shard.specs.declared.document.Document.{Document}
use Rattle.mg_shard.proofs.Dealing.{get-kept, not_there, same_some, stands_at}
use Rattle.mg_shard.proofs.Shown.{bytes_cmp, kept_documents-inserted}
use Rattle.mg_shard.proofs.Standing.{same_id}

-- ---- what several shards keep

none_after : {X : Type 0} (o : Option X) → option_or o None ≡ o
none_after None = refl
none_after (Some x) = refl

one_after_another : {X : Type 0} (a b c : Option X) → option_or (option_or a b) c ≡ option_or a (option_or b c)
one_after_another None b c = refl
one_after_another (Some x) b c = refl

-- a document of the last shard takes precedence over those of the shards before it
pub kept-more : (from : List KeptDocuments) (ds : KeptDocuments) (id : List ℕ) → kept_in (from ++ ds ∷ []) id ≡ option_or (get ds id) (kept_in from id)
kept-more [] ds id = sym (none_after (get ds id))
kept-more (x ∷ from) ds id = ap (λ o. option_or o (get x id)) (kept-more from ds id) ∙ one_after_another (get ds id) (kept_in from id) (get x id)

-- ---- documents that are lent

first_of_both : (e : Bool) (v : KeptDocument) (o p : Option KeptDocument) → option_or (cond e (Some v) o) p ≡ cond e (Some v) (option_or o p)
first_of_both true v o p = refl
first_of_both false v o p = refl

-- the last document of an id after one more is added to the list
pub last_more : (ds : List Document) (d : Document) (q : List ℕ) → last_kept (ds ++ d ∷ []) q ≡ cond (eq_by_cmp bytes_cmp q (id_bytes d)) (Some (kept_of d)) (last_kept ds q)
last_more [] d q = refl
last_more (x ∷ ds) d q =
    let other : Option KeptDocument = cond (eq_by_cmp bytes_cmp q (id_bytes x)) (Some (kept_of x)) None in
    ap (λ o. option_or o other) (last_more ds d q) ∙ first_of_both (eq_by_cmp bytes_cmp q (id_bytes d)) (kept_of d) (last_kept ds q) other

absent_above : (d : Document) (ds : List Document) → AllByRecursion (λ y. id_order id_bytes d y ≡ Less) ds → find bytes_cmp (id_bytes d) (map kept_entry ds) ≡ None
absent_above d [] h = refl
absent_above d (x ∷ ds) h = ap (λ r. cond (is_eq r) (Some (kept_of x)) (find bytes_cmp (id_bytes d) (map kept_entry ds))) h.0 ∙ absent_above d ds h.1

left_step : (e : Bool) (v : KeptDocument) (o p : Option KeptDocument) → (e ≡ true → o ≡ None) → option_or o (cond e (Some v) p) ≡ option_or (cond e (Some v) o) p
left_step true v o p none = ap (λ x. option_or x (Some v)) (none refl)
left_step false v o p none = refl

shown_get : (ds : List Document) (q : List ℕ) → get (kept_documents ds) q ≡ find bytes_cmp q (map kept_entry ds)
shown_get ds q = get-from_entries nat_list_cmp_total (map kept_entry ds) q

-- a document moves from those that are left to those that are lent; each id has the same document as before
pub left_less : (d : Document) (rest all : List Document) (q : List ℕ) → Ascends (id_order id_bytes) (d ∷ rest)
    → option_or (get (kept_documents rest) q) (last_kept (all ++ d ∷ []) q) ≡ option_or (get (kept_documents (d ∷ rest)) q) (last_kept all q)
left_less d rest all q h =
    let e = eq_by_cmp bytes_cmp q (id_bytes d) in
    let o = find bytes_cmp q (map kept_entry rest) in
    ap (λ x. option_or x (last_kept (all ++ d ∷ []) q)) (shown_get rest q)
    ∙ ap (option_or o) (last_more all d q)
    ∙ left_step e (kept_of d) o (last_kept all q) (λ tie. ap (λ x. find bytes_cmp x (map kept_entry rest)) (same_id q (id_bytes d) tie) ∙ absent_above d rest h.0)
    ∙ ap (λ x. option_or x (last_kept all q)) (sym (shown_get (d ∷ rest) q))

-- if no document is left, all are lent
pub none_left : (rest : List Document) (o : Option KeptDocument) (q : List ℕ) → rest ≡ [] → option_or (get (kept_documents rest) q) o ≡ o
none_left rest o q none = ap (λ (ds : List Document). option_or (get (kept_documents ds) q) o) none ∙ ap (λ k. option_or k o) (get-empty bytes_cmp q)

-- after the documents of one more shard are added, each id has its document on these shards
pub one_shard : (from : List KeptDocuments) (ds : KeptDocuments) (q : List ℕ) (before after : Option KeptDocument)
    → before ≡ kept_in from q → after ≡ option_or (get ds q) before → after ≡ kept_in (from ++ ds ∷ []) q
one_shard from ds q before after was is = is ∙ ap (option_or (get ds q)) was ∙ sym (kept-more from ds q)

-- ---- places

-- there are as many places as documents
pub as_many : (place : Placing) (n : ℕ) (ds : List Document) (places : List ℕ) → ArePlaces place n ds places → length places ≡ length ds
as_many place n [] [] h = refl
as_many place n [] (p ∷ places) h = absurd h
as_many place n (d ∷ ds) [] h = absurd h
as_many place n (d ∷ ds) (p ∷ places) h = ap suc (as_many place n ds places h.1)

-- the k-th place is that of the k-th document
place_at : (place : Placing) (n : ℕ) (ds : List Document) (places : List ℕ) (k : ℕ) (d : Document) (p : ℕ) → k < length ds → d ≡ get_or ds k d → p ≡ get_or places k p
    → ArePlaces place n ds places → p ≡ place (id_bytes d) n
place_at place n [] places k d p l is at h = absurd (omega (arith, l))
place_at place n (x ∷ ds) [] k d p l is at h = absurd h
place_at place n (x ∷ ds) (y ∷ places) zero d p l is at h = at ∙ h.0.0 ∙ ap (λ (z : Document). place (id_bytes z) n) (sym is)
place_at place n (x ∷ ds) (y ∷ places) (suc k) d p l is at h = place_at place n ds places k d p (omega (arith, l)) is at h.1

-- one more document with its place
pub place_more : (place : Placing) (n : ℕ) (ds : List Document) (places : List ℕ) (d : Document) (p : ℕ) → ArePlaces place n ds places → IsPlace place n d p
    → ArePlaces place n (ds ++ d ∷ []) (places ++ p ∷ [])
place_more place n [] [] d p h is = (is, tt)
place_more place n [] (y ∷ places) d p h is = absurd h
place_more place n (x ∷ ds) [] d p h is = absurd h
place_more place n (x ∷ ds) (y ∷ places) d p h is = (h.0, place_more place n ds places d p h.1 is)

-- the first k + 1 elements are the first k and the element k
pub take_one : {A : Type 0} (xs : List A) (k : ℕ) (x : A) → k < length xs → x ≡ get_or xs k x → take (suc k) xs ≡ take k xs ++ x ∷ []
take_one [] k x l e = absurd (omega (arith, l))
take_one (y ∷ xs) zero x l e = ap (λ z. z ∷ []) (sym e)
take_one (y ∷ xs) (suc k) x l e = ap (λ zs. y ∷ zs) (take_one xs k x (omega (arith, l)) e)

some_kept : (d : KeptDocument) → None ≡ Some d → ⊥
some_kept d e = cc

-- the id of each document is placed on one of the n shards
pub kept_placed : (place : Placing) (n : ℕ) (ds : List Document) (places : List ℕ) (q : List ℕ) (d : KeptDocument) → ArePlaces place n ds places → last_kept ds q ≡ Some d → place q n < n
kept_placed place n [] places q d h e = absurd (some_kept d e)
kept_placed place n (x ∷ ds) [] q d h e = absurd h
kept_placed place n (x ∷ ds) (p ∷ places) q d h e =
    go (λ y is. kept_placed place n ds places q y h.1 is) (last_kept ds q) refl (eq_by_cmp bytes_cmp q (id_bytes x)) refl
  where
    go : ((y : KeptDocument) → last_kept ds q ≡ Some y → place q n < n) → (o : Option KeptDocument) → last_kept ds q ≡ o → (b : Bool) → eq_by_cmp bytes_cmp q (id_bytes x) ≡ b → place q n < n
    go more (Some y) is b tie = more y is
    go more None is true tie = subst (λ i. i < n) (h.0.0 ∙ ap (λ z. place z n) (sym (same_id q (id_bytes x) tie))) h.0.1
    go more None is false tie =
        absurd (some_kept d (sym (ap (λ o. option_or o (cond false (Some (kept_of x)) None)) is)
        ∙ ap (λ b. option_or (last_kept ds q) (cond b (Some (kept_of x)) None)) (sym tie) ∙ e))

-- ---- the documents of one place

here_step : (e p : Bool) (v : KeptDocument) (o : Option KeptDocument) → (e ≡ true → p ≡ true) → cond e (Some v) (cond p o None) ≡ cond p (cond e (Some v) o) None
here_step true p v o is = sym (ap (λ b. cond b (Some v) None) (is refl))
here_step false p v o is = refl

other_step : (e p : Bool) (v : KeptDocument) (o : Option KeptDocument) → (e ≡ true → p ≡ false) → cond p o None ≡ cond p (cond e (Some v) o) None
other_step true p v o is = ap (λ b. cond b o None) (is refl) ∙ sym (ap (λ b. cond b (Some v) None) (is refl))
other_step false p v o is = refl

-- `KeepsThose` for the first k documents
abbrev pub KeepsSoFar : List Document → List ℕ → ℕ → ℕ → KeptDocuments → Type 0
KeepsSoFar ds places i k to =
    (place : Placing) (n : ℕ) → ArePlaces place n ds places → (id : List ℕ) → get to id ≡ cond (eqb (place id n) i) (last_kept (take k ds) id) None

cond_none : (b : Bool) → ◌≡◌ {A = Option KeptDocument} (cond b None None) None
cond_none true = refl
cond_none false = refl

pub none_kept : (ds : List Document) (places : List ℕ) (i : ℕ) (there : List Document) → there ≡ [] → KeepsSoFar ds places i 0 (kept_documents there)
none_kept ds places i there none place n h id = ap (λ (xs : List Document). get (kept_documents xs) id) none ∙ get-empty bytes_cmp id ∙ sym (cond_none (eqb (place id n) i))

module _ (ds : List Document) (places : List ℕ) (i k : ℕ) (d : Document) (p : ℕ) (l : k < length ds) (is : d ≡ get_or ds k d) (at : p ≡ get_or places k p) where
  taken : (q : List ℕ) → last_kept (take (suc k) ds) q ≡ cond (eq_by_cmp bytes_cmp q (id_bytes d)) (Some (kept_of d)) (last_kept (take k ds) q)
  taken q = ap (λ (xs : List Document). last_kept xs q) (take_one ds k d l is) ∙ last_more (take k ds) d q

  -- the next document is placed there
  pub keeps_more : (there new : List Document) → p ≡ i → new ≡ inserted (id_order id_bytes) d there → KeepsSoFar ds places i k (kept_documents there) → KeepsSoFar ds places i (suc k) (kept_documents new)
  keeps_more there new here put h place n are q =
      let e = eq_by_cmp bytes_cmp q (id_bytes d) in
      let b = eqb (place q n) i in
      ap (λ (xs : List Document). get (kept_documents xs) q) put ∙ ap (λ m. get m q) (kept_documents-inserted d there)
      ∙ get-insert nat_list_cmp_total (kept_documents there) (id_bytes d) (kept_of d) q
      ∙ ap (cond e (Some (kept_of d))) (h place n are q)
      ∙ here_step e b (kept_of d) (last_kept (take k ds) q)
      (λ tie. eq-eqb (place q n) i (ap (λ z. place z n) (same_id q (id_bytes d) tie) ∙ sym (place_at place n ds places k d p l is at are) ∙ here))
      ∙ ap (λ o. cond b o None) (sym (taken q))

  -- the next document is placed elsewhere
  pub keeps_on : (there : List Document) → (p ≡ i → ⊥) → KeepsSoFar ds places i k (kept_documents there) → KeepsSoFar ds places i (suc k) (kept_documents there)
  keeps_on there apart h place n are q =
      let e = eq_by_cmp bytes_cmp q (id_bytes d) in
      let b = eqb (place q n) i in
      h place n are q
      ∙ other_step e b (kept_of d) (last_kept (take k ds) q)
      (λ tie. not_there (place q n) i (λ a. apart (place_at place n ds places k d p l is at are ∙ ap (λ z. place z n) (sym (same_id q (id_bytes d) tie)) ∙ a)))
      ∙ ap (λ o. cond b o None) (sym (taken q))

-- a step of the loop of `documents_at`
pub one_read : (ds : List Document) (places : List ℕ) (i k : ℕ) (d : Document) (p : ℕ) → k < length ds → d ≡ get_or ds k d → p ≡ get_or places k p
    → (there new : List Document) → (eqb p i ≡ true → new ≡ inserted (id_order id_bytes) d there) → (eqb p i ≡ false → new ≡ there)
    → KeepsSoFar ds places i k (kept_documents there) → KeepsSoFar ds places i (k + 1) (kept_documents new)
one_read ds places i k d p l is at there new here elsewhere h = subst (λ m. KeepsSoFar ds places i m (kept_documents new)) (sym (add-one k)) (go (eqb p i) refl)
  where
    go : (b : Bool) → eqb p i ≡ b → KeepsSoFar ds places i (suc k) (kept_documents new)
    go true e = keeps_more ds places i k d p l is at there new (eqb-true p i e) (here e) h
    go false e = subst (λ (xs : List Document). KeepsSoFar ds places i (suc k) (kept_documents xs)) (sym (elsewhere e))
        (keeps_on ds places i k d p l is at there (λ a. true≢false (sym (eq-eqb p i a) ∙ e)) h)

-- the end of that loop
pub all_read : (ds : List Document) (places : List ℕ) (i k : ℕ) (to : KeptDocuments) → length ds ≤ k → KeepsSoFar ds places i k to → KeepsThose ds places i to
all_read ds places i k to l h place n are id =
    h place n are id ∙ ap (λ (xs : List Document). cond (eqb (place id n) i) (last_kept xs id) None) (take_all k ds l)

-- ---- all shards

get_mapped : {X Y : Type 0} (f : X → Y) (xs : List X) (i : ℕ) (y : Y) → slice_get (map f xs) i ≡ Some y → (x : X) × (slice_get xs i ≡ Some x) × (f x ≡ y)
get_mapped f [] i y e = absurd cc
get_mapped f (x ∷ xs) zero y e = (x, refl, same_some (f x) y e)
get_mapped f (x ∷ xs) (suc i) y e = get_mapped f xs i y e

-- if all new shards are made, the documents are dealt to them
pub all_dealt : (place : Placing) (n : ℕ) (ds : List Document) (places : List ℕ) (definitions : List IndexDefinition) (from : List KeptDocuments) (new : List ShardView)
    → ((q : List ℕ) → last_kept ds q ≡ kept_in from q) → ArePlaces place n ds places → length new ≡ n → AreMade ds places definitions new → AreRedealt place from (documents_in new)
all_dealt place n ds places definitions from new same are long made =
    let number : length (documents_in new) ≡ n = length-map new (λ s. s.documents) ∙ long in
    record {
      placed = λ id d e. subst (λ m. place id m < m) (sym number) (kept_placed place n ds places id d are (same id ∙ e));
      each = λ i m is id.
          let there = get_mapped (λ (s : ShardView). s.documents) new i m is in
          ap (λ x. get x id) (sym there.2) ∙ (made i there.0 there.1).keeps place n are id
          ∙ ap (λ o. cond (eqb (place id n) i) o None) (same id) ∙ ap (λ l. cond (eqb (place id l) i) (kept_in from id) None) (sym number);
    }

-- one more shard is made
pub one_made : (ds : List Document) (places : List ℕ) (definitions : List IndexDefinition) (shards : List ShardView) (i : ℕ) (s : ShardView) → length shards ≡ i
    → AreMade ds places definitions shards → IsMade ds places definitions i s → AreMade ds places definitions (shards ++ s ∷ [])
one_made ds places definitions shards i s long all one =
    snoc_at (IsMade ds places definitions) shards s all (subst (λ k. IsMade ds places definitions k s) (sym long) one)
  where
    snoc_at : {A : Type 0} (P : ℕ → A → Type 0) (xs : List A) (a : A) → ((i : ℕ) (x : A) → slice_get xs i ≡ Some x → P i x) → P (length xs) a
        → (i : ℕ) (x : A) → slice_get (xs ++ a ∷ []) i ≡ Some x → P i x
    snoc_at P [] a all here zero x e = subst (P zero) (same_some a x e) here
    snoc_at P [] a all here (suc i) x e = absurd cc
    snoc_at P (y ∷ ys) a all here zero x e = all zero x e
    snoc_at P (y ∷ ys) a all here (suc i) x e = snoc_at (λ k z. P (suc k) z) ys a (λ k z f. all (suc k) z f) here i x e

-- all shards that are made have these definitions
pub made_definitions : (ds : List Document) (places : List ℕ) (definitions : List IndexDefinition) (shards : List ShardView) → AreMade ds places definitions shards
    → All (λ s. s.definitions ≡ definitions) shards
made_definitions ds places definitions shards made k d l = (made k (slice_index_or shards k d) (slice_get-get_or shards k d l)).indexes

-- ---- what the shards stand for

none_stands : (id : List ℕ) (k : Option KeptDocument) (o : Option Paths) → o ≡ None → StandsAt id k o → k ≡ None
none_stands id None o e st = refl
none_stands id (Some d) None e st = absurd st
none_stands id (Some d) (Some h) e st = absurd cc

some_stands : (id : List ℕ) (k : Option KeptDocument) (o : Option Paths) (h : Paths) → o ≡ Some h → StandsAt id k o → (d : KeptDocument) × (k ≡ Some d)
some_stands id None None h e st = absurd cc
some_stands id None (Some g) h e st = absurd st
some_stands id (Some d) o h e st = (d, refl)

-- a document is kept where its id is placed, and on no other shard
kept_nowhere_else : (place : Placing) (shards : List ShardView) (hs : Histories) (id : List ℕ) → ShardsStandFor place shards hs
    → (j : ℕ) (s : ShardView) → slice_get shards j ≡ Some s → (j ≡ place id (length shards) → ⊥) → get s.documents id ≡ None
kept_nowhere_else place shards hs id st j s is apart =
    let n = length shards in
    none_stands id (get s.documents id) (get (histories_on place n j hs) id)
    (get-kept hs (λ id. eqb (place id n) j) id ∙ ap (λ b. cond b (get hs id) None) (not_there (place id n) j (λ a. apart (sym a))))
    (st.each j s is id)

kept_once : (shards : List ShardView) (p : ℕ) (id : List ℕ) → ((j : ℕ) (s : ShardView) → slice_get shards j ≡ Some s → (j ≡ p → ⊥) → get s.documents id ≡ None)
    → kept_in (documents_in shards) id ≡ option_and_then (λ s. get s.documents id) (slice_get shards p)
kept_once [] p id h = refl
kept_once (s ∷ shards) zero id h = ap (λ o. option_or o (get s.documents id)) (kept_on_none shards (λ j x e. h (suc j) x e (λ a. absurd (omega (arith, a)))))
  where
    kept_on_none : (xs : List ShardView) → ((j : ℕ) (x : ShardView) → slice_get xs j ≡ Some x → get x.documents id ≡ None) → kept_in (documents_in xs) id ≡ None
    kept_on_none [] h = refl
    kept_on_none (x ∷ xs) h = ap (λ o. option_or o (get x.documents id)) (kept_on_none xs (λ j y e. h (suc j) y e)) ∙ h 0 x refl
kept_once (s ∷ shards) (suc p) id h =
    ap (option_or (kept_in (documents_in shards) id)) (h 0 s refl (λ a. absurd (omega (arith, a))))
    ∙ none_after (kept_in (documents_in shards) id)
    ∙ kept_once shards p id (λ j x e apart. h (suc j) x e (λ a. apart (omega (arith, a))))

-- the document that the shards keep of an id stands for its history
kept_stands : (place : Placing) (shards : List ShardView) (hs : Histories) (id : List ℕ) → ShardsStandFor place shards hs → StandsAt id (kept_in (documents_in shards) id) (get hs id)
kept_stands place shards hs id st =
    subst (λ (k : Option KeptDocument). StandsAt id k (get hs id))
    (sym (kept_once shards (place id (length shards)) id (kept_nowhere_else place shards hs id st))) (stands_at place shards hs id st)

either_stands : (b : Bool) (id : List ℕ) (k : Option KeptDocument) (o : Option Paths) → StandsAt id k o → StandsAt id (cond b k None) (cond b o None)
either_stands true id k o st = st
either_stands false id k o st = tt

-- shards to which the documents of others are dealt stand for what those stand for, whatever placement dealt them before
pub redealt_stand : (before place : Placing) (shards new : List ShardView) (hs : Histories) → AreRedealt place (documents_in shards) (documents_in new)
    → ShardsStandFor before shards hs → ShardsStandFor place new hs
redealt_stand before place shards new hs r st =
    let n = length new in
    let long : length (documents_in new) ≡ n = length-map new (λ s. s.documents) in
    record {
      placed = λ id h e.
          let had = some_stands id (kept_in (documents_in shards) id) (get hs id) h e (kept_stands before shards hs id st) in
          subst (λ m. place id m < m) long (r.placed id had.0 had.1);
      each = λ i s is id.
          let b = eqb (place id n) i in
          let at : slice_get (documents_in new) i ≡ Some s.documents = slice_get-map (λ (s : ShardView). s.documents) new i ∙ ap (option_map (λ (s : ShardView). s.documents)) is in
          let kept : get s.documents id ≡ cond b (kept_in (documents_in shards) id) None =
          r.each i s.documents at id ∙ ap (λ m. cond (eqb (place id m) i) (kept_in (documents_in shards) id) None) long in
          subst (λ (k : Option KeptDocument). StandsAt id k (get (histories_on place n i hs) id)) (sym kept)
          (subst (λ (o : Option Paths). StandsAt id (cond b (kept_in (documents_in shards) id) None) o) (sym (get-kept hs (λ id. eqb (place id n) i) id))
          (either_stands b id (kept_in (documents_in shards) id) (get hs id) (kept_stands before shards hs id st)));
    }

-- ---- lists

pub each_of_all : {X : Type 0} (P : X → Type 0) (xs : List X) → AllByRecursion P xs → (k : ℕ) (d : X) → k < length xs → P (slice_index_or xs k d)
each_of_all P [] h k d l = absurd (omega (arith, l))
each_of_all P (x ∷ xs) h zero d l = h.0
each_of_all P (x ∷ xs) h (suc k) d l = each_of_all P xs h.1 k d (omega (arith, l))

-- the documents of the first i + 1 shards are those of the first i and of the shard i
pub documents_more : (shards : List (Arc ShardView Global)) (i : ℕ) (s : Arc ShardView Global) → i < length shards → s ≡ get_or shards i s
    → documents_in (shards_view (take (suc i) shards)) ≡ documents_in (shards_view (take i shards)) ++ (arc_value s).documents ∷ []
documents_more [] i s l e = absurd (omega arith)
documents_more (x ∷ shards) zero s l e = ap (λ (a : Arc ShardView Global). (arc_value a).documents ∷ []) (sym e)
documents_more (x ∷ shards) (suc i) s l e = ap (λ ms. (arc_value x).documents ∷ ms) (documents_more shards i s (omega arith) e)

-- ---- definitions

-- if all shards have the same definitions, the first shard has them
pub same_definitions : (shards : List ShardView) (ds : List IndexDefinition) → 0 < length shards → All (λ s. s.definitions ≡ ds) shards → first_definitions shards ≡ ds
same_definitions [] ds l all = absurd (omega (arith, l))
same_definitions (s ∷ shards) ds l all = all 0 s (omega arith)
