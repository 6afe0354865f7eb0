-- Documents that stand for histories: look-ups, insertions, and the served documents.
use lib.Dec.{T}
use Rattle.std.proofs.Common.{◌≡◌, ℕ, Bool, true, false, ◌&&◌, List, [], ◌∷◌, Ordering, Less, Equal, Greater, Option, Some, None, option_and_then, option_map, unwrap_or, map, cond, arith, refl, ap, sym, ◌∙◌, subst, is_eq, is_lt, is_none}
use Rattle.std.proofs.lemmas.Cmp.{nat_list_cmp_total}
use Rattle.std.specs.List.{filter_map}
use Rattle.std.specs.Ordering.{eq_by_cmp}
use Rattle.std.specs.FinMap.{FinMap, empty, entries, entries-from_sorted, entries_sorted, find, from_sorted, get, get-empty, get-entries, get-from_sorted, is_sorted, same_map}
use Rattle.std.specs.FinMap.Entries.{below_all}
use Rattle.mg_value.specs.Value.{Value}
use Rattle.mg_revtree.specs.History.{Paths, Leaf, winner_of}
use Rattle.mg_revtree.proofs.Winners.{front_wins, none_wins}
use Rattle.mg_revtree.specs.Tree.{AreLeaves, StandsFor, Tree}
use Rattle.mg_doc.specs.Served.{served_of, shown_leaf}
use Rattle.mg_shard.specs.Documents.{KeptDocument, KeptDocuments, StandFor, StandsAt, deleted_entry, deleted_of, doc_entry, docs_of, tree_at}
use Rattle.mg_shard.specs.Histories.{Histories, ServedDocument, deleted_documents, deleted_id, history_at, served_documents, served_entry}
use Rattle.mg_shard.proofs.Shown.{bytes_cmp, bytes_exact}

-- ---- look-ups

there : (id : List ℕ) (t : Tree) (k : Option KeptDocument) (o : Option Paths) → option_map (λ d. d.0) k ≡ Some t → StandsAt id k o → StandsFor t (unwrap_or o [])
there id t None o e st = absurd cc
there id t (Some c) None e st = absurd st
there id t (Some c) (Some h) e st = let same : c.0 ≡ t = cc in subst (λ (x : Tree). StandsFor x h) same st.0

absent : (id : List ℕ) (k : Option KeptDocument) (o : Option Paths) → option_map (λ d. d.0) k ≡ None → StandsAt id k o → unwrap_or o [] ≡ []
absent id None None e st = refl
absent id None (Some h) e st = absurd st
absent id (Some c) o e st = absurd cc

-- the tree of a document stands for the history of its id
pub tree_there : (ds : KeptDocuments) (hs : Histories) (id : List ℕ) (t : Tree) → tree_at ds id ≡ Some t → StandsAt id (get ds id) (get hs id) → StandsFor t (history_at hs id)
tree_there ds hs id t e st = there id t (get ds id) (get hs id) e st

-- an id without a document has no history
pub tree_absent : (ds : KeptDocuments) (hs : Histories) (id : List ℕ) → tree_at ds id ≡ None → StandsAt id (get ds id) (get hs id) → history_at hs id ≡ []
tree_absent ds hs id e st = absent id (get ds id) (get hs id) e st

neither : (id : List ℕ) (k : Option KeptDocument) (o : Option Paths) → k ≡ None → o ≡ None → StandsAt id k o
neither id None None e f = tt
neither id None (Some h) e f = absurd cc
neither id (Some d) o e f = absurd cc

-- no documents stand for no histories
pub stand_empty : StandFor empty empty
stand_empty q = neither q (get empty q) (get empty q) (get-empty bytes_cmp q) (get-empty bytes_cmp q)

-- ---- insertions

pub tied : (o : Ordering) → is_eq o ≡ true → o ≡ Equal
tied Less e = absurd (subst T (sym e) tt)
tied Equal e = refl
tied Greater e = absurd (subst T (sym e) tt)

-- ids that tie are equal
pub same_id : (q id : List ℕ) → eq_by_cmp bytes_cmp q id ≡ true → q ≡ id
same_id q id e = bytes_exact q id (tied (bytes_cmp q id) e)

-- ---- the served documents

module _ {X Y : Type 0} (f : List ℕ → X → Y) where
  abbrev seen : List (List ℕ × X) → List (List ℕ × Y)
  seen es = map (λ e. (e.0, f e.0 e.1)) es

  below_seen : (x : List ℕ) (es : List (List ℕ × X)) → below_all bytes_cmp x (seen es) ≡ below_all bytes_cmp x es
  below_seen x [] = refl
  below_seen x (e ∷ es) = ap (λ b. is_lt (bytes_cmp x e.0) && b) (below_seen x es)

  sorted_seen : (es : List (List ℕ × X)) → is_sorted bytes_cmp (seen es) ≡ is_sorted bytes_cmp es
  sorted_seen [] = refl
  sorted_seen (e ∷ es) = rw (below_seen e.0 es, sorted_seen es) refl

  out : (b : Bool) (q id : List ℕ) (x : X) (o : Option X) → (b ≡ true → q ≡ id) → cond b (Some (f id x)) (option_map (f q) o) ≡ option_map (f q) (cond b (Some x) o)
  out true q id x o at = ap (λ i. Some (f i x)) (sym (at refl))
  out false q id x o at = refl

  find_seen : (q : List ℕ) (es : List (List ℕ × X)) → find bytes_cmp q (seen es) ≡ option_map (f q) (find bytes_cmp q es)
  find_seen q [] = refl
  find_seen q (e ∷ es) =
      ap (cond (eq_by_cmp bytes_cmp q e.0) (Some (f e.0 e.1))) (find_seen q es)
      ∙ out (eq_by_cmp bytes_cmp q e.0) q e.0 e.1 (find bytes_cmp q es) (same_id q e.0)

  -- the map with f applied to each id and value
  image : FinMap bytes_cmp X → FinMap bytes_cmp Y
  image m = from_sorted (seen (entries m))

  sorted_image : (m : FinMap bytes_cmp X) → T (is_sorted bytes_cmp (seen (entries m)))
  sorted_image m = subst T (sym (sorted_seen (entries m))) (entries_sorted m)

  get-image : (m : FinMap bytes_cmp X) (q : List ℕ) → get (image m) q ≡ option_map (f q) (get m q)
  unfolding image
  get-image m q = get-from_sorted bytes_cmp (seen (entries m)) q (sorted_image m) ∙ find_seen q (entries m) ∙ ap (option_map (f q)) (sym (get-entries m q))

  entries-image : (m : FinMap bytes_cmp X) → entries (image m) ≡ seen (entries m)
  unfolding image
  entries-image m = entries-from_sorted bytes_cmp (seen (entries m)) (sorted_image m)

abbrev kept_form : List ℕ → KeptDocument → Option Value
kept_form id d = d.1

same_form : (id : List ℕ) (k : Option KeptDocument) (o : Option Paths) → StandsAt id k o → option_map (kept_form id) k ≡ option_map (served_of id) o
same_form id None None st = refl
same_form id None (Some h) st = absurd st
same_form id (Some d) None st = absurd st
same_form id (Some d) (Some h) st = ap Some st.1

-- the forms of all documents, by their ids
same_forms : (ds : KeptDocuments) (hs : Histories) → StandFor ds hs → seen kept_form (entries ds) ≡ seen served_of (entries hs)
same_forms ds hs st =
    sym (entries-image kept_form ds)
    ∙ ap entries (same_map nat_list_cmp_total bytes_exact (image kept_form ds) (image served_of hs) (λ q.
    get-image kept_form ds q ∙ same_form q (get ds q) (get hs q) (st q) ∙ sym (get-image served_of hs q)))
    ∙ entries-image served_of hs

abbrev formed : List ℕ × Option Value → Option ServedDocument
formed e = option_map (λ v. (e.0, v)) e.1

docs_kept : (es : List (List ℕ × KeptDocument)) → filter_map doc_entry es ≡ filter_map formed (seen kept_form es)
docs_kept [] = refl
docs_kept (e ∷ es) = rw (docs_kept es)

docs_served : (es : List (List ℕ × Paths)) → filter_map served_entry es ≡ filter_map formed (seen served_of es)
docs_served [] = refl
docs_served (e ∷ es) = rw (docs_served es)

-- the served ones among the documents are the served documents of the histories
pub same_docs : (ds : KeptDocuments) (hs : Histories) → StandFor ds hs → docs_of ds ≡ served_documents hs
same_docs ds hs st = docs_kept (entries ds) ∙ ap (filter_map formed) (same_forms ds hs st) ∙ sym (docs_served (entries hs))

abbrev unformed : List ℕ × Option Value → Option (List ℕ)
unformed e = cond (is_none e.1) (Some e.0) None

deleted_kept : (es : List (List ℕ × KeptDocument)) → filter_map deleted_entry es ≡ filter_map unformed (seen kept_form es)
deleted_kept [] = refl
deleted_kept (e ∷ es) = rw (deleted_kept es)

deleted_served : (es : List (List ℕ × Paths)) → filter_map deleted_id es ≡ filter_map unformed (seen served_of es)
deleted_served [] = refl
deleted_served (e ∷ es) = rw (deleted_served es)

-- the deleted ones among the documents are the deleted documents of the histories
pub same_deleted : (ds : KeptDocuments) (hs : Histories) → StandFor ds hs → deleted_of ds ≡ deleted_documents hs
same_deleted ds hs st = deleted_kept (entries ds) ∙ ap (filter_map unformed) (same_forms ds hs st) ∙ sym (deleted_served (entries hs))

-- ---- two histories for which one tree stands

winner_same : (h g : Paths) (ls : List Leaf) → AreLeaves h ls → AreLeaves g ls → winner_of h ≡ winner_of g
winner_same h g [] p q = none_wins h [] refl p ∙ sym (none_wins g [] refl q)
winner_same h g (l ∷ ls) p q = front_wins h l (l ∷ ls) (omega arith) refl p ∙ sym (front_wins g l (l ∷ ls) (omega arith) refl q)

served_same : (id : List ℕ) (t : Tree) (h g : Paths) → StandsFor t h → StandsFor t g → served_of id h ≡ served_of id g
served_same id t h g p q = ap (option_and_then (shown_leaf id)) (winner_same h g t.leaves p.leaves q.leaves)

-- a document stands for each history for which its tree does
pub still_stands : (id : List ℕ) (t : Tree) (k : Option KeptDocument) (o : Option Paths) (g : Paths) → option_map (λ d. d.0) k ≡ Some t → StandsAt id k o → StandsFor t g → StandsAt id k (Some g)
still_stands id t None o g e st s = absurd cc
still_stands id t (Some d) None g e st s = absurd st
still_stands id t (Some d) (Some h) g e st s =
    let same : d.0 ≡ t = cc in
    let stands : StandsFor d.0 g = subst (λ (x : Tree). StandsFor x g) (sym same) s in
    (stands, st.1 ∙ served_same id d.0 h g st.0 stands)
