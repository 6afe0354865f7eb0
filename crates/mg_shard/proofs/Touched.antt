-- Trees that a bulk has touched, and the histories for which they stand together with the documents.
use Rattle.std.proofs.Common.{◌≡◌, ℕ, zero, suc, ◌<◌, Bool, true, false, List, [], ◌∷◌, Ok, Err, Result, String, Global, Option, Some, None, option_map, unwrap_or, is_ok, map, length, cond, string_bytes, string_cmp, is_eq, refl, ap, sym, ◌∙◌, subst, arith}
use Rattle.std.proofs.lemmas.Cmp.{nat_list_cmp_total, eq_by_cmp_equiv}
use Rattle.std.proofs.lemmas.Map.Text.{btree_map_updates_text, is_eq-slice_cmp}
use Rattle.std.specs.BTreeMap.{BTreeMap, UpdatesBy, get_by_text, is_at}
use Rattle.std.specs.Map.{lookup}
use Rattle.std.specs.Cmp.Lexicographic.{slice_cmp}
use Rattle.std.specs.Ordering.{eq_by_cmp, nat_cmp}
use Rattle.std.specs.Str.{bytes_eq}
use Rattle.std.specs.FinMap.{empty, find, get, get-empty, get-from_entries, get-insert, insert, same_map}
use Rattle.mg_revtree.specs.Revision.{Revision}
use Rattle.mg_revtree.specs.History.{Paths}
use Rattle.mg_revtree.specs.Tree.{StandsFor, Tree}
use Rattle.mg_value.specs.Value.{Value}
use Rattle.mg_doc.specs.Applied.{Refuses, changes_nothing}
use Rattle.mg_doc.specs.Document.{Edit}
use Rattle.mg_doc.specs.Edit.{Accepted, accepted_by, accepted_of, edited, first_refusal, history_after, newest_accepted, outcome_of}
use Rattle.mg_doc.specs.Served.{served_of}
use Rattle.mg_doc.specs.declared.change.Change.{Change}
use Rattle.mg_doc.specs.declared.change.Change.TheVariants.{New, Replica}
use Rattle.mg_doc.specs.declared.error.EditRefusal.{EditRefusal}
use Rattle.mg_shard.specs.Documents.{KeptDocument, KeptDocuments, StandFor, StandsAt, tree_at}
use Rattle.mg_shard.specs.Draft.{DraftAt, DraftStandsFor, DraftView, TouchedStandFor, Touches, Trees, touched_of}
use Rattle.mg_shard.specs.Edits.{after_edit, history_put, id_in, outcome_in}
use Rattle.mg_shard.specs.Histories.{Histories, history_at}
use Rattle.mg_shard.specs.Shard.{ShardView}
use Rattle.mg_shard.proofs.Shown.{bytes_cmp, bytes_exact}
use Rattle.mg_shard.proofs.Standing.{same_id, still_stands, tree_absent, tree_there}

abbrev pub TreeMap : Type 0
TreeMap = BTreeMap (String Global) Tree

-- ---- the code's map of touched trees

find-trees : (q : List ℕ) (es : List (String Global × Tree)) → lookup (is_at (λ k. bytes_cmp q (string_bytes k))) es ≡ find bytes_cmp q (map (λ e. (string_bytes e.0, e.1)) es)
find-trees q [] = refl
find-trees q (e ∷ es) = ap (cond (is_eq (bytes_cmp q (string_bytes e.0))) (Some e.1)) (find-trees q es)

-- a look-up in that map
pub get-touched : (m : TreeMap) (q : List ℕ) → get_by_text m q ≡ get (touched_of m.entries) q
get-touched m q = find-trees q m.entries ∙ sym (get-from_entries nat_list_cmp_total _ q)

same_test : (id q : List ℕ) → bytes_eq id q ≡ eq_by_cmp bytes_cmp q id
same_test id q = sym (is_eq-slice_cmp id q) ∙ (eq_by_cmp_equiv nat_list_cmp_total).symm id q

-- a look-up after a change at an id
pub get-updated : (m n : TreeMap) (id : List ℕ) (w : Option Tree) → UpdatesBy string_cmp (λ k. slice_cmp nat_cmp id (string_bytes k)) m n w
    → (q : List ℕ) → get (touched_of n.entries) q ≡ cond (eq_by_cmp bytes_cmp q id) w (get (touched_of m.entries) q)
get-updated m n id w u q =
    sym (get-touched n q) ∙ btree_map_updates_text id m n w u q
    ∙ ap (λ b. cond b w (get_by_text m q)) (same_test id q) ∙ ap (cond (eq_by_cmp bytes_cmp q id) w) (get-touched m q)

-- a change that puts a tree at an id is an insertion
pub touched-put : (m n : TreeMap) (id : List ℕ) (t : Tree) → UpdatesBy string_cmp (λ k. slice_cmp nat_cmp id (string_bytes k)) m n (Some t)
    → touched_of n.entries ≡ insert (touched_of m.entries) id t
touched-put m n id t u = same_map nat_list_cmp_total bytes_exact _ _ (λ q. get-updated m n id (Some t) u q ∙ sym (get-insert nat_list_cmp_total (touched_of m.entries) id t q))

-- ---- histories

-- a refused edit leaves the history
kept_history : (h : Paths) (e : Edit) (a : Result Accepted EditRefusal) (x : EditRefusal) → newest_accepted a ≡ Err x → history_after h e a ≡ h
kept_history h e (Ok a) x is = absurd cc
kept_history h e (Err y) x is = refl

pub refused_leaves : (h : Paths) (e : Edit) (x : EditRefusal) → outcome_of h e ≡ Err x → edited h e ≡ h
refused_leaves h e x is = kept_history h e (accepted_by h e) x is

-- the histories after an edit that is done
pub after_done : (hs : Histories) (e : Edit) (r : Revision) → outcome_in hs e ≡ Ok r → after_edit hs e ≡ insert hs (id_in e) (edited (history_at hs (id_in e)) e)
after_done hs e r is = ap (history_put hs e) is

-- the histories after an edit that is refused
pub after_refused : (hs : Histories) (e : Edit) (x : EditRefusal) → outcome_in hs e ≡ Err x → after_edit hs e ≡ hs
after_refused hs e x is = ap (history_put hs e) is

-- ---- drafts

-- if nothing is touched, the documents stand for the histories
pub untouched : (ds : KeptDocuments) (hs : Histories) → StandFor ds hs → TouchedStandFor ds empty hs
untouched ds hs st q = subst (λ (t : Option Tree). DraftAt q t (get ds q) (get hs q)) (sym (get-empty bytes_cmp q)) (st q)

pub all_kept : (ds : KeptDocuments) (ts : Trees) (hs : Histories) → ts ≡ empty → TouchedStandFor ds ts hs → StandFor ds hs
all_kept ds ts hs none st q = subst (λ (t : Option Tree). DraftAt q t (get ds q) (get hs q)) (ap (λ m. get m q) none ∙ get-empty bytes_cmp q) (st q)

-- the document of an id that is not touched stands for the id's history
pub document_at : (ds : KeptDocuments) (ts : Trees) (hs : Histories) (id : List ℕ) → get ts id ≡ None → TouchedStandFor ds ts hs → StandsAt id (get ds id) (get hs id)
document_at ds ts hs id none st = subst (λ (t : Option Tree). DraftAt id t (get ds id) (get hs id)) none (st id)

has : (id : List ℕ) (t : Tree) (kept : Option KeptDocument) (o : Option Paths) → DraftAt id (Some t) kept o → (h : Paths) × (o ≡ Some h) × StandsFor t h
has id t kept None st = absurd st
has id t kept (Some h) st = (h, refl, st)

-- a touched tree stands for the history of its id
pub touched_at : (ds : KeptDocuments) (ts : Trees) (hs : Histories) (id : List ℕ) (t : Tree) → get ts id ≡ Some t → TouchedStandFor ds ts hs → (h : Paths) × (get hs id ≡ Some h) × StandsFor t h
touched_at ds ts hs id t is st = has id t (get ds id) (get hs id) (subst (λ (o : Option Tree). DraftAt id o (get ds id) (get hs id)) is (st id))

pub tree_touched : (ds : KeptDocuments) (ts : Trees) (hs : Histories) (id : List ℕ) (t : Tree) → get ts id ≡ Some t → TouchedStandFor ds ts hs → StandsFor t (history_at hs id)
tree_touched ds ts hs id t is st = let at = touched_at ds ts hs id t is st in subst (λ (o : Option Paths). StandsFor t (unwrap_or o [])) (sym at.1) at.2

done_at : (b : Bool) (q : List ℕ) (t : Tree) (h : Paths) (ot : Option Tree) (kept : Option KeptDocument) (o : Option Paths) → StandsFor t h → DraftAt q ot kept o
    → DraftAt q (cond b (Some t) ot) kept (cond b (Some h) o)
done_at true q t h ot kept o s st = s
done_at false q t h ot kept o s st = st

refused_at : (b : Bool) (q : List ℕ) (t : Tree) (h : Paths) (ot : Option Tree) (kept : Option KeptDocument) (o : Option Paths) → (b ≡ true → o ≡ Some h) → StandsFor t h → DraftAt q ot kept o
    → DraftAt q (cond b (Some t) ot) kept o
refused_at true q t h ot kept o is s st = subst (λ (p : Option Paths). DraftAt q (Some t) kept p) (sym (is refl)) s
refused_at false q t h ot kept o is s st = st

-- the tree after an edit is put among the touched ones. A refused edit has to have had a history there, which it leaves
pub edit_kept : (ds : KeptDocuments) (ts us : Trees) (hs : Histories) (e : Edit) (t : Tree) (r : Result Revision EditRefusal) → outcome_in hs e ≡ r
    → ((x : EditRefusal) → r ≡ Err x → (h : Paths) × (get hs (id_in e) ≡ Some h))
    → ((q : List ℕ) → get us q ≡ cond (eq_by_cmp bytes_cmp q (id_in e)) (Some t) (get ts q))
    → StandsFor t (edited (history_at hs (id_in e)) e) → TouchedStandFor ds ts hs → TouchedStandFor ds us (after_edit hs e)
edit_kept ds ts us hs e t (Ok r) is some at s st q =
    let id = id_in e in
    let h = edited (history_at hs id) e in
    let now : get (after_edit hs e) q ≡ cond (eq_by_cmp bytes_cmp q id) (Some h) (get hs q) = ap (λ m. get m q) (after_done hs e r is) ∙ get-insert nat_list_cmp_total hs id h q in
    subst (λ (o : Option Paths). DraftAt q (get us q) (get ds q) o) (sym now)
    (subst (λ (o : Option Tree). DraftAt q o (get ds q) (cond (eq_by_cmp bytes_cmp q id) (Some h) (get hs q))) (sym (at q))
    (done_at (eq_by_cmp bytes_cmp q id) q t h (get ts q) (get ds q) (get hs q) s (st q)))
edit_kept ds ts us hs e t (Err x) is some at s st q =
    let id = id_in e in
    let had = some x refl in
    let before : history_at hs id ≡ had.0 = ap (λ (o : Option Paths). unwrap_or o []) had.1 in
    let left : StandsFor t had.0 = subst (λ (h : Paths). StandsFor t h) (refused_leaves (history_at hs id) e x is ∙ before) s in
    let here : eq_by_cmp bytes_cmp q id ≡ true → get hs q ≡ Some had.0 = λ b. ap (get hs) (same_id q id b) ∙ had.1 in
    subst (λ (o : Option Paths). DraftAt q (get us q) (get ds q) o) (sym (ap (λ m. get m q) (after_refused hs e x is)))
    (subst (λ (o : Option Tree). DraftAt q o (get ds q) (get hs q)) (sym (at q))
    (refused_at (eq_by_cmp bytes_cmp q id) q t had.0 (get ts q) (get ds q) (get hs q) here left (st q)))

kept_at : (b : Bool) (q id : List ℕ) (t : Tree) (d : KeptDocument) (ot : Option Tree) (kept : Option KeptDocument) (o : Option Paths) → (b ≡ true → q ≡ id) → (b ≡ true → ot ≡ Some t) → d.0 ≡ t
    → ((h : Paths) → StandsFor t h → d.1 ≡ served_of id h) → DraftAt q ot kept o → DraftAt q (cond b None ot) (cond b (Some d) kept) o
kept_at true q id t d ot kept o at is same served st =
    let had = has q t kept o (subst (λ (p : Option Tree). DraftAt q p kept o) (is refl) st) in
    subst (λ (p : Option Paths). StandsAt q (Some d) p) (sym had.1)
    (subst (λ (x : Tree). StandsFor x had.0) (sym same) had.2, served had.0 had.2 ∙ ap (λ i. served_of i had.0) (sym (at refl)))
kept_at false q id t d ot kept o at is same served st = st

-- a touched tree becomes a document of the shard, and is no longer among the touched ones
pub tree_kept : (ds cs : KeptDocuments) (ts us : Trees) (hs : Histories) (id : List ℕ) (t : Tree) (d : KeptDocument) → get ts id ≡ Some t → d.0 ≡ t
    → ((h : Paths) → StandsFor t h → d.1 ≡ served_of id h) → cs ≡ insert ds id d
    → ((q : List ℕ) → get us q ≡ cond (eq_by_cmp bytes_cmp q id) None (get ts q)) → TouchedStandFor ds ts hs → TouchedStandFor cs us hs
tree_kept ds cs ts us hs id t d is same served put at st q =
    let now : get cs q ≡ cond (eq_by_cmp bytes_cmp q id) (Some d) (get ds q) = ap (λ m. get m q) put ∙ get-insert nat_list_cmp_total ds id d q in
    subst (λ (k : Option KeptDocument). DraftAt q (get us q) k (get hs q)) (sym now)
    (subst (λ (o : Option Tree). DraftAt q o (cond (eq_by_cmp bytes_cmp q id) (Some d) (get ds q)) (get hs q)) (sym (at q))
    (kept_at (eq_by_cmp bytes_cmp q id) q id t d (get ts q) (get ds q) (get hs q) (same_id q id) (λ b. ap (get ts) (same_id q id b) ∙ is) same served (st q)))

-- ---- for the steps of a bulk

-- an empty list of touched trees
pub touched_none : (es : List (String Global × Tree)) → length es ≡ 0 → touched_of es ≡ empty
touched_none [] e = refl
touched_none (x ∷ es) e = absurd (omega arith)

-- after a refused edit the same trees stand
pub refused_stands : (ds : KeptDocuments) (ts : Trees) (hs : Histories) (e : Edit) (r : Result Revision EditRefusal) → r ≡ outcome_in hs e → is_ok r ≡ false → TouchedStandFor ds ts hs → TouchedStandFor ds ts (after_edit hs e)
refused_stands ds ts hs e (Ok r) is not st = absurd cc
refused_stands ds ts hs e (Err x) is not st = subst (λ m. TouchedStandFor ds ts m) (sym (after_refused hs e x (sym is))) st

not_refused : (r : Result Revision EditRefusal) (x : EditRefusal) → is_ok r ≡ true → r ≡ Err x → ⊥
not_refused (Ok r) x is e = absurd cc
not_refused (Err y) x is e = absurd cc

-- the first edit of a document, if it is done, puts its tree among the touched ones
pub first_kept : (ds : KeptDocuments) (ts us : Trees) (hs : Histories) (e : Edit) (t : Tree) (r : Result Revision EditRefusal) → r ≡ outcome_in hs e → is_ok r ≡ true
    → us ≡ insert ts (id_in e) t → StandsFor t (edited (history_at hs (id_in e)) e) → TouchedStandFor ds ts hs → TouchedStandFor ds us (after_edit hs e)
first_kept ds ts us hs e t r is done put s st =
    edit_kept ds ts us hs e t r (sym is) (λ x refused. absurd (not_refused r x done refused)) (λ q. ap (λ m. get m q) put ∙ get-insert nat_list_cmp_total ts (id_in e) t q) s st

-- a further edit of a document changes its touched tree
pub next_kept : (ds : KeptDocuments) (ts us : Trees) (hs : Histories) (e : Edit) (tree t : Tree) → get ts (id_in e) ≡ Some tree
    → ((q : List ℕ) → get us q ≡ cond (eq_by_cmp bytes_cmp q (id_in e)) (Some t) (get ts q))
    → StandsFor t (edited (history_at hs (id_in e)) e) → TouchedStandFor ds ts hs → TouchedStandFor ds us (after_edit hs e)
next_kept ds ts us hs e tree t is at s st =
    edit_kept ds ts us hs e t (outcome_in hs e) refl (λ x refused. let had = touched_at ds ts hs (id_in e) tree is st in (had.0, had.1)) at s st

-- a new draft stands for what its shard stands for
pub new_draft : (d : DraftView) (s : ShardView) (hs : Histories) → d.shard ≡ s → d.touched ≡ empty → StandFor s.documents hs → DraftStandsFor d hs
new_draft d s hs same none st =
    subst (λ (ts : Trees). TouchedStandFor d.shard.documents ts hs) (sym none) (subst (λ (v : ShardView). TouchedStandFor v.documents empty hs) (sym same) (untouched s.documents hs st))

-- a number that cannot be above 0 is 0
pub none_left : (n : ℕ) → (0 < n → false ≡ true) → n ≡ 0
none_left zero h = refl
none_left (suc n) h = let wrong = h (omega arith) in absurd cc

known_at : (b : Bool) (q : List ℕ) (h : Paths) (ot : Option Tree) (kept : Option KeptDocument) (o : Option Paths) → (b ≡ true → ot ≡ None) → (b ≡ true → StandsAt q kept (Some h)) → DraftAt q ot kept o
    → DraftAt q ot kept (cond b (Some h) o)
known_at true q h ot kept o none s st = subst (λ (t : Option Tree). DraftAt q t kept (Some h)) (sym (none refl)) (s refl)
known_at false q h ot kept o none s st = st

-- an edit that touches nothing, since it is refused or its revision is known
pub looked_stands : (ds : KeptDocuments) (ts : Trees) (hs : Histories) (e : Edit) (r : Result Revision EditRefusal) → r ≡ outcome_in hs e → get ts (id_in e) ≡ None
    → StandsAt (id_in e) (get ds (id_in e)) (Some (edited (history_at hs (id_in e)) e)) → TouchedStandFor ds ts hs → TouchedStandFor ds ts (after_edit hs e)
looked_stands ds ts hs e (Ok r) is none s st q =
    let id = id_in e in
    let h = edited (history_at hs id) e in
    let now : get (after_edit hs e) q ≡ cond (eq_by_cmp bytes_cmp q id) (Some h) (get hs q) = ap (λ m. get m q) (after_done hs e r (sym is)) ∙ get-insert nat_list_cmp_total hs id h q in
    subst (λ (o : Option Paths). DraftAt q (get ts q) (get ds q) o) (sym now)
    (known_at (eq_by_cmp bytes_cmp q id) q h (get ts q) (get ds q) (get hs q) (λ b. ap (get ts) (same_id q id b) ∙ none)
    (λ b. subst (λ i. StandsAt i (get ds i) (Some h)) (sym (same_id q id b)) s) (st q))
looked_stands ds ts hs e (Err x) is none s st q = subst (λ (m : Histories). DraftAt q (get ts q) (get ds q) (get m q)) (sym (after_refused hs e x (sym is))) (st q)

-- ---- for a look at an edit

-- the reply for an error reports the outcome of the edit, which leaves the history
pub reply_refused : (h : Paths) (e : Edit) (o : Option EditRefusal) (r : Result Revision EditRefusal) → option_map Err o ≡ Some r → Refuses h e o → (r ≡ outcome_of h e) × (edited h e ≡ h)
reply_refused h e None r is k = absurd cc
reply_refused h e (Some x) r is k = let same : Err x ≡ r = cc in (sym same ∙ sym k, refused_leaves h e x k)

-- if memory runs out after a look, the edit is not refused before its revision is made
pub not_foreseen : (h : Paths) (e : Edit) (o : Option EditRefusal) → o ≡ None → Refuses h e o → first_refusal h e.change ≡ None
not_foreseen h e None is k = k
not_foreseen h e (Some x) is k = absurd cc

-- after a refusal an unchanged tree stands for the edited history, which is unchanged too
pub refused_tree : (h : Paths) (e : Edit) (o : Option EditRefusal) (r : Result Revision EditRefusal) (s t : Tree) → option_map Err o ≡ Some r → Refuses h e o → t ≡ s → StandsFor s h
    → (r ≡ outcome_of h e) × StandsFor t (edited h e)
refused_tree h e o r s t is k same st =
    let d = reply_refused h e o r is k in
    (d.0, subst (λ (g : Paths). StandsFor t g) (sym d.1) (subst (λ (x : Tree). StandsFor x h) (sym same) st))

unknown_yet : (c : Change) (deleted : Bool) (body : Value) (r : Revision) → changes_nothing [] c ≡ true → newest_accepted (accepted_of [] deleted body c) ≡ Ok r → ⊥
unknown_yet (New named) deleted body r known is = absurd cc
unknown_yet (Replica []) deleted body r known is = absurd cc
unknown_yet (Replica (q ∷ qs)) deleted body r known is = absurd cc

-- only a document with a history has a path that is known whole
pub known_there : (e : Edit) (h : Paths) (r : Revision) → changes_nothing h e.change ≡ true → outcome_of h e ≡ Ok r → h ≡ [] → ⊥
known_there e h r known is none =
    unknown_yet e.change e.deleted e.body r (subst (λ (g : Paths). changes_nothing g e.change ≡ true) none known) (subst (λ (g : Paths). outcome_of g e ≡ Ok r) none is)

-- ---- the first edit of a document: the look is made at its tree, or at the empty one

tree_or_none : (ds : KeptDocuments) (hs : Histories) (id : List ℕ) (none t : Tree) (o : Option Tree) → tree_at ds id ≡ o → t ≡ unwrap_or o none → StandsFor none [] → StandsAt id (get ds id) (get hs id)
    → StandsFor t (history_at hs id)
tree_or_none ds hs id none t None is same s st = subst (λ (h : Paths). StandsFor t h) (sym (tree_absent ds hs id is st)) (subst (λ (x : Tree). StandsFor x []) (sym same) s)
tree_or_none ds hs id none t (Some x) is same s st = tree_there ds hs id t (is ∙ ap Some (sym same)) st

known_at_id : (ds : KeptDocuments) (hs : Histories) (id : List ℕ) (e : Edit) (r : Revision) (none t : Tree) (o : Option Tree) → tree_at ds id ≡ o → t ≡ unwrap_or o none
    → StandsAt id (get ds id) (get hs id) → changes_nothing (history_at hs id) e.change ≡ true → outcome_of (history_at hs id) e ≡ Ok r → StandsFor t (edited (history_at hs id) e)
    → StandsAt id (get ds id) (Some (edited (history_at hs id) e))
known_at_id ds hs id e r none t None is same st known done left = absurd (known_there e (history_at hs id) r known done (tree_absent ds hs id is st))
known_at_id ds hs id e r none t (Some x) is same st known done left = still_stands id t (get ds id) (get hs id) (edited (history_at hs id) e) (is ∙ ap Some (sym same)) st left

module _ (ds : KeptDocuments) (ts : Trees) (e : Edit) (id : List ℕ) (named : id ≡ id_in e) (none t : Tree) (is : t ≡ unwrap_or (tree_at ds id) none) (out : get ts (id_in e) ≡ None) where
  is_tree : t ≡ unwrap_or (tree_at ds (id_in e)) none
  is_tree = is ∙ ap (λ i. unwrap_or (tree_at ds i) none) named

  -- the tree stands for the history of the id
  pub tree_before : (hs : Histories) → StandsFor none [] → TouchedStandFor ds ts hs → StandsFor t (history_at hs (id_in e))
  tree_before hs s st = tree_or_none ds hs (id_in e) none t (tree_at ds (id_in e)) refl is_tree s (document_at ds ts hs (id_in e) out st)

  -- an edit whose path is known whole touches nothing
  pub known_stands : (hs : Histories) (r : Revision) → changes_nothing (history_at hs (id_in e)) e.change ≡ true → outcome_in hs e ≡ Ok r → StandsFor t (edited (history_at hs (id_in e)) e)
      → TouchedStandFor ds ts hs → TouchedStandFor ds ts (after_edit hs e)
  known_stands hs r known done left st =
      looked_stands ds ts hs e (Ok r) (sym done) out
      (known_at_id ds hs (id_in e) e r none t (tree_at ds (id_in e)) refl is_tree (document_at ds ts hs (id_in e) out st) known done left) st

-- an edit that is refused touches nothing
pub not_touched : (h : Paths) (e : Edit) (r : Result Revision EditRefusal) (ts us : Trees) → is_ok r ≡ false → us ≡ ts → Touches h e r ts us
not_touched h e (Ok r) ts us not same = absurd cc
not_touched h e (Err x) ts us not same = same

-- an edit that is done puts its tree among the touched ones
pub now_touched : (h : Paths) (e : Edit) (r : Result Revision EditRefusal) (ts us : Trees) (t : Tree) → is_ok r ≡ true → StandsFor t (edited h e) → us ≡ insert ts (id_in e) t → Touches h e r ts us
now_touched h e (Ok r) ts us t done s put = (t, s, put)
now_touched h e (Err x) ts us t done s put = absurd cc

-- after the first edit of a document, the touched trees and the documents stand for the new histories
pub first_stands : (ds : KeptDocuments) (ts us : Trees) (hs : Histories) (e : Edit) (r : Result Revision EditRefusal) → r ≡ outcome_in hs e → Touches (history_at hs (id_in e)) e r ts us
    → TouchedStandFor ds ts hs → TouchedStandFor ds us (after_edit hs e)
first_stands ds ts us hs e (Ok r) is k st = first_kept ds ts us hs e k.0 (Ok r) is refl k.2 k.1 st
first_stands ds ts us hs e (Err x) is k st = subst (λ (m : Trees). TouchedStandFor ds m (after_edit hs e)) (sym k) (refused_stands ds ts hs e (Err x) is refl st)

-- after a refused edit, as its reply reports it, the same trees stand
pub reply_stands : (ds : KeptDocuments) (ts : Trees) (hs : Histories) (e : Edit) (o : Option EditRefusal) (r : Result Revision EditRefusal) → option_map Err o ≡ Some r → Refuses (history_at hs (id_in e)) e o
    → TouchedStandFor ds ts hs → TouchedStandFor ds ts (after_edit hs e)
reply_stands ds ts hs e None r is k st = absurd cc
reply_stands ds ts hs e (Some x) r is k st = subst (λ (m : Histories). TouchedStandFor ds ts m) (sym (after_refused hs e x k)) st
