-- Documents stay objects, and what is served of one has its id and its revision.
use Rattle.std.proofs.Common.{◌≡◌, ℕ, Bool, true, false, cond, List, [], ◌∷◌, ◌++◌, Option, Some, None, option_and_then, unwrap_or, is_some, codes, Result, Ok, Err, Ordering, Less, Equal, Greater, refl, sym, ap, ◌∙◌, subst}
use Rattle.std.proofs.lemmas.Cmp.{nat_list_cmp_total, tied_itself}
use Rattle.std.specs.Cmp.Lexicographic.{slice_cmp}
use Rattle.std.specs.FinMap as finite
use Rattle.std.specs.FinMap.{get, get-empty, get-insert}
use Rattle.std.specs.List.{AllByRecursion}
use Rattle.std.specs.Ordering.{eq_by_cmp, match_ordering, nat_cmp}
use Rattle.mg_value.specs.Value.{Value, null, flag, whole, text, list, object, Items, no_items, item, Members, no_members, member, get_member, put, with_member}
use Rattle.std.specs.Prelude.{ok_or}
use Rattle.mg_value.specs.Results.{◌>>=◌}
use Rattle.mg_doc.specs.Document.{Edit, change_given, edit_of, id_of, is_object, mark_read, members_read, own_members}
use Rattle.mg_doc.specs.declared.change.Change.{Change}
use Rattle.mg_doc.specs.Edit.{Accepted, accepted_by, edited, history_after}
use Rattle.mg_doc.specs.Served.{served_form, shown_leaf}
use Rattle.mg_doc.specs.declared.error.DocError.{DocError}
use Rattle.mg_doc.specs.declared.error.DocError.TheVariants.{BadId, BadRev}
use Rattle.mg_doc.specs.declared.error.EditRefusal.{EditRefusal}
use Rattle.mg_range.specs.Laws.{Has}
use Rattle.mg_index.specs.Choice.{id_path, rev_path}
use Rattle.mg_path.specs.Part.{part_of}
use Rattle.mg_query.specs.Page.{Candidate, candidates_of}
use Rattle.mg_query.specs.Served.{HaveIdsAndRevs}
use Rattle.mg_query.proofs.Kept.{IsKnown, all_known}
use Rattle.mg_revtree.specs.History.{Paths, Leaf, Path, all_links, has_child, is_this, marked, newest_of, winner_of}
use Rattle.mg_revtree.specs.Revision.{Revision, revision_text}
use Rattle.mg_revtree.proofs.Winners.{winner_is_best}
use Rattle.mg_shard.specs.Edits.{after_edit, after_edits, history_put, id_in, outcome_in}
use Rattle.mg_shard.specs.Histories.{Histories, history_at}
use Rattle.mg_shard.proofs.Shown.{bytes_cmp}
use Rattle.mg_engine.specs.Bulk.{BulkEdits, edits_of, edits_or_refusal, numbered}
use Rattle.mg_engine.specs.declared.refusal.Refusal.{Refusal}
use Rattle.mg_engine.specs.Objects.{BringObjects, HasObjects, HaveObjects}
use Rattle.mg_engine.proofs.Counter.{last_after, numbered_cons}

the_some : {X : Type 0} (x y : X) → Some x ≡ Some y → x ≡ y
the_some x y e = ap (λ o. unwrap_or o x) e

-- ---- edits

then_ok : {A B : Type 0} (r : Result A DocError) (f : A → Result B DocError) (b : B) → r >>= f ≡ Ok b → (a : A) × (r ≡ Ok a) × (f a ≡ Ok b)
then_ok (Ok a) f b e = (a, refl, e)
then_ok (Err x) f b e = absurd cc

-- what is read of a document after its mark, and after its id
abbrev with_change : Bool → Members → Bool → Option (List ℕ) → Change → Result Edit DocError
with_change new_edits ms deleted id change = Ok (record { id = id; change = change; deleted = deleted; body = object (own_members ms) })

abbrev with_id : Bool → Members → Bool → Option (List ℕ) → Result Edit DocError
with_id new_edits ms deleted id = ok_or (change_given new_edits ms) BadRev >>= (with_change new_edits ms deleted id)

abbrev with_mark : Bool → Members → Bool → Result Edit DocError
with_mark new_edits ms deleted = ok_or (id_of (get_member (codes "_id") ms)) BadId >>= (with_id new_edits ms deleted)

abbrev body_in : Edit → Result Edit DocError → Value
body_in e (Ok x) = x.body
body_in e (Err y) = e.body

members_object : (new_edits : Bool) (ms : Members) (e : Edit) → members_read new_edits ms ≡ Ok e → is_object e.body ≡ true
members_object new_edits ms e h =
    let deleted = then_ok (mark_read ms) (with_mark new_edits ms) e h in
    let id = then_ok (ok_or (id_of (get_member (codes "_id") ms)) BadId) (with_id new_edits ms deleted.0) e deleted.2 in
    let change = then_ok (ok_or (change_given new_edits ms) BadRev) (with_change new_edits ms deleted.0 id.0) e id.2 in
    ap (λ r. is_object (body_in e r)) (sym change.2)

object_of : (new_edits : Bool) (v : Value) (e : Edit) → edit_of new_edits v ≡ Ok e → is_object e.body ≡ true
object_of new_edits (object ms) e h = members_object new_edits ms e h
object_of new_edits null e h = absurd cc
object_of new_edits (flag b) e h = absurd cc
object_of new_edits (whole z) e h = absurd cc
object_of new_edits (text s) e h = absurd cc
object_of new_edits (list vs) e h = absurd cc

read_objects : (new_edits : Bool) (vs : Items) (es : List Edit) → edits_of new_edits vs ≡ Ok es → BringObjects es
read_objects new_edits no_items [] h = tt
read_objects new_edits no_items (e ∷ es) h = absurd cc
read_objects new_edits (item v vs) es h =
    let first = then_ok (edit_of new_edits v) (λ e. edits_of new_edits vs >>= (λ rs. Ok (e ∷ rs))) es h in
    let rest = then_ok (edits_of new_edits vs) (λ rs. Ok (first.0 ∷ rs)) es first.2 in
    subst BringObjects (ap (λ r. ok_or r es) rest.2) (object_of new_edits v first.0 first.1, read_objects new_edits vs rest.0 rest.1)
  where
    ok_or : Result (List Edit) DocError → List Edit → List Edit
    ok_or (Ok x) y = x
    ok_or (Err e) y = y

not_refused : (new_edits : Bool) (r : Result (List Edit) DocError) (es : BulkEdits) → edits_or_refusal new_edits r ≡ Ok es → r ≡ Ok es.edits
not_refused new_edits (Ok x) es h = ap Ok (ap (λ r. edits_in r es.edits) h)
  where
    edits_in : Result BulkEdits Refusal → List Edit → List Edit
    edits_in (Ok x) y = x.edits
    edits_in (Err e) y = y
not_refused new_edits (Err e) es h = absurd cc

-- the edits that are read from a bulk
pub edits_bring_objects : (new_edits : Bool) (vs : Items) (es : BulkEdits) → edits_or_refusal new_edits (edits_of new_edits vs) ≡ Ok es → BringObjects es.edits
edits_bring_objects new_edits vs es h = read_objects new_edits vs es.edits (not_refused new_edits (edits_of new_edits vs) es h)

named_if : (n : ℕ) (e f : Edit) (b : Bool) → is_object e.body ≡ true → is_object f.body ≡ true → is_object (cond b e f).body ≡ true
named_if n e f true h k = h
named_if n e f false h k = k

numbered_objects : (n : ℕ) (es : List Edit) → BringObjects es → BringObjects (numbered n es)
numbered_objects n [] h = tt
numbered_objects n (e ∷ es) h =
    subst BringObjects (sym (numbered_cons n e es)) (named_if n e _ (is_some e.id) h.0 h.0, numbered_objects (last_after n e) es h.1)

-- ---- histories

with_object : (h : Paths) (p : Path) → HasObjects h → is_object p.body ≡ true → HasObjects (h ++ p ∷ [])
with_object [] p hs o = (o, tt)
with_object (q ∷ h) p hs o = (hs.0, with_object h p hs.1 o)

after_object : (h : Paths) (e : Edit) (r : Result Accepted EditRefusal) → HasObjects h → is_object e.body ≡ true → HasObjects (history_after h e r)
after_object h e (Ok a) hs o = with_object h (record { revs = a.0 ∷ a.1; deleted = e.deleted; body = e.body }) hs o
after_object h e (Err x) hs o = hs

at_objects : (o : Option Paths) → ((h : Paths) → o ≡ Some h → HasObjects h) → HasObjects (unwrap_or o [])
at_objects None each = tt
at_objects (Some h) each = each h refl

put_object : (b : Bool) (new : Paths) (o : Option Paths) (h : Paths) → cond b (Some new) o ≡ Some h → HasObjects new → ((h : Paths) → o ≡ Some h → HasObjects h) → HasObjects h
put_object true new o h e n each = subst HasObjects (the_some new h e) n
put_object false new o h e n each = each h e

put_objects : (hs : Histories) (e : Edit) (r : Result Revision EditRefusal) → HaveObjects hs → is_object e.body ≡ true → HaveObjects (history_put hs e r)
put_objects hs e (Ok r) had o = record {
  each = λ q h at.
      let new = edited (history_at hs (id_in e)) e in
      put_object (eq_by_cmp bytes_cmp q (id_in e)) new (get hs q) h (sym (get-insert nat_list_cmp_total hs (id_in e) new q) ∙ at)
      (after_object (history_at hs (id_in e)) e (accepted_by (history_at hs (id_in e)) e) (at_objects (get hs (id_in e)) (had.each (id_in e))) o) (had.each q);
}
put_objects hs e (Err x) had o = had

after_objects : (hs : Histories) (es : List Edit) → HaveObjects hs → BringObjects es → HaveObjects (after_edits hs es)
after_objects hs [] had bring = had
after_objects hs (e ∷ es) had bring = after_objects (after_edit hs e) es (put_objects hs e (outcome_in hs e) had bring.0) bring.1

-- the histories after the edits of a bulk
pub still_objects : (hs : Histories) (n : ℕ) (es : List Edit) → HaveObjects hs → BringObjects es → HaveObjects (after_edits hs (numbered n es))
still_objects hs n es had bring = after_objects hs (numbered n es) had (numbered_objects n es bring)

-- there is no document at first
pub none_at_first : HaveObjects finite.empty
none_at_first = record { each = λ id h at. none_of (get finite.empty id) h (get-empty bytes_cmp id) at }
  where
    none_of : (o : Option Paths) (h : Paths) → o ≡ None → o ≡ Some h → HasObjects h
    none_of None h e f = absurd cc
    none_of (Some x) h e f = absurd cc

-- ---- the winner

-- the body of a leaf is an object
abbrev IsGood : Leaf → Type 0
IsGood l = is_object l.body ≡ true

marked_here : (b : Bool) (p : Path) (o : Option (Bool × Value)) (m : Bool × Value) → is_object p.body ≡ true → ((m : Bool × Value) → o ≡ Some m → is_object m.1 ≡ true)
    → cond b (Some (p.deleted, p.body)) o ≡ Some m → is_object m.1 ≡ true
marked_here true p o m good rest e = subst (λ (x : Bool × Value). is_object x.1 ≡ true) (the_some (p.deleted, p.body) m e) good
marked_here false p o m good rest e = rest m e

marked_object : (r : Revision) (h : Paths) (m : Bool × Value) → HasObjects h → marked r h ≡ Some m → is_object m.1 ≡ true
marked_object r [] m hs e = absurd cc
marked_object r (p ∷ h) m hs e = marked_here (is_this r (newest_of p.revs)) p (marked r h) m hs.0 (λ m e. marked_object r h m hs.1 e) e

leaf_here : (b : Bool) (o : Option (Bool × Value)) (m : Bool × Value) → ((m : Bool × Value) → o ≡ Some m → is_object m.1 ≡ true) → cond b None o ≡ Some m → is_object m.1 ≡ true
leaf_here true o m each e = absurd cc
leaf_here false o m each e = each m e

winner_object : (h : Paths) (l : Leaf) → HasObjects h → winner_of h ≡ Some l → IsGood l
winner_object h l hs e =
    leaf_here (has_child l.rev (all_links h)) (marked l.rev h) (l.deleted, l.body) (λ m k. marked_object l.rev h m hs k) (winner_is_best h l e).0

-- ---- the members of what is served

put_here : (k l : List ℕ) (v w : Value) (ms : Members) (o : Ordering) → slice_cmp nat_cmp k l ≡ o → is_some (get_member k (put k v ms)) ≡ true
    → is_some (get_member k (match_ordering o (member k v (member l w ms)) (member l v ms) (member l w (put k v ms)))) ≡ true
put_here k l v w ms Less e rest = ap (λ r. is_some (match_ordering r (get_member k (member l w ms)) (Some v) (get_member k (member l w ms)))) (tied_itself nat_list_cmp_total k)
put_here k l v w ms Equal e rest = ap (λ r. is_some (match_ordering r (get_member k ms) (Some v) (get_member k ms))) e
put_here k l v w ms Greater e rest = ap (λ r. is_some (match_ordering r (get_member k (put k v ms)) (Some w) (get_member k (put k v ms)))) e ∙ rest

put_some : (k : List ℕ) (v : Value) (ms : Members) → is_some (get_member k (put k v ms)) ≡ true
put_some k v no_members = ap (λ r. is_some (match_ordering r (get_member k no_members) (Some v) (get_member k no_members))) (tied_itself nat_list_cmp_total k)
put_some k v (member l w ms) = put_here k l v w ms (slice_cmp nat_cmp k l) refl (put_some k v ms)

either : (o : Ordering) (a b c : Option Value) → is_some a ≡ true → is_some b ≡ true → is_some c ≡ true → is_some (match_ordering o a b c) ≡ true
either Less a b c f g h = f
either Equal a b c f g h = g
either Greater a b c f g h = h

-- a name that has a value still has one after a value is put at this name or another
changed_some : (o : Ordering) (a b : Option Value) (v w : Value) → (is_some a ≡ true → is_some b ≡ true) → is_some (match_ordering o a (Some w) a) ≡ true → is_some (match_ordering o b (Some v) b) ≡ true
changed_some Less a b v w more h = more h
changed_some Equal a b v w more h = refl
changed_some Greater a b v w more h = more h

keep_here : (k l m : List ℕ) (v w : Value) (ms : Members) (o : Ordering) → (is_some (get_member k ms) ≡ true → is_some (get_member k (put l v ms)) ≡ true)
    → is_some (get_member k (member m w ms)) ≡ true → is_some (get_member k (match_ordering o (member l v (member m w ms)) (member m v ms) (member m w (put l v ms)))) ≡ true
keep_here k l m v w ms Less more h = either (slice_cmp nat_cmp k l) (get_member k (member m w ms)) (Some v) (get_member k (member m w ms)) h refl h
keep_here k l m v w ms Equal more h = changed_some (slice_cmp nat_cmp k m) (get_member k ms) (get_member k ms) v w (λ x. x) h
keep_here k l m v w ms Greater more h = changed_some (slice_cmp nat_cmp k m) (get_member k ms) (get_member k (put l v ms)) w w more h

keep_some : (k l : List ℕ) (v : Value) (ms : Members) → is_some (get_member k ms) ≡ true → is_some (get_member k (put l v ms)) ≡ true
keep_some k l v no_members h = absurd cc
keep_some k l v (member m w ms) h = keep_here k l m v w ms (slice_cmp nat_cmp l m) (keep_some k l v ms) h

one_step : (o : Option Value) → is_some o ≡ true → is_some (option_and_then (part_of []) o) ≡ true
one_step None h = h
one_step (Some v) h = refl

form_has_both : (id : List ℕ) (r : List ℕ) (body : Value) → is_object body ≡ true
    → Has (with_member (codes "_id") (text id) (with_member (codes "_rev") (text r) body)) id_path × Has (with_member (codes "_id") (text id) (with_member (codes "_rev") (text r) body)) rev_path
form_has_both id r (object ms) h = (
  one_step (get_member (codes "_id") (put (codes "_id") (text id) (put (codes "_rev") (text r) ms))) (put_some (codes "_id") (text id) (put (codes "_rev") (text r) ms)),
  one_step (get_member (codes "_rev") (put (codes "_id") (text id) (put (codes "_rev") (text r) ms)))
      (keep_some (codes "_rev") (codes "_id") (text id) (put (codes "_rev") (text r) ms) (put_some (codes "_rev") (text r) ms)),
)
form_has_both id r null h = absurd cc
form_has_both id r (flag b) h = absurd cc
form_has_both id r (whole z) h = absurd cc
form_has_both id r (text s) h = absurd cc
form_has_both id r (list vs) h = absurd cc

-- ---- candidates

shown_has_both : (b : Bool) (id : List ℕ) (l : Leaf) (form : Value) → IsGood l → cond b None (Some (served_form id l)) ≡ Some form → Has form id_path × Has form rev_path
shown_has_both true id l form g e = absurd cc
shown_has_both false id l form g e = subst (λ (v : Value). Has v id_path × Has v rev_path) (the_some (served_form id l) form e) (form_has_both id (revision_text l.rev) l.body g)

served_has_both : (id : List ℕ) (o : Option Leaf) (form : Value) → ((l : Leaf) → o ≡ Some l → IsGood l) → option_and_then (shown_leaf id) o ≡ Some form → Has form id_path × Has form rev_path
served_has_both id None form good e = absurd cc
served_has_both id (Some l) form good e = shown_has_both l.deleted id l form (good l refl) e

each_has_both : (hs : Histories) → HaveObjects hs → (cs : List Candidate) → AllByRecursion (IsKnown hs) cs → HaveIdsAndRevs cs
each_has_both hs had [] k = tt
each_has_both hs had (c ∷ cs) k =
    (served_has_both c.id (winner_of c.history) c.form (λ l e. winner_object c.history l (had.each c.id c.history k.0.0) e) k.0.1, each_has_both hs had cs k.1)

-- each document that is served has its id and its revision among its members
pub have_ids_and_revs : (hs : Histories) → HaveObjects hs → HaveIdsAndRevs (candidates_of hs)
have_ids_and_revs hs had = each_has_both hs had (candidates_of hs) (all_known hs)
