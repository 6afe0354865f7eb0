-- The worlds that commands leave: what is in them, JSON text can carry.
use Rattle.std.proofs.Common.{◌≡◌, ℕ, suc, ◌≤◌, ◌<◌, pos, negsuc, Bool, true, false, ◌&&◌, cond, List, [], ◌∷◌, ◌++◌, length, Option, Some, None, option_and_then, option_map, unwrap_or, is_some, codes, IsUtf8, Result, Ok, Err, refl, sym, ap, ◌∙◌, subst, arith}
use Rattle.std.proofs.lemmas.Bool.{and_parts, leb-true, ltb-true}
use Rattle.std.proofs.lemmas.Cmp.{nat_list_cmp_total}
use Rattle.std.proofs.lemmas.Map.Text.{is_eq-slice_cmp}
use Rattle.std.proofs.lemmas.Slice.Eq.{bytes_eq-Decides}
use Rattle.std.proofs.lemmas.Str.{IsUtf8-append, IsUtf8-from_ascii}
use Rattle.std.proofs.lemmas.Str.Ascii.{IsAscii-cons, IsAscii-nil}
use Rattle.std.specs.FinMap as finite
use Rattle.std.specs.FinMap.{get, get-empty, get-insert}
use Rattle.std.specs.List.{AllByRecursion, after_first, before_first, list_all, list_any}
use Rattle.std.specs.Ordering.{eq_by_cmp}
use Rattle.std.specs.Prelude.{◌==◌, decimal, nat_le, nat_lt, ok_or}
use Rattle.std.specs.Result.{result_unwrap_or}
use Rattle.std.specs.Str.{IsAscii}
use Rattle.hex.proofs.HexLemmas.{IsAscii-encode_with}
use Rattle.hex.specs.Hex.{encode_lower, lower_digits}
use Rattle.json.proofs.Printed.Utf8.{IsUtf8-are_ascii, are_ascii}
use Rattle.mg_value.specs.Results.{◌>>=◌}
use Rattle.mg_value.specs.Held.{AllAfter}
use Rattle.mg_value.specs.Stored.{AreStored, IsStored, MembersAreStored}
use Rattle.mg_value.specs.Value.{Value, null, flag, whole, text, list, object, Items, no_items, item, Members, no_members, member, get_member, items_depth, member_of, members_depth, put, with_member}
use Rattle.mg_packed.proofs.Put.{put_stored}
use Rattle.mg_revtree.specs.Revision.{Revision, is_id_byte, is_revision_id, position_of, revision_text, run_from, run_of, same_revision}
use Rattle.mg_revtree.specs.History.{Leaf, Path, Paths, all_links, fits, has_child, is_this, marked, newest_of, winner_of}
use Rattle.mg_revtree.proofs.Same.{same_is}
use Rattle.mg_revtree.proofs.Winners.{winner_is_best}
use Rattle.mg_doc.specs.Digest.{digest_of}
use Rattle.mg_doc.specs.Document.{Edit, change_by, change_given, edit_of, id_of, is_document_id, is_reserved, mark_read, members_read, own_members, path_ids, rev_of, revisions_of, run_at}
use Rattle.mg_doc.specs.Edit.{Accepted, accepted_by, accepted_of, base_of, edited, history_after, path_over, refusal_over, replicated, unless}
use Rattle.mg_doc.specs.Served.{served_form, shown_leaf}
use Rattle.mg_doc.specs.declared.change.Change.{Change}
use Rattle.mg_doc.specs.declared.change.Change.TheVariants.{New, Replica}
use Rattle.mg_doc.specs.declared.error.DocError.{DocError}
use Rattle.mg_doc.specs.declared.error.DocError.TheVariants.{BadId, BadRev}
use Rattle.mg_doc.specs.declared.error.EditRefusal.{EditRefusal}
use Rattle.mg_shard.specs.Edits.{after_edit, after_edits, history_put, id_in, outcome_in}
use Rattle.mg_shard.specs.Histories.{Histories, history_at}
use Rattle.mg_shard.proofs.Shown.{bytes_cmp}
use Rattle.mg_query.specs.Page.{Candidate, candidates_of}
use Rattle.mg_query.proofs.Kept.{IsKnown, all_known}
use Rattle.mg_engine.specs.Bulk.{BulkEdits, Bulk, are_objects, bulk_of, bulk_read, edits_of, edits_or_refusal, edits_read, number_after, number_text, numbered, shaped}
use Rattle.mg_engine.proofs.Counter.{last_after, numbered_cons}
use Rattle.mg_engine.proofs.Spelled.{IsStoredTo, decimal_utf8, got, member_got, put_depth, the_some}

the_ok : {A E : Type 0} (x y : A) → ◌≡◌ {A = Result A E} (Ok x) (Ok y) → x ≡ y
the_ok x y e = ap (λ r. result_unwrap_or r x) e

then_ok : {A B E : Type 0} (r : Result A E) (f : A → Result B E) (b : B) → r >>= f ≡ Ok b → (a : A) × (r ≡ Ok a) × (f a ≡ Ok b)
then_ok (Ok a) f b e = (a, refl, e)
then_ok (Err x) f b e = absurd cc

-- ---- texts that are made

each_ascii : (s : List ℕ) → are_ascii s ≡ true → IsAscii s
each_ascii [] h = IsAscii-nil
each_ascii (b ∷ s) h = let p = and_parts (nat_lt b 128) (are_ascii s) h in IsAscii-cons b s (ltb-true b 128 p.0) (each_ascii s p.1)

-- hexadecimal digits
pub hex_utf8 : (bytes : List ℕ) → IsUtf8 (encode_lower bytes)
hex_utf8 bytes = IsUtf8-from_ascii (encode_lower bytes) (IsAscii-encode_with lower_digits bytes (each_ascii lower_digits refl))

number_utf8 : (n : ℕ) → IsUtf8 (number_text n)
number_utf8 n = IsUtf8-append (codes "0000000000000000") _ (IsUtf8-are_ascii (codes "0000000000000000") refl) (hex_utf8 _)

low : (b : ℕ) → nat_le b 126 ≡ true → b < 128
low b h = let small : b ≤ 126 = leb-true b 126 h in omega arith

printable : (s : List ℕ) → list_all is_id_byte s ≡ true → IsAscii s
printable [] h = IsAscii-nil
printable (b ∷ s) h =
    let p = and_parts (is_id_byte b) (list_all is_id_byte s) h in
    IsAscii-cons b s (low b (and_parts (nat_le 33 b) (nat_le b 126) p.0).1) (printable s p.1)

revision_id_utf8 : (id : List ℕ) → is_revision_id id ≡ true → IsUtf8 id
revision_id_utf8 id h = IsUtf8-from_ascii id (printable id (and_parts (nat_lt 0 (length id)) (list_all is_id_byte id) h).1)

-- the id of the revision is UTF-8
abbrev IsText : Revision → Type 0
IsText r = IsUtf8 r.1

revision_utf8 : (r : Revision) → IsText r → IsUtf8 (revision_text r)
revision_utf8 r h = IsUtf8-append (decimal r.0 ++ codes "-") r.1 (IsUtf8-append (decimal r.0) (codes "-") (decimal_utf8 r.0) (IsUtf8-are_ascii (codes "-") refl)) h

-- ---- edits

-- the newest revision of a replica's path has an id that is UTF-8
abbrev IsTextual : Change → Type 0
IsTextual (New named) = Unit {0}
IsTextual (Replica run) = (r : Revision) → newest_of run ≡ Some r → IsText r

-- JSON text can carry the edit: its id, if it has one, its path and its body
abbrev EditIsCarried : Edit → Type 0
EditIsCarried e = ((s : List ℕ) → e.id ≡ Some s → IsUtf8 s) × IsTextual e.change × IsStoredTo 125 e.body

id_if : (b : Bool) (t : List ℕ) (id : Option (List ℕ)) (s : List ℕ) → IsUtf8 t → ok_or {T = Option (List ℕ)} {E = DocError} (cond b (Some (Some t)) None) BadId ≡ Ok id → id ≡ Some s → IsUtf8 s
id_if true t id s h e k = let same : t ≡ s = cc in subst IsUtf8 same h
id_if false t id s h e k = absurd cc

id_utf8 : (o : Option Value) (id : Option (List ℕ)) (s : List ℕ) → ((w : Value) → o ≡ Some w → IsStored w) → ok_or {E = DocError} (id_of o) BadId ≡ Ok id → id ≡ Some s → IsUtf8 s
id_utf8 None id s h e k = absurd cc
id_utf8 (Some (text t)) id s h e k = id_if (is_document_id t) t id s (h (text t) refl) e k
id_utf8 (Some null) id s h e k = absurd cc
id_utf8 (Some (flag b)) id s h e k = absurd cc
id_utf8 (Some (whole z)) id s h e k = absurd cc
id_utf8 (Some (list vs)) id s h e k = absurd cc
id_utf8 (Some (object ms)) id s h e k = absurd cc

rev_made : (b : Bool) (o : Option ℕ) (id : List ℕ) (r : Revision) → (b ≡ true → IsUtf8 id) → option_map {U = Option Revision} Some (cond b (option_map (λ n. (n, id)) o) None) ≡ Some (Some r) → IsText r
rev_made true (Some n) id r h e = subst IsText (the_some (n, id) r (the_some (Some (n, id)) (Some r) e)) (h refl)
rev_made true None id r h e = absurd cc
rev_made false o id r h e = absurd cc

abbrev is_hyphen : ℕ → Bool
is_hyphen b = b == 45

rev_given : (o : Option Value) (r : Revision) → rev_of o ≡ Some (Some r) → IsText r
rev_given None r e = absurd cc
rev_given (Some (text s)) r e =
    rev_made (list_any is_hyphen s && is_revision_id (after_first is_hyphen s)) (position_of (before_first is_hyphen s)) (after_first is_hyphen s) r
    (λ h. revision_id_utf8 (after_first is_hyphen s) (and_parts (list_any is_hyphen s) (is_revision_id (after_first is_hyphen s)) h).1) e
rev_given (Some null) r e = absurd cc
rev_given (Some (flag b)) r e = absurd cc
rev_given (Some (whole z)) r e = absurd cc
rev_given (Some (list vs)) r e = absurd cc
rev_given (Some (object ms)) r e = absurd cc

run_by : (b : Bool) (n : ℕ) (ids : List (List ℕ)) (run : List Revision) (r : Revision) → (b ≡ true → list_all is_revision_id ids ≡ true)
    → option_map {U = Option (List Revision)} Some (cond b (Some (run_from n ids)) None) ≡ Some (Some run) → newest_of run ≡ Some r → IsText r
run_by true n [] run r h e k =
    let p : [] ≡ run = the_some [] run (the_some (Some []) (Some run) e) in
    let q : newest_of [] ≡ Some r = ap newest_of p ∙ k in
    absurd cc
run_by true n (id ∷ ids) run r h e k =
    let p = the_some (run_from n (id ∷ ids)) run (the_some (Some (run_from n (id ∷ ids))) (Some run) e) in
    subst IsText (the_some (n, id) r (ap newest_of p ∙ k)) (revision_id_utf8 id (and_parts (is_revision_id id) (list_all is_revision_id ids) (h refl)).0)
run_by false n ids run r h e k = absurd cc

run_made : (n : ℕ) (ids : List (List ℕ)) (run : List Revision) (r : Revision) → option_map {U = Option (List Revision)} Some (run_of n ids) ≡ Some (Some run) → newest_of run ≡ Some r → IsText r
run_made n ids run r e k =
    run_by (nat_lt 0 (length ids) && (nat_le (length ids) n && list_all is_revision_id ids)) n ids run r
    (λ h. (and_parts (nat_le (length ids) n) (list_all is_revision_id ids) (and_parts (nat_lt 0 (length ids)) (nat_le (length ids) n && list_all is_revision_id ids) h).1).1) e k

run_if : (b : Bool) (n : ℕ) (o : Option (List (List ℕ))) (run : List Revision) (r : Revision) → option_map {U = Option (List Revision)} Some (cond b (option_and_then (run_of n) o) None) ≡ Some (Some run)
    → newest_of run ≡ Some r → IsText r
run_if true n (Some ids) run r e k = run_made n ids run r e k
run_if true n None run r e k = absurd cc
run_if false n o run r e k = absurd cc

run_given : (start ids : Option Value) (run : List Revision) (r : Revision) → option_map {U = Option (List Revision)} Some (run_at start ids) ≡ Some (Some run) → newest_of run ≡ Some r → IsText r
run_given (Some (whole (pos n))) (Some (list vs)) run r e k = run_if (nat_le n 4294967295) n (path_ids vs) run r e k
run_given (Some (whole (pos n))) None run r e k = absurd cc
run_given (Some (whole (pos n))) (Some null) run r e k = absurd cc
run_given (Some (whole (pos n))) (Some (flag b)) run r e k = absurd cc
run_given (Some (whole (pos n))) (Some (whole z)) run r e k = absurd cc
run_given (Some (whole (pos n))) (Some (text s)) run r e k = absurd cc
run_given (Some (whole (pos n))) (Some (object ms)) run r e k = absurd cc
run_given (Some (whole (negsuc n))) ids run r e k = absurd cc
run_given None ids run r e k = absurd cc
run_given (Some null) ids run r e k = absurd cc
run_given (Some (flag b)) ids run r e k = absurd cc
run_given (Some (text s)) ids run r e k = absurd cc
run_given (Some (list vs)) ids run r e k = absurd cc
run_given (Some (object ms)) ids run r e k = absurd cc

runs_given : (o : Option Value) (run : List Revision) (r : Revision) → revisions_of o ≡ Some (Some run) → newest_of run ≡ Some r → IsText r
runs_given None run r e k = absurd cc
runs_given (Some (object ms)) run r e k = run_given (get_member (codes "start") ms) (get_member (codes "ids") ms) run r e k
runs_given (Some null) run r e k = absurd cc
runs_given (Some (flag b)) run r e k = absurd cc
runs_given (Some (whole z)) run r e k = absurd cc
runs_given (Some (text s)) run r e k = absurd cc
runs_given (Some (list vs)) run r e k = absurd cc

change_by_parts : (rev : Option (Option Revision)) (run : Option (Option (List Revision))) (new_edit : Bool) (c : Change) → ((r : Revision) → rev ≡ Some (Some r) → IsText r)
    → ((path : List Revision) (r : Revision) → run ≡ Some (Some path) → newest_of path ≡ Some r → IsText r) → ok_or {E = DocError} (option_and_then (λ q. option_and_then (change_by new_edit q) run) rev) BadRev ≡ Ok c → IsTextual c
change_by_parts None run new_edit c f g e = absurd cc
change_by_parts (Some rev) None new_edit c f g e = absurd cc
change_by_parts (Some rev) (Some run) true c f g e = subst IsTextual (the_ok (New _) c e) tt
change_by_parts (Some rev) (Some (Some path)) false c f g e = subst IsTextual (the_ok (Replica path) c e) (λ r k. g path r refl k)
change_by_parts (Some (Some q)) (Some None) false c f g e = subst IsTextual (the_ok (Replica (q ∷ [])) c e) (λ r k. subst IsText (the_some q r k) (f q refl))
change_by_parts (Some None) (Some None) false c f g e = absurd cc

change_textual : (new_edit : Bool) (ms : Members) (c : Change) → ok_or {E = DocError} (change_given new_edit ms) BadRev ≡ Ok c → IsTextual c
change_textual new_edit ms c e =
    change_by_parts (rev_of (get_member (codes "_rev") ms)) (revisions_of (get_member (codes "_revisions") ms)) new_edit c (λ r k. rev_given (get_member (codes "_rev") ms) r k)
    (λ path r k n. runs_given (get_member (codes "_revisions") ms) path r k n) e

-- these members are among those
abbrev IsWithin : Members → Members → Type 0
IsWithin os ms = MembersAreStored os × (members_depth os ≤ members_depth ms) × ((k : List ℕ) → AllAfter k ms → AllAfter k os)

own_if : (b : Bool) (l : List ℕ) (v : Value) (ms os : Members) → MembersAreStored (member l v ms) → IsWithin os ms → IsWithin (cond b os (member l v os)) (member l v ms)
own_if true l v ms os h r = (r.0, omega (arith, r.1), λ k a. r.2 k a.1)
own_if false l v ms os h r = ((r.2 l h.0, h.1, h.2, r.0), omega (arith, r.1), λ k a. (a.0, r.2 k a.1))

own_within : (ms : Members) → MembersAreStored ms → IsWithin (own_members ms) ms
own_within no_members h = (tt, omega arith, λ k a. a)
own_within (member l v ms) h = own_if (is_reserved l) l v ms (own_members ms) h (own_within ms h.3)

-- what is read of a document after its mark, and after its id
abbrev with_change : Bool → Members → Bool → Option (List ℕ) → Change → Result Edit DocError
with_change new_edits ms deleted id change = Ok (record { id = id; change = change; deleted = deleted; body = object (own_members ms) })

abbrev with_id : Bool → Members → Bool → Option (List ℕ) → Result Edit DocError
with_id new_edits ms deleted id = ok_or (change_given new_edits ms) BadRev >>= (with_change new_edits ms deleted id)

abbrev with_mark : Bool → Members → Bool → Result Edit DocError
with_mark new_edits ms deleted = ok_or (id_of (get_member (codes "_id") ms)) BadId >>= (with_id new_edits ms deleted)

members_carried : (new_edits : Bool) (ms : Members) (e : Edit) → MembersAreStored ms → suc (members_depth ms) ≤ 125 → members_read new_edits ms ≡ Ok e → EditIsCarried e
members_carried new_edits ms e h d k =
    let deleted = then_ok (mark_read ms) (with_mark new_edits ms) e k in
    let id = then_ok (ok_or (id_of (get_member (codes "_id") ms)) BadId) (with_id new_edits ms deleted.0) e deleted.2 in
    let change = then_ok (ok_or (change_given new_edits ms) BadRev) (with_change new_edits ms deleted.0 id.0) e id.2 in
    let own = own_within ms h in
    subst EditIsCarried (the_ok (record { id = id.0; change = change.0; deleted = deleted.0; body = object (own_members ms) }) e change.2)
    (λ s m. id_utf8 (get_member (codes "_id") ms) id.0 s (λ w g. (got (codes "_id") ms w h g).0) id.1 m, change_textual new_edits ms change.0 change.1, (own.0, omega (arith, own.1, d)))

edit_carried : (new_edits : Bool) (v : Value) (e : Edit) → IsStoredTo 125 v → edit_of new_edits v ≡ Ok e → EditIsCarried e
edit_carried new_edits (object ms) e h k = members_carried new_edits ms e h.0 h.1 k
edit_carried new_edits null e h k = absurd cc
edit_carried new_edits (flag b) e h k = absurd cc
edit_carried new_edits (whole z) e h k = absurd cc
edit_carried new_edits (text s) e h k = absurd cc
edit_carried new_edits (list vs) e h k = absurd cc

-- JSON text can carry these edits
abbrev EditsAreCarried : List Edit → Type 0
EditsAreCarried es = AllByRecursion EditIsCarried es

edits_carried : (new_edits : Bool) (vs : Items) (es : List Edit) → AreStored vs → items_depth vs ≤ 125 → edits_of new_edits vs ≡ Ok es → EditsAreCarried es
edits_carried new_edits no_items es h d k = subst EditsAreCarried (the_ok [] es k) tt
edits_carried new_edits (item v vs) es h d k =
    let first = then_ok (edit_of new_edits v) (λ e. edits_of new_edits vs >>= (λ rs. Ok (e ∷ rs))) es k in
    let rest = then_ok (edits_of new_edits vs) (λ rs. Ok (first.0 ∷ rs)) es first.2 in
    subst EditsAreCarried (the_ok (first.0 ∷ rest.0) es rest.2)
    (edit_carried new_edits v first.0 (h.0, omega (arith, d)) first.1, edits_carried new_edits vs rest.0 h.1 (omega (arith, d)) rest.1)

-- an edit that has an id
abbrev IsNamed : Edit → Type 0
IsNamed e = EditIsCarried e × IsUtf8 (id_in e)

named_by : (n : ℕ) (e : Edit) (o : Option (List ℕ)) → e.id ≡ o → EditIsCarried e → IsNamed (cond (is_some o) e (record e { id = Some (number_text n) }))
named_by n e (Some s) same k = (k, subst IsUtf8 (sym (ap (λ o. unwrap_or o []) same)) (k.0 s same))
named_by n e None same k = ((λ s m. subst IsUtf8 (the_some (number_text n) s m) (number_utf8 n), k.1, k.2), number_utf8 n)

pub all_named : (n : ℕ) (es : List Edit) → EditsAreCarried es → AllByRecursion IsNamed (numbered n es)
all_named n [] h = tt
all_named n (e ∷ es) h = subst (AllByRecursion IsNamed) (sym (numbered_cons n e es)) (named_by (number_after n) e e.id refl h.0, all_named (last_after n e) es h.1)

-- ---- histories

-- JSON text can carry the accepted path: its newest revision and its body
abbrev PathIsCarried : Path → Type 0
PathIsCarried p = IsStoredTo 125 p.body × ((r : Revision) → newest_of p.revs ≡ Some r → IsText r)

abbrev PathsAreCarried : Paths → Type 0
PathsAreCarried h = AllByRecursion PathIsCarried h

-- JSON text can carry each document: its id and its paths
pub record HistoriesAreCarried (hs : Histories) : Type 0 where
  pub each : (id : List ℕ) (h : Paths) → get hs id ≡ Some h → IsUtf8 id × PathsAreCarried h

with_one : (h : Paths) (p : Path) → PathsAreCarried h → PathIsCarried p → PathsAreCarried (h ++ p ∷ [])
with_one [] p hs o = (o, tt)
with_one (q ∷ h) p hs o = (hs.0, with_one h p hs.1 o)

unless_text : (o : Option EditRefusal) (x a : Accepted) → IsText x.0 → unless o x ≡ Ok a → IsText a.0
unless_text None x a h e = subst (λ (y : Accepted). IsText y.0) (the_ok x a e) h
unless_text (Some refused) x a h e = absurd cc

replica_if : (b : Bool) (r : Revision) (rs : List Revision) (x : EditRefusal) (a : Accepted) → IsText r → cond b (Ok (r, rs)) (Err x) ≡ Ok a → IsText a.0
replica_if true r rs x a h e = subst (λ (y : Accepted). IsText y.0) (the_ok (r, rs) a e) h
replica_if false r rs x a h e = absurd cc

replica_text : (h : Paths) (run : List Revision) (a : Accepted) → ((r : Revision) → newest_of run ≡ Some r → IsText r) → replicated h run ≡ Ok a → IsText a.0
replica_text h [] a t e = absurd cc
replica_text h (r ∷ rs) a t e = replica_if (fits h (r ∷ rs)) r rs _ a (t r refl) e

accepted_text : (h : Paths) (deleted : Bool) (body : Value) (c : Change) (a : Accepted) → IsTextual c → accepted_of h deleted body c ≡ Ok a → IsText a.0
accepted_text h deleted body (New named) a t e =
    let id = digest_of deleted (base_of h named) body in
    unless_text (refusal_over h named id) (path_over (base_of h named) id) a (hex_utf8 _) e
accepted_text h deleted body (Replica run) a t e = replica_text h run a t e

after_by : (h : Paths) (e : Edit) (r : Result Accepted EditRefusal) → ((a : Accepted) → r ≡ Ok a → IsText a.0) → PathsAreCarried h → IsStoredTo 125 e.body → PathsAreCarried (history_after h e r)
after_by h e (Ok a) f hs k = with_one h (record { revs = a.0 ∷ a.1; deleted = e.deleted; body = e.body }) hs (k, λ r n. subst IsText (the_some a.0 r n) (f a refl))
after_by h e (Err x) f hs k = hs

edited_carried : (h : Paths) (e : Edit) → PathsAreCarried h → EditIsCarried e → PathsAreCarried (edited h e)
edited_carried h e hs k = after_by h e (accepted_by h e) (λ a m. accepted_text h e.deleted e.body e.change a k.1 m) hs k.2

at_carried : (o : Option Paths) → ((h : Paths) → o ≡ Some h → PathsAreCarried h) → PathsAreCarried (unwrap_or o [])
at_carried None each = tt
at_carried (Some h) each = each h refl

put_by : (b : Bool) (q k : List ℕ) (new : Paths) (o : Option Paths) (h : Paths) → (b ≡ true → q ≡ k) → cond b (Some new) o ≡ Some h → IsUtf8 k × PathsAreCarried new
    → ((h : Paths) → o ≡ Some h → IsUtf8 q × PathsAreCarried h) → IsUtf8 q × PathsAreCarried h
put_by true q k new o h same e n each = (subst IsUtf8 (sym (same refl)) n.0, subst PathsAreCarried (the_some new h e) n.1)
put_by false q k new o h same e n each = each h e

same_id : (q k : List ℕ) → eq_by_cmp bytes_cmp q k ≡ true → q ≡ k
same_id q k h = (bytes_eq-Decides q k).0 (sym (is_eq-slice_cmp q k) ∙ h)

put_carried : (hs : Histories) (e : Edit) (r : Result Revision EditRefusal) → HistoriesAreCarried hs → IsNamed e → HistoriesAreCarried (history_put hs e r)
put_carried hs e (Ok r) had k = record {
  each = λ q h at.
      let new = edited (history_at hs (id_in e)) e in
      put_by (eq_by_cmp bytes_cmp q (id_in e)) q (id_in e) new (get hs q) h (same_id q (id_in e)) (sym (get-insert nat_list_cmp_total hs (id_in e) new q) ∙ at)
      (k.1, edited_carried (history_at hs (id_in e)) e (at_carried (get hs (id_in e)) (λ p m. (had.each (id_in e) p m).1)) k.0) (had.each q);
}
put_carried hs e (Err x) had k = had

pub after_carried : (hs : Histories) (es : List Edit) → HistoriesAreCarried hs → AllByRecursion IsNamed es → HistoriesAreCarried (after_edits hs es)
after_carried hs [] had k = had
after_carried hs (e ∷ es) had k = after_carried (after_edit hs e) es (put_carried hs e (outcome_in hs e) had k.0) k.1

-- there is no document at first
pub none_carried : HistoriesAreCarried finite.empty
none_carried = record { each = λ id h at. none_of (get finite.empty id) id h (get-empty bytes_cmp id) at }
  where
    none_of : (o : Option Paths) (id : List ℕ) (h : Paths) → o ≡ None → o ≡ Some h → IsUtf8 id × PathsAreCarried h
    none_of None id h e f = absurd cc
    none_of (Some x) id h e f = absurd cc

-- ---- the winner

marked_if : (b : Bool) (r x : Revision) (d : Bool) (body : Value) (o : Option (Bool × Value)) (m : Bool × Value) → (b ≡ true → r ≡ x) → IsStoredTo 125 body × IsText x
    → (o ≡ Some m → IsStoredTo 125 m.1 × IsText r) → cond b (Some (d, body)) o ≡ Some m → IsStoredTo 125 m.1 × IsText r
marked_if true r x d body o m same good rest e = (subst (λ (y : Bool × Value). IsStoredTo 125 y.1) (the_some (d, body) m e) good.0, subst IsText (sym (same refl)) good.1)
marked_if false r x d body o m same good rest e = rest e

marked_by : (newest : Option Revision) (r : Revision) (d : Bool) (body : Value) (o : Option (Bool × Value)) (m : Bool × Value) → IsStoredTo 125 body → ((x : Revision) → newest ≡ Some x → IsText x)
    → (o ≡ Some m → IsStoredTo 125 m.1 × IsText r) → cond (is_this r newest) (Some (d, body)) o ≡ Some m → IsStoredTo 125 m.1 × IsText r
marked_by None r d body o m k f rest e = rest e
marked_by (Some x) r d body o m k f rest e = marked_if (same_revision r x) r x d body o m (same_is r x) (k, f x refl) rest e

marked_carried : (r : Revision) (h : Paths) (m : Bool × Value) → PathsAreCarried h → marked r h ≡ Some m → IsStoredTo 125 m.1 × IsText r
marked_carried r [] m hs e = absurd cc
marked_carried r (p ∷ h) m hs e = marked_by (newest_of p.revs) r p.deleted p.body (marked r h) m hs.0.0 hs.0.1 (λ k. marked_carried r h m hs.1 k) e

leaf_if : (b : Bool) (o : Option (Bool × Value)) (m : Bool × Value) (r : Revision) → (o ≡ Some m → IsStoredTo 125 m.1 × IsText r) → cond b None o ≡ Some m → IsStoredTo 125 m.1 × IsText r
leaf_if true o m r f e = absurd cc
leaf_if false o m r f e = f e

winner_carried : (h : Paths) (l : Leaf) → PathsAreCarried h → winner_of h ≡ Some l → IsStoredTo 125 l.body × IsText l.rev
winner_carried h l hs e =
    leaf_if (has_child l.rev (all_links h)) (marked l.rev h) (l.deleted, l.body) l.rev (λ k. marked_carried l.rev h (l.deleted, l.body) hs k) (winner_is_best h l e).0

-- ---- what is served

form_carried : (id r : List ℕ) (body : Value) → IsUtf8 id → IsUtf8 r → IsStoredTo 125 body → IsStoredTo 125 (with_member (codes "_id") (text id) (with_member (codes "_rev") (text r) body))
form_carried id r (object ms) i t h = (
  put_stored (codes "_id") (text id) (put (codes "_rev") (text r) ms) (put_stored (codes "_rev") (text r) ms h.0 (IsUtf8-are_ascii (codes "_rev") refl) t) (IsUtf8-are_ascii (codes "_id") refl) i,
  omega (arith, put_depth (codes "_id") (text id) (put (codes "_rev") (text r) ms), put_depth (codes "_rev") (text r) ms, h.1),
)
form_carried id r null i t h = h
form_carried id r (flag b) i t h = h
form_carried id r (whole z) i t h = h
form_carried id r (text s) i t h = h
form_carried id r (list vs) i t h = h

shown_carried : (b : Bool) (id : List ℕ) (l : Leaf) (form : Value) → IsUtf8 id → IsStoredTo 125 l.body × IsText l.rev → cond b None (Some (served_form id l)) ≡ Some form → IsStoredTo 125 form
shown_carried true id l form i g e = absurd cc
shown_carried false id l form i g e = subst (IsStoredTo 125) (the_some (served_form id l) form e) (form_carried id (revision_text l.rev) l.body i (revision_utf8 l.rev g.1) g.0)

served_carried : (id : List ℕ) (o : Option Leaf) (form : Value) → IsUtf8 id → ((l : Leaf) → o ≡ Some l → IsStoredTo 125 l.body × IsText l.rev) → option_and_then (shown_leaf id) o ≡ Some form → IsStoredTo 125 form
served_carried id None form i f e = absurd cc
served_carried id (Some l) form i f e = shown_carried l.deleted id l form i (f l refl) e

-- JSON text can carry the document: its id and its form, which nests at most 125 deep
abbrev pub IsCarried : Candidate → Type 0
IsCarried c = IsUtf8 c.id × IsStoredTo 125 c.form

each_carried : (hs : Histories) → HistoriesAreCarried hs → (cs : List Candidate) → AllByRecursion (IsKnown hs) cs → AllByRecursion IsCarried cs
each_carried hs had [] k = tt
each_carried hs had (c ∷ cs) k =
    let kept = had.each c.id c.history k.0.0 in
    ((kept.0, served_carried c.id (winner_of c.history) c.form kept.0 (λ l e. winner_carried c.history l kept.1 e) k.0.1), each_carried hs had cs k.1)

-- JSON text can carry each document that is served
pub candidates_carried : (hs : Histories) → HistoriesAreCarried hs → AllByRecursion IsCarried (candidates_of hs)
candidates_carried hs had = each_carried hs had (candidates_of hs) (all_known hs)

-- ---- the edits of a bulk

objects_are : (b new_edits : Bool) (vs : Items) (x : Bulk) → cond b (Some (record { new_edits = new_edits; documents = vs })) None ≡ Some x → vs ≡ x.documents
objects_are true new_edits vs x e = ap (λ (y : Bulk). y.documents) (the_some (record { new_edits = new_edits; documents = vs }) x e)
objects_are false new_edits vs x e = absurd cc

docs_by : (vs : Items) (new_edits : Option Value) (x : Bulk) → shaped (Some (list vs)) new_edits ≡ Some x → vs ≡ x.documents
docs_by vs None x e = objects_are (are_objects vs) true vs x e
docs_by vs (Some (flag b)) x e = objects_are (are_objects vs) b vs x e
docs_by vs (Some null) x e = absurd cc
docs_by vs (Some (whole z)) x e = absurd cc
docs_by vs (Some (text s)) x e = absurd cc
docs_by vs (Some (list ws)) x e = absurd cc
docs_by vs (Some (object ms)) x e = absurd cc

docs_carried : (docs new_edits : Option Value) (x : Bulk) → ((w : Value) → docs ≡ Some w → IsStoredTo 126 w) → shaped docs new_edits ≡ Some x → AreStored x.documents × (items_depth x.documents ≤ 125)
docs_carried (Some (list vs)) new_edits x h e =
    let p = h (list vs) refl in
    subst (λ (ws : Items). AreStored ws × (items_depth ws ≤ 125)) (docs_by vs new_edits x e) (p.0, omega (arith, p.1))
docs_carried None new_edits x h e = absurd cc
docs_carried (Some null) new_edits x h e = absurd cc
docs_carried (Some (flag b)) new_edits x h e = absurd cc
docs_carried (Some (whole z)) new_edits x h e = absurd cc
docs_carried (Some (text s)) new_edits x h e = absurd cc
docs_carried (Some (object ms)) new_edits x h e = absurd cc

bulk_carried : (v : Value) (x : Bulk) → IsStoredTo 127 v → bulk_of v ≡ Some x → AreStored x.documents × (items_depth x.documents ≤ 125)
bulk_carried v x h e =
    docs_carried (member_of (codes "docs") v) (member_of (codes "new_edits") v) x (λ w m. let p = member_got (codes "docs") v w h.0 m in (p.0, omega (arith, p.1, h.1))) e

refused_or : (new_edits : Bool) (r : Result (List Edit) DocError) (x : BulkEdits) → ((es : List Edit) → r ≡ Ok es → EditsAreCarried es) → edits_or_refusal new_edits r ≡ Ok x → EditsAreCarried x.edits
refused_or new_edits (Ok es) x h e = subst (λ (y : BulkEdits). EditsAreCarried y.edits) (the_ok (record { new_edits = new_edits; edits = es }) x e) (h es refl)
refused_or new_edits (Err y) x h e = absurd cc

read_by : (o : Option Bulk) (x : BulkEdits) → ((b : Bulk) → o ≡ Some b → AreStored b.documents × (items_depth b.documents ≤ 125)) → edits_read o ≡ Ok x → EditsAreCarried x.edits
read_by None x h e = absurd cc
read_by (Some b) x h e =
    let p = h b refl in
    refused_or b.new_edits (edits_of b.new_edits b.documents) x (λ es k. edits_carried b.new_edits b.documents es p.0 p.1 k) e

-- JSON text can carry the edits of a bulk whose body the code can hold, and which nests at most 127 deep
pub read_carried : (v : Value) (x : BulkEdits) → IsStoredTo 127 v → bulk_read v ≡ Ok x → EditsAreCarried x.edits
read_carried v x h e = read_by (bulk_of v) x (λ b k. bulk_carried v b h k) e
