-- Documents are served with their own ids.
use denote.Ref.{Bor}
use Rattle.std.proofs.Common.{◌≡◌, ℕ, Bool, true, false, List, [], ◌∷◌, Ordering, Less, Equal, Greater, Option, Some, None, IfSome, codes, cond, is_eq, is_some, map, nat_cmp, option_and_then, option_map, refl, ap, sym, ◌∙◌, subst}
use Rattle.std.proofs.lemmas.Cmp.{nat_list_cmp_total, tied_itself}
use Rattle.std.specs.Cmp.Lexicographic.{slice_cmp}
use Rattle.std.specs.FinMap.{find, get-from_entries}
use Rattle.std.specs.List.{filter}
use Rattle.std.specs.Ordering.{match_ordering}
use Rattle.mg_doc.specs.Served.{served_form}
use Rattle.mg_pages.specs.Identified.{id_against}
use Rattle.mg_pages.specs.Order.{first_of_list, found}
use Rattle.mg_path.specs.Part.{part_of}
use Rattle.mg_revtree.specs.History.{Leaf}
use Rattle.mg_revtree.specs.Revision.{revision_text}
use Rattle.mg_value.specs.Value.{Value, null, flag, whole, text, list, object, Members, no_members, member, no_items, item, get_member, member_of, put, with_member}
use Rattle.mg_value.specs.View.{items_of}
use Rattle.mg_shard.specs.Documents.{KeptDocument, kept_entry, form_at, form_of, id_bytes, kept_of, kept_documents}
use Rattle.mg_shard.specs.Own.{HasOwnId, IsServedOwn, id_columns, form_in, has_own_id}
use Rattle.mg_shard.specs.Rows.{row_key}
use Rattle.mg_shard.specs.declared.document.Document.{Document}
use Rattle.mg_shard.specs.declared.served.Served.{Served}
use Rattle.mg_shard.specs.declared.served.Served.TheVariants.{Deleted, WithId, WithoutId}
use Rattle.mg_shard.proofs.Shown.{bytes_cmp, bytes_exact}
use Rattle.mg_shard.proofs.Standing.{tied}

-- ---- the form of a leaf

put_step : (k l : List ℕ) (v w : Value) (ms : Members) (o : Ordering) → slice_cmp nat_cmp k l ≡ o → get_member k (put k v ms) ≡ Some v
    → get_member k (match_ordering o (member k v (member l w ms)) (member l v ms) (member l w (put k v ms))) ≡ Some v
put_step k l v w ms Less e rest = ap (λ r. match_ordering r (get_member k (member l w ms)) (Some v) (get_member k (member l w ms))) (tied_itself nat_list_cmp_total k)
put_step k l v w ms Equal e rest = ap (λ r. match_ordering r (get_member k ms) (Some v) (get_member k ms)) e
put_step k l v w ms Greater e rest = ap (λ r. match_ordering r (get_member k (put k v ms)) (Some w) (get_member k (put k v ms))) e ∙ rest

get-put : (k : List ℕ) (v : Value) (ms : Members) → get_member k (put k v ms) ≡ Some v
get-put k v no_members = ap (λ r. match_ordering r (get_member k no_members) (Some v) (get_member k no_members)) (tied_itself nat_list_cmp_total k)
get-put k v (member l w ms) = put_step k l v w ms (slice_cmp nat_cmp k l) refl (get-put k v ms)

same_part : (p q : Value) (o : Option Value) → o ≡ Some p → option_and_then (part_of []) o ≡ Some q → q ≡ p
same_part p q None e f = absurd cc
same_part p q (Some r) e f = cc

own_with : (id : List ℕ) (v : Value) → HasOwnId id (with_member (codes "_id") (text id) v)
own_with id null = λ part h. absurd cc
own_with id (flag b) = λ part h. absurd cc
own_with id (whole z) = λ part h. absurd cc
own_with id (text s) = λ part h. absurd cc
own_with id (list vs) = λ part h. absurd cc
own_with id (object ms) = λ part h. same_part (text id) part (get_member (codes "_id") (put (codes "_id") (text id) ms)) (get-put (codes "_id") (text id) ms) h

pub own_leaf : (id : List ℕ) (l : Leaf) (form : Value) → form ≡ served_form id l → HasOwnId id form
own_leaf id l form e = subst (λ (v : Value). HasOwnId id v) (sym e) (own_with id (with_member (codes "_rev") (text (revision_text l.rev)) l.body))

-- ---- what is made of it

found_part : (id : List ℕ) (o : Option Value) → ((part : Value) → option_and_then (part_of []) o ≡ Some part → part ≡ text id) → is_some o ≡ true → o ≡ Some (text id)
found_part id None own e = absurd cc
found_part id (Some part) own e = ap Some (own part refl)

pub own_found_in : (id : List ℕ) (form : Value) → HasOwnId id form → is_some (member_of (codes "_id") form) ≡ true → member_of (codes "_id") form ≡ Some (text id)
own_found_in id null own e = absurd cc
own_found_in id (flag b) own e = absurd cc
own_found_in id (whole z) own e = absurd cc
own_found_in id (text s) own e = absurd cc
own_found_in id (list vs) own e = absurd cc
own_found_in id (object ms) own e = found_part id (get_member (codes "_id") ms) own e

pub none_found : (o : Option Value) → is_some o ≡ false → o ≡ None
none_found None e = refl
none_found (Some v) e = absurd cc

some_is : {X : Type 0} (x y : X) → Some x ≡ Some y → x ≡ y
some_is x y e = cc

-- if a leaf's form was made for this id, its `_id` is this id
pub own_of_leaf : (id : List ℕ) (o : Option Value) (form : Value) → IfSome o (λ f. (l : Leaf) × (f ≡ served_form id l)) → o ≡ Some form → HasOwnId id form
own_of_leaf id None form h is = absurd cc
own_of_leaf id (Some f) form h is = own_leaf id h.0 form (sym (some_is f form is) ∙ h.1)

-- ---- the `_id` of the form

one_part : (o : Option Value) → option_map items_of (option_and_then (λ part. option_map (λ parts. part ∷ parts) (Some [])) (option_and_then (part_of []) o)) ≡ option_map (λ part. item part no_items) o
one_part None = refl
one_part (Some v) = refl

pub key-member : (form : Value) → row_key id_columns form ≡ option_map (λ part. item part no_items) (member_of (codes "_id") form)
key-member null = refl
key-member (flag b) = refl
key-member (whole z) = refl
key-member (text s) = refl
key-member (list vs) = refl
key-member (object ms) = one_part (get_member (codes "_id") ms)

member_key : (form : Value) (o : Option Value) → member_of (codes "_id") form ≡ o → option_map (λ part. item part no_items) o ≡ row_key id_columns form
member_key form o e = ap (option_map (λ part. item part no_items)) (sym e) ∙ sym (key-member form)

served_own : (id : List ℕ) (s : Served) → IsServedOwn id s → has_own_id s ≡ true → Some (item (text id) no_items) ≡ option_and_then (row_key id_columns) (form_in s)
served_own id Deleted own e = absurd cc
served_own id (WithId form) own e = member_key form (Some (text id)) own
served_own id (WithoutId form) own e = absurd cc

served_none : (id : List ℕ) (s : Served) → IsServedOwn id s → has_own_id s ≡ false → None ≡ option_and_then (row_key id_columns) (form_in s)
served_none id Deleted own e = refl
served_none id (WithId form) own e = absurd cc
served_none id (WithoutId form) own e = member_key form None own

-- the key of a document in the list of all documents, if it has one
pub key_own : (d : Document) → has_own_id d.served ≡ true → Some (item (text (id_bytes d)) no_items) ≡ option_and_then (row_key id_columns) (form_of d)
key_own d e = served_own (id_bytes d) d.served d.own_id e

pub key_none : (d : Document) → has_own_id d.served ≡ false → None ≡ option_and_then (row_key id_columns) (form_of d)
key_none d e = served_none (id_bytes d) d.served d.own_id e

-- ---- the documents of a shard

-- a form whose `_id` is this id, or that has no `_id`, has its own id
part_none : (id : List ℕ) (o : Option Value) (part : Value) → o ≡ None → option_and_then (part_of []) o ≡ Some part → part ≡ text id
part_none id None part e f = absurd cc
part_none id (Some v) part e f = absurd cc

own_with_id : (id : List ℕ) (form : Value) → member_of (codes "_id") form ≡ Some (text id) → HasOwnId id form
own_with_id id null e = λ part h. absurd cc
own_with_id id (flag b) e = λ part h. absurd cc
own_with_id id (whole z) e = λ part h. absurd cc
own_with_id id (text s) e = λ part h. absurd cc
own_with_id id (list vs) e = λ part h. absurd cc
own_with_id id (object ms) e = λ part h. same_part (text id) part (get_member (codes "_id") ms) e h

own_without_id : (id : List ℕ) (form : Value) → member_of (codes "_id") form ≡ None → HasOwnId id form
own_without_id id null e = λ part h. absurd cc
own_without_id id (flag b) e = λ part h. absurd cc
own_without_id id (whole z) e = λ part h. absurd cc
own_without_id id (text s) e = λ part h. absurd cc
own_without_id id (list vs) e = λ part h. absurd cc
own_without_id id (object ms) e = λ part h. part_none id (get_member (codes "_id") ms) part e h

own_served : (id : List ℕ) (s : Served) (form : Value) → IsServedOwn id s → form_in s ≡ Some form → HasOwnId id form
own_served id Deleted form own e = absurd cc
own_served id (WithId f) form own e = subst (λ (v : Value). HasOwnId id v) (some_is f form e) (own_with_id id f own)
own_served id (WithoutId f) form own e = subst (λ (v : Value). HasOwnId id v) (some_is f form e) (own_without_id id f own)

pub own_document : (d : Document) (form : Value) → form_of d ≡ Some form → HasOwnId (id_bytes d) form
own_document d form e = own_served (id_bytes d) d.served form d.own_id e

own_step : (q : List ℕ) (d : Document) (form : Value) (o : Option KeptDocument) (b : Bool) → is_eq (bytes_cmp q (id_bytes d)) ≡ b → (option_and_then (λ k. k.1) o ≡ Some form → HasOwnId q form)
    → option_and_then (λ k. k.1) (cond b (Some (kept_of d)) o) ≡ Some form → HasOwnId q form
own_step q d form o true is rest e = subst (λ (i : List ℕ). HasOwnId i form) (sym (bytes_exact q (id_bytes d) (tied (bytes_cmp q (id_bytes d)) is))) (own_document d form e)
own_step q d form o false is rest e = rest e

own_found : (q : List ℕ) (ds : List Document) (form : Value) → option_and_then (λ k. k.1) (find bytes_cmp q (map kept_entry ds)) ≡ Some form → HasOwnId q form
own_found q [] form e = absurd cc
own_found q (d ∷ ds) form e = own_step q d form (find bytes_cmp q (map kept_entry ds)) (is_eq (bytes_cmp q (id_bytes d))) refl (own_found q ds form) e

-- a document that is served with an `_id` is served with its own
pub own_shown : (q : List ℕ) (ds : List Document) (form : Value) → form_at (kept_documents ds) q ≡ Some form → HasOwnId q form
own_shown q ds form e = own_found q ds form (ap (option_and_then (λ (k : KeptDocument). k.1)) (sym (get-from_entries nat_list_cmp_total (map kept_entry ds) q)) ∙ e)

-- ---- the document that a look-up of an id finds has this id

first_is : (q : List ℕ) (d x : Document) (ds : List Document) (b : Bool) → is_eq (bytes_cmp q (id_bytes d)) ≡ b → (first_of_list ds ≡ Some x → id_bytes x ≡ q)
    → first_of_list (cond b (d ∷ ds) ds) ≡ Some x → id_bytes x ≡ q
first_is q d x ds true is rest e = let same : d ≡ x = cc in ap id_bytes (sym same) ∙ sym (bytes_exact q (id_bytes d) (tied (bytes_cmp q (id_bytes d)) is))
first_is q d x ds false is rest e = rest e

pub found_id : (q : List ℕ) (ds : List Document) (x : Document) → found (id_against id_bytes q) ds ≡ Some x → id_bytes x ≡ q
found_id q [] x e = absurd cc
found_id q (d ∷ ds) x e = first_is q d x (filter (λ y. is_eq (bytes_cmp q (id_bytes y))) ds) (is_eq (bytes_cmp q (id_bytes d))) refl (found_id q ds x) e

-- a lent document that a look-up finds has the id too
pub found_through : (q : List ℕ) (ds : List Document) (r : Option (Bor Document)) → option_map (λ d. d.now) r ≡ found (id_against id_bytes q) ds → IfSome r (λ d. id_bytes d.now ≡ q)
found_through q ds None e = tt
found_through q ds (Some d) e = found_id q ds d.now (sym e)
