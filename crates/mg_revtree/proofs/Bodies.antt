-- The body that a form has is the form without its id and its revision.
use Rattle.std.proofs.Common.{◌≡◌, ℕ, List, length, arith, Ordering, Less, Equal, Greater, Option, Some, None, codes, nat_cmp, refl, ap, sym, ◌∙◌, subst}
use Rattle.std.proofs.lemmas.Cmp.{nat_list_cmp_total, tied_itself}
use Rattle.std.specs.Cmp.Lexicographic.{slice_cmp}
use Rattle.std.specs.FinMap.{IsAntisymmetric, nat_cmp-IsAntisymmetric, slice_cmp-IsAntisymmetric}
use Rattle.std.specs.Ordering.{match_ordering}
use Rattle.mg_value.specs.Value.{Value, null, flag, whole, text, list, object, Members, no_members, member, member_list, get_member, member_of, put, without}
use Rattle.mg_revtree.specs.Body.{as_form, bare, IsBare, IsFormOf}

-- ---- the member that was put in

put_step : (k l : List ℕ) (v w : Value) (ms : Members) (o : Ordering) → slice_cmp nat_cmp k l ≡ o → get_member k (put k v ms) ≡ Some v
    → get_member k (match_ordering o (member k v (member l w ms)) (member l v ms) (member l w (put k v ms))) ≡ Some v
put_step k l v w ms Less e rest = ap (λ r. match_ordering r (get_member k (member l w ms)) (Some v) (get_member k (member l w ms))) (tied_itself nat_list_cmp_total k)
put_step k l v w ms Equal e rest = ap (λ r. match_ordering r (get_member k ms) (Some v) (get_member k ms)) e
put_step k l v w ms Greater e rest = ap (λ r. match_ordering r (get_member k (put k v ms)) (Some w) (get_member k (put k v ms))) e ∙ rest

get-put : (k : List ℕ) (v : Value) (ms : Members) → get_member k (put k v ms) ≡ Some v
get-put k v no_members = ap (λ r. match_ordering r (get_member k no_members) (Some v) (get_member k no_members)) (tied_itself nat_list_cmp_total k)
get-put k v (member l w ms) = put_step k l v w ms (slice_cmp nat_cmp k l) refl (get-put k v ms)

-- ---- another member

-- a look-up that passes a member of another name
passed : (o : Ordering) (k l : List ℕ) (w : Value) (ms : Members) → slice_cmp nat_cmp k l ≡ o → (o ≡ Equal → ⊥) → get_member k (member l w ms) ≡ get_member k ms
passed Less k l w ms e other = ap (λ r. match_ordering r (get_member k ms) (Some w) (get_member k ms)) e
passed Equal k l w ms e other = absurd (other refl)
passed Greater k l w ms e other = ap (λ r. match_ordering r (get_member k ms) (Some w) (get_member k ms)) e

same_text : IsAntisymmetric (slice_cmp nat_cmp)
same_text = slice_cmp-IsAntisymmetric nat_cmp-IsAntisymmetric

other_step : (o : Ordering) (k l m : List ℕ) (v w : Value) (ms : Members) → slice_cmp nat_cmp l m ≡ o → (slice_cmp nat_cmp k l ≡ Equal → ⊥) → get_member k (put l v ms) ≡ get_member k ms
    → get_member k (match_ordering o (member l v (member m w ms)) (member m v ms) (member m w (put l v ms))) ≡ get_member k (member m w ms)
other_step Less k l m v w ms e other rest = passed (slice_cmp nat_cmp k l) k l v (member m w ms) refl other
other_step Equal k l m v w ms e other rest =
    let away : slice_cmp nat_cmp k m ≡ Equal → ⊥ = subst (λ x. slice_cmp nat_cmp k x ≡ Equal → ⊥) (same_text l m e) other in
    passed (slice_cmp nat_cmp k m) k m v ms refl away ∙ sym (passed (slice_cmp nat_cmp k m) k m w ms refl away)
other_step Greater k l m v w ms e other rest = ap (λ o. match_ordering (slice_cmp nat_cmp k m) o (Some w) o) rest

get-put-other : (k l : List ℕ) (v : Value) (ms : Members) → (slice_cmp nat_cmp k l ≡ Equal → ⊥) → get_member k (put l v ms) ≡ get_member k ms
get-put-other k l v no_members other = passed (slice_cmp nat_cmp k l) k l v no_members refl other
get-put-other k l v (member m w ms) other = other_step (slice_cmp nat_cmp l m) k l m v w ms refl other (get-put-other k l v ms other)

-- ---- the member taken out again

out_step : (o : Ordering) (k l : List ℕ) (v w : Value) (ms : Members) → slice_cmp nat_cmp k l ≡ o → match_ordering o (get_member k ms) (Some w) (get_member k ms) ≡ None
    → (get_member k ms ≡ None → without k (put k v ms) ≡ ms)
    → without k (match_ordering o (member k v (member l w ms)) (member l v ms) (member l w (put k v ms))) ≡ member l w ms
out_step Less k l v w ms e none rest = ap (λ r. match_ordering r (member k v (without k (member l w ms))) (member l w ms) (member k v (without k (member l w ms)))) (tied_itself nat_list_cmp_total k)
out_step Equal k l v w ms e none rest = absurd cc
out_step Greater k l v w ms e none rest = ap (λ r. match_ordering r (member l w (without k (put k v ms))) (put k v ms) (member l w (without k (put k v ms)))) e ∙ ap (λ x. member l w x) (rest none)

without-put : (k : List ℕ) (v : Value) (ms : Members) → get_member k ms ≡ None → without k (put k v ms) ≡ ms
without-put k v no_members none = ap (λ r. match_ordering r (member k v (without k no_members)) no_members (member k v (without k no_members))) (tied_itself nat_list_cmp_total k)
without-put k v (member l w ms) none = out_step (slice_cmp nat_cmp k l) k l v w ms refl none (without-put k v ms)

-- ---- forms

id_is_no_rev : slice_cmp nat_cmp (codes "_id") (codes "_rev") ≡ Equal → ⊥
id_is_no_rev e = absurd cc

rev_is_no_id : slice_cmp nat_cmp (codes "_rev") (codes "_id") ≡ Equal → ⊥
rev_is_no_id e = absurd cc

-- a body that has neither `_id` nor `_rev` is its form without these
pub bare-form : (id rev body : Value) → IsBare body → bare (as_form id rev body) ≡ body
bare-form id rev null h = refl
bare-form id rev (flag b) h = refl
bare-form id rev (whole z) h = refl
bare-form id rev (text s) h = refl
bare-form id rev (list vs) h = refl
bare-form id rev (object ms) h =
    let none : get_member (codes "_id") (put (codes "_rev") rev ms) ≡ None = get-put-other (codes "_id") (codes "_rev") rev ms id_is_no_rev ∙ h.0 in
    ap (λ x. object (without (codes "_rev") x)) (without-put (codes "_id") id (put (codes "_rev") rev ms) none)
    ∙ ap object (without-put (codes "_rev") rev ms h.1)

-- a form of such a body, without these, is that body
pub shows : (body form : Value) → IsFormOf body form → IsBare body → bare form ≡ body
shows body form is h = ap bare is.2 ∙ bare-form is.0 is.1 body h

-- ---- the form that is already there

same_some : (v w : Value) (o : Option Value) → o ≡ Some v → o ≡ Some w → v ≡ w
same_some v w o e f = cc

same_parts : (i r id rev : Value) (ms : Members) → get_member (codes "_id") (put (codes "_id") i (put (codes "_rev") r ms)) ≡ Some id
    → get_member (codes "_rev") (put (codes "_id") i (put (codes "_rev") r ms)) ≡ Some rev
    → as_form i r (object ms) ≡ as_form id rev (object ms)
same_parts i r id rev ms e f =
    let same_id : i ≡ id = same_some i id _ (get-put (codes "_id") i (put (codes "_rev") r ms)) e in
    let revised : get_member (codes "_rev") (put (codes "_id") i (put (codes "_rev") r ms)) ≡ Some r =
    get-put-other (codes "_rev") (codes "_id") i (put (codes "_rev") r ms) rev_is_no_id ∙ get-put (codes "_rev") r ms in
    let same_rev : r ≡ rev = same_some r rev _ revised f in
    ap (λ x. as_form x r (object ms)) same_id ∙ ap (λ x. as_form id x (object ms)) same_rev

parts_are : (i r id rev body : Value) → member_of (codes "_id") (as_form i r body) ≡ Some id → member_of (codes "_rev") (as_form i r body) ≡ Some rev
    → as_form i r body ≡ as_form id rev body
parts_are i r id rev null e f = refl
parts_are i r id rev (flag b) e f = refl
parts_are i r id rev (whole z) e f = refl
parts_are i r id rev (text s) e f = refl
parts_are i r id rev (list vs) e f = refl
parts_are i r id rev (object ms) e f = same_parts i r id rev ms e f

-- a form of the body with this id and this revision is the form that is made of the three
pub is_made : (id rev body form : Value) → IsFormOf body form → member_of (codes "_id") form ≡ Some id → member_of (codes "_rev") form ≡ Some rev → form ≡ as_form id rev body
is_made id rev body form is e f =
    is.2 ∙ parts_are is.0 is.1 id rev body (ap (member_of (codes "_id")) (sym is.2) ∙ e) (ap (member_of (codes "_rev")) (sym is.2) ∙ f)

-- ---- a body without members

pub no_members_are : (ms : Members) → length (member_list ms) ≡ 0 → ms ≡ no_members
no_members_are no_members none = refl
no_members_are (member k v ms) none = absurd (omega (arith, none))
