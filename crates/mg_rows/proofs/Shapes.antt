-- Which value bytes stand for, by their tag.
use Rattle.std.proofs.Common.{◌≡◌, ◌<◌, ◌≤◌, ℕ, suc, ◌-◌, ℤ, List, [], ◌∷◌, ◌++◌, length, string_bytes, String, Global, Less, Greater, nat_cmp, FitsSigned, IsUtf8, w64, true, false, refl, sym, ap, ap₂, ◌∙◌, append_assoc, append-nil, arith, subst, rules, Bool}
use Rattle.std.specs.Cmp.Lexicographic.{slice_cmp}
use Rattle.std.proofs.lemmas.Cmp.{nat_list_cmp_total}
use Rattle.std.specs.Ordering.{ordering_reverse}
use Rattle.mg_collate.specs.Order.{joined_members}
use Rattle.mg_value.specs.Held.{AllAfter}
use Rattle.mg_value.specs.Value.{Value, null, flag, whole, text, list, object, Items, no_items, item, Members, no_members, member, put}
use Rattle.mg_value.specs.View.{view, items_view}
use Rattle.mg_value.specs.declared.value.Json.{Json, the_lemmas}
use Rattle.mg_value.specs.declared.value.Json as made
use Rattle.mg_rows.specs.Bytes.{big_endian, sign_turned, text_before, value_before, items_before, members_before}
use Rattle.mg_rows.specs.Laws.{joined_items}
use Rattle.mg_value.specs.Stored.{IsStored, AreStored, MembersAreStored}

pub view-Null : view made.Null ≡ null
view-Null = search (rules, the_lemmas)

pub view-Flag : (b : Bool) → view (made.Flag b) ≡ flag b
view-Flag b = search (rules, the_lemmas)

pub view-Whole : (z : ℤ) → view (made.Whole z) ≡ whole z
view-Whole z = search (rules, the_lemmas)

pub view-Text : (s : String Global) → view (made.Text s) ≡ text (string_bytes s)
view-Text s = search (rules, the_lemmas)

abbrev head_of : List ℕ → ℕ
head_of [] = 0
head_of (x ∷ xs) = x

abbrev others : List ℕ → List ℕ
others [] = []
others (x ∷ xs) = xs

-- the bytes of the value are this tag and then the tail
abbrev pub Shape : Value → ℕ → List ℕ → List ℕ → Type 0
Shape null tag tail rest = (tag ≡ 1) × (tail ≡ rest)
Shape (flag false) tag tail rest = (tag ≡ 2) × (tail ≡ rest)
Shape (flag true) tag tail rest = (tag ≡ 3) × (tail ≡ rest)
Shape (whole z) tag tail rest = (tag ≡ 4) × (tail ≡ big_endian 8 (sign_turned z) rest)
Shape (text s) tag tail rest = (tag ≡ 5) × (tail ≡ text_before s rest)
Shape (list vs) tag tail rest = (tag ≡ 6) × (tail ≡ items_before vs rest)
Shape (object ms) tag tail rest = (tag ≡ 7) × (tail ≡ members_before ms rest)

pub shape : (v : Value) (rest bytes tail : List ℕ) (tag : ℕ) → bytes ≡ tag ∷ tail → bytes ≡ value_before v rest → Shape v tag tail rest
shape null rest bytes tail tag e h = (ap head_of (sym e ∙ h), ap others (sym e ∙ h))
shape (flag false) rest bytes tail tag e h = (ap head_of (sym e ∙ h), ap others (sym e ∙ h))
shape (flag true) rest bytes tail tag e h = (ap head_of (sym e ∙ h), ap others (sym e ∙ h))
shape (whole z) rest bytes tail tag e h = (ap head_of (sym e ∙ h), ap others (sym e ∙ h))
shape (text s) rest bytes tail tag e h = (ap head_of (sym e ∙ h), ap others (sym e ∙ h))
shape (list vs) rest bytes tail tag e h = (ap head_of (sym e ∙ h), ap others (sym e ∙ h))
shape (object ms) rest bytes tail tag e h = (ap head_of (sym e ∙ h), ap others (sym e ∙ h))

pub tag_some : (v : Value) (tail rest : List ℕ) (tag : ℕ) → Shape v tag tail rest → 0 < tag
tag_some null tail rest tag h = omega (arith, h.0)
tag_some (flag false) tail rest tag h = omega (arith, h.0)
tag_some (flag true) tail rest tag h = omega (arith, h.0)
tag_some (whole z) tail rest tag h = omega (arith, h.0)
tag_some (text s) tail rest tag h = omega (arith, h.0)
tag_some (list vs) tail rest tag h = omega (arith, h.0)
tag_some (object ms) tail rest tag h = omega (arith, h.0)

pub null_at : (v : Value) (tail rest : List ℕ) (tag : ℕ) → Shape v tag tail rest → tag ≡ 1 → (null ≡ v) × (tail ≡ rest)
null_at null tail rest tag h t = (refl, h.1)
null_at (flag false) tail rest tag h t = absurd (omega (arith, h.0, t))
null_at (flag true) tail rest tag h t = absurd (omega (arith, h.0, t))
null_at v tail rest tag h t = absurd (omega (arith, h.0, t))

pub false_at : (v : Value) (tail rest : List ℕ) (tag : ℕ) → Shape v tag tail rest → tag ≡ 2 → (flag false ≡ v) × (tail ≡ rest)
false_at (flag false) tail rest tag h t = (refl, h.1)
false_at (flag true) tail rest tag h t = absurd (omega (arith, h.0, t))
false_at v tail rest tag h t = absurd (omega (arith, h.0, t))

pub true_at : (v : Value) (tail rest : List ℕ) (tag : ℕ) → Shape v tag tail rest → tag ≡ 3 → (flag true ≡ v) × (tail ≡ rest)
true_at (flag true) tail rest tag h t = (refl, h.1)
true_at (flag false) tail rest tag h t = absurd (omega (arith, h.0, t))
true_at v tail rest tag h t = absurd (omega (arith, h.0, t))

-- proof by cases of the tag: the value has this type, with its bytes and what comes after
pub whole_case : (P : Type 0) (v : Value) (tail rest : List ℕ) (tag : ℕ) → Shape v tag tail rest → tag ≡ 4 → IsStored v
    → ((z : ℤ) → whole z ≡ v → FitsSigned w64 z → tail ≡ big_endian 8 (sign_turned z) rest → P) → P
whole_case P (whole z) tail rest tag h t stored go = go z refl stored h.1
whole_case P (flag false) tail rest tag h t stored go = absurd (omega (arith, h.0, t))
whole_case P (flag true) tail rest tag h t stored go = absurd (omega (arith, h.0, t))
whole_case P v tail rest tag h t stored go = absurd (omega (arith, h.0, t))

pub text_case : (P : Type 0) (v : Value) (tail rest : List ℕ) (tag : ℕ) → Shape v tag tail rest → tag ≡ 5 → IsStored v
    → ((s : List ℕ) → text s ≡ v → IsUtf8 s → tail ≡ text_before s rest → P) → P
text_case P (text s) tail rest tag h t stored go = go s refl stored h.1
text_case P (flag false) tail rest tag h t stored go = absurd (omega (arith, h.0, t))
text_case P (flag true) tail rest tag h t stored go = absurd (omega (arith, h.0, t))
text_case P v tail rest tag h t stored go = absurd (omega (arith, h.0, t))

pub list_case : (P : Type 0) (v : Value) (tail rest : List ℕ) (tag : ℕ) → Shape v tag tail rest → tag ≡ 6 → IsStored v
    → ((vs : Items) → list vs ≡ v → AreStored vs → tail ≡ items_before vs rest → P) → P
list_case P (list vs) tail rest tag h t stored go = go vs refl stored h.1
list_case P (flag false) tail rest tag h t stored go = absurd (omega (arith, h.0, t))
list_case P (flag true) tail rest tag h t stored go = absurd (omega (arith, h.0, t))
list_case P v tail rest tag h t stored go = absurd (omega (arith, h.0, t))

pub object_case : (P : Type 0) (v : Value) (tail rest : List ℕ) (tag : ℕ) → Shape v tag tail rest → tag ≡ 7 → IsStored v
    → ((ms : Members) → object ms ≡ v → MembersAreStored ms → tail ≡ members_before ms rest → P) → P
object_case P (object ms) tail rest tag h t stored go = go ms refl stored h.1
object_case P (flag false) tail rest tag h t stored go = absurd (omega (arith, h.0, t))
object_case P (flag true) tail rest tag h t stored go = absurd (omega (arith, h.0, t))
object_case P v tail rest tag h t stored go = absurd (omega (arith, h.0, t))

-- no value has a tag above 7
pub other_at : (v : Value) (tail rest : List ℕ) (tag : ℕ) → Shape v tag tail rest → tag ≤ 7
other_at null tail rest tag h = omega (arith, h.0)
other_at (flag false) tail rest tag h = omega (arith, h.0)
other_at (flag true) tail rest tag h = omega (arith, h.0)
other_at v tail rest tag h = omega (arith, h.0)

-- ---- texts

pub text_ended : (t rest bytes tail done s : List ℕ) (tag : ℕ) → bytes ≡ tag ∷ tail → tag ≡ 0 → bytes ≡ text_before t rest → done ++ t ≡ s → (done ≡ s) × (tail ≡ rest)
text_ended [] rest bytes tail done s tag e z h k = (sym (append-nil done) ∙ k, ap others (sym e ∙ h))
text_ended (b ∷ t) rest bytes tail done s tag e z h k = let f : tag ≡ suc b = ap head_of (sym e ∙ h) in absurd (omega (arith, f, z))

pub text_goes_on : (t rest bytes tail done new s : List ℕ) (tag : ℕ) → bytes ≡ tag ∷ tail → 0 < tag → bytes ≡ text_before t rest → done ++ t ≡ s → new ≡ done ++ (tag - 1) ∷ []
    → (u : List ℕ) × (tail ≡ text_before u rest) × (new ++ u ≡ s)
text_goes_on [] rest bytes tail done new s tag e z h k n = let f : tag ≡ 0 = ap head_of (sym e ∙ h) in absurd (omega (arith, f, z))
text_goes_on (b ∷ t) rest bytes tail done new s tag e z h k n =
    let f : tag ≡ suc b = ap head_of (sym e ∙ h) in
    let g : tag - 1 ≡ b = omega (arith, f) in
    (t, ap others (sym e ∙ h), ap (λ y. y ++ t) n ∙ append_assoc done ((tag - 1) ∷ []) t ∙ ap (λ x. done ++ x ∷ t) g ∙ k)

pub text_some : (t rest : List ℕ) → 0 < length (text_before t rest)
text_some [] rest = omega arith
text_some (b ∷ t) rest = omega arith

-- ---- arrays

joined_nil : (vs : Items) → joined_items vs no_items ≡ vs
joined_nil no_items = refl
joined_nil (item v vs) = ap (item v) (joined_nil vs)

joined_next : (js : List Json) (j : Json) (ws : Items) → joined_items (items_view (js ++ j ∷ [])) ws ≡ joined_items (items_view js) (item (view j) ws)
joined_next [] j ws = refl
joined_next (i ∷ js) j ws = ap (item (view i)) (joined_next js j ws)

pub items_ended : (ws : Items) (rest bytes tail : List ℕ) (done vs : Items) (tag : ℕ) → bytes ≡ tag ∷ tail → tag ≡ 0 → bytes ≡ items_before ws rest → joined_items done ws ≡ vs → (done ≡ vs) × (tail ≡ rest)
items_ended no_items rest bytes tail done vs tag e z h k = (sym (joined_nil done) ∙ k, ap others (sym e ∙ h))
items_ended (item w ws) rest bytes tail done vs tag e z h k = let f = tag_some w tail (items_before ws rest) tag (shape w (items_before ws rest) bytes tail tag e h) in absurd (omega (arith, f, z))

pub items_go_on : (ws : Items) (rest bytes tail after : List ℕ) (done new : List Json) (j : Json) (vs : Items) (tag : ℕ) → bytes ≡ tag ∷ tail → 0 < tag → AreStored ws → bytes ≡ items_before ws rest
    → joined_items (items_view done) ws ≡ vs → new ≡ done ++ j ∷ [] → ((v : Value) (r : List ℕ) → IsStored v → bytes ≡ value_before v r → (view j ≡ v) × (after ≡ r))
    → (us : Items) × AreStored us × (after ≡ items_before us rest) × (joined_items (items_view new) us ≡ vs)
items_go_on no_items rest bytes tail after done new j vs tag e z stored h k n read = let f : tag ≡ 0 = ap head_of (sym e ∙ h) in absurd (omega (arith, f, z))
items_go_on (item w ws) rest bytes tail after done new j vs tag e z stored h k n read =
    let p = read w (items_before ws rest) stored.0 h in
    (ws, stored.1, p.1, ap (λ x. joined_items (items_view x) ws) n ∙ joined_next done j ws ∙ ap (λ x. joined_items (items_view done) (item x ws)) p.0 ∙ k)

-- the bytes of a value are not empty, nor are those of an array from any item on
pub value_some : (v : Value) (rest : List ℕ) → 0 < length (value_before v rest)
value_some null rest = omega arith
value_some (flag false) rest = omega arith
value_some (flag true) rest = omega arith
value_some (whole z) rest = omega arith
value_some (text s) rest = omega arith
value_some (list vs) rest = omega arith
value_some (object ms) rest = omega arith

pub items_some : (ws : Items) (rest : List ℕ) → 0 < length (items_before ws rest)
items_some no_items rest = omega arith
items_some (item w ws) rest = value_some w (items_before ws rest)

-- the case where an item comes: its bytes, and what comes after
pub items_case : (P : Type 0) (ws : Items) (rest bytes tail : List ℕ) (tag : ℕ) → bytes ≡ tag ∷ tail → 0 < tag → AreStored ws → bytes ≡ items_before ws rest
    → ((w : Value) (r : List ℕ) → IsStored w → bytes ≡ value_before w r → P) → P
items_case P no_items rest bytes tail tag e z stored h go = let f : tag ≡ 0 = ap head_of (sym e ∙ h) in absurd (omega (arith, f, z))
items_case P (item w ws) rest bytes tail tag e z stored h go = go w (items_before ws rest) stored.0 h

-- ---- objects

joined_none : (ms : Members) → joined_members ms no_members ≡ ms
joined_none no_members = refl
joined_none (member k v ms) = ap (member k v) (joined_none ms)

rest_stored : (done ns : Members) → MembersAreStored (joined_members done ns) → MembersAreStored ns
rest_stored no_members ns h = h
rest_stored (member k v ms) ns h = rest_stored ms ns h.3

after_last : (k : List ℕ) (done : Members) (l : List ℕ) (w : Value) (ns : Members) → AllAfter k (joined_members done (member l w ns)) → slice_cmp nat_cmp k l ≡ Less
after_last k no_members l w ns h = h.0
after_last k (member m v ms) l w ns h = after_last k ms l w ns h.1

-- a member whose name is above all names so far goes last
put_ascending : (done : Members) (l : List ℕ) (w : Value) (ns : Members) → MembersAreStored (joined_members done (member l w ns)) → joined_members (put l w done) ns ≡ joined_members done (member l w ns)
put_ascending no_members l w ns h = refl
put_ascending (member k v ms) l w ns h =
    let above : slice_cmp nat_cmp l k ≡ Greater = nat_list_cmp_total.antisymm l k ∙ ap ordering_reverse (after_last k ms l w ns h.0) in
    rw above (ap (member k v) (put_ascending ms l w ns h.3))

pub members_ended : (ns : Members) (rest bytes tail : List ℕ) (done ms : Members) (tag : ℕ) → bytes ≡ tag ∷ tail → tag ≡ 0 → bytes ≡ members_before ns rest → joined_members done ns ≡ ms → (done ≡ ms) × (tail ≡ rest)
members_ended no_members rest bytes tail done ms tag e z h k = (sym (joined_none done) ∙ k, ap others (sym e ∙ h))
members_ended (member l w ns) rest bytes tail done ms tag e z h k = let f : tag ≡ 5 = ap head_of (sym e ∙ h) in absurd (omega (arith, f, z))

pub members_go_on : (ns : Members) (rest bytes tail named after : List ℕ) (done new : Members) (name : List ℕ) (value : Value) (ms : Members) (tag : ℕ)
    → bytes ≡ tag ∷ tail → 0 < tag → MembersAreStored ms → bytes ≡ members_before ns rest → joined_members done ns ≡ ms → new ≡ put name value done
    → ((s : List ℕ) (r : List ℕ) → tail ≡ text_before s r → (name ≡ s) × (named ≡ r))
    → ((v : Value) (r : List ℕ) → IsStored v → named ≡ value_before v r → (value ≡ v) × (after ≡ r))
    → (us : Members) × (after ≡ members_before us rest) × (joined_members new us ≡ ms)
members_go_on no_members rest bytes tail named after done new name value ms tag e z stored h k n read_name read = let f : tag ≡ 0 = ap head_of (sym e ∙ h) in absurd (omega (arith, f, z))
members_go_on (member l w ns) rest bytes tail named after done new name value ms tag e z stored h k n read_name read =
    let p = read_name l (value_before w (members_before ns rest)) (ap others (sym e ∙ h)) in
    let all = subst MembersAreStored (sym k) stored in
    let q = read w (members_before ns rest) (rest_stored done (member l w ns) all).2 p.1 in
    (ns, q.1, ap (λ x. joined_members x ns) (n ∙ ap₂ (λ x y. put x y done) p.0 q.0) ∙ put_ascending done l w ns all ∙ k)

pub members_some : (ns : Members) (rest : List ℕ) → 0 < length (members_before ns rest)
members_some no_members rest = omega arith
members_some (member l w ns) rest = omega arith

-- the case where a member comes: the bytes of its name, and then those of its value
pub members_case : (P : Type 0) (done ns : Members) (rest bytes tail : List ℕ) (ms : Members) (tag : ℕ) → bytes ≡ tag ∷ tail → 0 < tag → MembersAreStored ms → bytes ≡ members_before ns rest
    → joined_members done ns ≡ ms
    → ((l : List ℕ) (w : Value) (r : List ℕ) → IsUtf8 l → IsStored w → tail ≡ text_before l (value_before w r) → P) → P
members_case P done no_members rest bytes tail ms tag e z stored h k go = let f : tag ≡ 0 = ap head_of (sym e ∙ h) in absurd (omega (arith, f, z))
members_case P done (member l w ns) rest bytes tail ms tag e z stored h k go =
    let all = rest_stored done (member l w ns) (subst MembersAreStored (sym k) stored) in
    go l w (members_before ns rest) all.1 all.2 (ap others (sym e ∙ h))
