-- The fault of a body that is found without taking memory is the body's first fault.
use Rattle.std.specs.Prelude.{codes, ok_or}
use Rattle.std.proofs.Common.{◌≡◌, ℕ, ◌∷◌, [], Bool, true, false, ◌&&◌, cond, List, Option, Some, None, is_some, option_map, option_and_then, unwrap_or, Result, Ok, Err, refl, sym, ap, ◌∙◌}
use Rattle.std.specs.List.{list_all}
use Rattle.std.specs.Option.{option_map_or, option_or}
use Rattle.std.specs.Result.{result_err}
use Rattle.std.specs.Str.{bytes_eq}
use Rattle.mg_value.specs.Value.{Value, member_of}
use Rattle.mg_value.specs.Results.{◌>>=◌}
use Rattle.mg_collate.specs.declared.direction.Direction.{Direction}
use Rattle.mg_bookmark.specs.Bookmark.{RowPlace}
use Rattle.mg_bookmark.specs.Letters.{has_only_letters}
use Rattle.mg_bookmark.specs.Reading.{bookmark_read, place_read}
use Rattle.mg_bookmark.proofs.Alphabet.{other_byte}
use Rattle.mg_index.specs.Definition.{Steps}
use Rattle.mg_index.specs.Fault.{is_directed}
use Rattle.mg_index.specs.Reading.{each_of, field_direction, is_same}
use Rattle.mg_selector.specs.Reading.{reading}
use Rattle.mg_selector.specs.Selector.{Selector}
use Rattle.mg_query.specs.Given.{Given, fault_given, fault_in_turn, given, gives_path, gives_sort, parsed, sort_fault, with_parts}
use Rattle.mg_query.specs.Query.{Query, Shaped, bookmark_fault, early_fault, fault_of_shaped, one_direction, path_of, query_of, query_with, rendered_fields_of, selector_or_fault, shaped, sort_path}
use Rattle.mg_query.specs.View.{Fails, ReadsAs, query_view}
use Rattle.mg_query.specs.declared.error.QueryError.{QueryError}
use Rattle.mg_query.specs.declared.error.QueryError.TheVariants.{Shape, InvalidOperator, BadArg, BadBookmark, MixedSort, NoMemory}
use Rattle.mg_query.proofs.Shapes.{members_given}

-- ---- shapes

both : {A B C : Type 0} (f : A → B → C) (o : Option A) (q : Option B) → is_some (option_and_then (λ y. option_map (f y) q) o) ≡ (is_some o && is_some q)
both f None q = refl
both f (Some y) None = refl
both f (Some y) (Some z) = refl

-- `each_of` gives a list if f gives a value for each element
all_of : {A B : Type 0} (f : A → Option B) (xs : List A) → is_some (each_of f xs) ≡ list_all (λ x. is_some (f x)) xs
all_of f [] = refl
all_of f (x ∷ xs) = both (λ y ys. y ∷ ys) (f x) (each_of f xs) ∙ ap (λ b. is_some (f x) && b) (all_of f xs)

swapped : (a b c d : Bool) → ((a && b) && (c && d)) ≡ ((a && c) && (b && d))
swapped true true c d = refl
swapped true false true d = refl
swapped true false false d = refl
swapped false b c d = refl

all_and : (p q : Value → Bool) (vs : List Value) → (list_all p vs && list_all q vs) ≡ list_all (λ v. p v && q v) vs
all_and p q [] = refl
all_and p q (v ∷ vs) = swapped (p v) (list_all p vs) (q v) (list_all q vs) ∙ ap (λ b. (p v && q v) && b) (all_and p q vs)

parts_there : (g : Given) (a b : Option (List Steps)) (d : Option (List Direction))
    → is_some (option_and_then (λ fields. option_and_then (λ sort. option_map (λ directions. with_parts g fields sort directions) d) b) a) ≡ (is_some a && (is_some b && is_some d))
parts_there g None b d = refl
parts_there g (Some a) None d = refl
parts_there g (Some a) (Some b) None = refl
parts_there g (Some a) (Some b) (Some d) = refl

-- the shapes of the members are right if each of `fields` gives a path, and each field of `sort` a path and a direction
pub shapes_there : (g : Given) → is_some (parsed g) ≡ (list_all gives_path g.fields && list_all gives_sort g.sort)
shapes_there g =
    parts_there g (each_of path_of g.fields) (each_of sort_path g.sort) (each_of field_direction g.sort)
    ∙ ap (λ b. b && (is_some (each_of sort_path g.sort) && is_some (each_of field_direction g.sort))) (all_of path_of g.fields)
    ∙ ap (λ b. list_all gives_path g.fields && (b && is_some (each_of field_direction g.sort))) (all_of sort_path g.sort)
    ∙ ap (λ b. list_all gives_path g.fields && (list_all (λ v. is_some (sort_path v)) g.sort && b)) (all_of field_direction g.sort)
    ∙ ap (λ b. list_all gives_path g.fields && b) (all_and (λ v. is_some (sort_path v)) (λ v. is_some (field_direction v)) g.sort)

-- ---- the sort

-- the directions of the items, if each gives one
one_directed : (d : Direction) (o : Option Direction) (os : Option (List Direction)) (b : Bool) (ds : List Direction) → ((xs : List Direction) → os ≡ Some xs → b ≡ list_all (is_same d) xs)
    → option_and_then (λ y. option_map (λ ys. y ∷ ys) os) o ≡ Some ds → (option_map_or (is_same d) o false && b) ≡ list_all (is_same d) ds
one_directed d None os b ds h e = absurd cc
one_directed d (Some y) None b ds h e = absurd cc
one_directed d (Some y) (Some ys) b ds h e = ap (λ c. is_same d y && c) (h ys refl) ∙ ap (λ (o : Option (List Direction)). list_all (is_same d) (unwrap_or o [])) e

all_directed : (d : Direction) (vs : List Value) (ds : List Direction) → each_of field_direction vs ≡ Some ds → list_all (is_directed d) vs ≡ list_all (is_same d) ds
all_directed d [] ds e = ap (λ (o : Option (List Direction)). list_all (is_same d) (unwrap_or o [])) e
all_directed d (v ∷ vs) ds e = one_directed d (field_direction v) (each_of field_direction vs) (list_all (is_directed d) vs) ds (λ xs k. all_directed d vs xs k) e

-- the fault of directions
abbrev mixed : List Direction → Option QueryError
mixed ds = result_err (ok_or (one_direction ds) MixedSort)

one_mixed : (d : Direction) (b : Bool) → ◌≡◌ {A = Option QueryError} (cond b None (Some MixedSort)) (result_err (ok_or (cond b (Some d) None) MixedSort))
one_mixed d true = refl
one_mixed d false = refl

first_mixed : (o : Option Direction) (os : Option (List Direction)) (vs : List Value) (ds : List Direction) → ((d : Direction) (xs : List Direction) → os ≡ Some xs → list_all (is_directed d) vs ≡ list_all (is_same d) xs)
    → option_and_then (λ y. option_map (λ ys. y ∷ ys) os) o ≡ Some ds → option_map_or (λ d. cond (list_all (is_directed d) vs) None (Some MixedSort)) o None ≡ mixed ds
first_mixed None os vs ds h e = absurd cc
first_mixed (Some y) None vs ds h e = absurd cc
first_mixed (Some y) (Some ys) vs ds h e =
    ap (λ b. cond b None (Some MixedSort)) (h y ys refl) ∙ one_mixed y (list_all (is_same y) ys) ∙ ap (λ (o : Option (List Direction)). mixed (unwrap_or o [])) e

-- the fault of the sort's items is that of their directions
sort_mixed : (vs : List Value) (ds : List Direction) → each_of field_direction vs ≡ Some ds → sort_fault vs ≡ mixed ds
sort_mixed [] ds e = ap (λ (o : Option (List Direction)). mixed (unwrap_or o [])) e
sort_mixed (v ∷ vs) ds e = first_mixed (field_direction v) (each_of field_direction vs) vs ds (λ d xs k. all_directed d vs xs k) e

-- ---- the members

parts_fault : (g : Given) (a b : Option (List Steps)) (d : Option (List Direction)) → ((ds : List Direction) → d ≡ Some ds → sort_fault g.sort ≡ mixed ds)
    → option_map_or fault_of_shaped (option_and_then (λ fields. option_and_then (λ sort. option_map (λ directions. with_parts g fields sort directions) d) b) a) (Some Shape)
    ≡ cond (is_some (option_and_then (λ fields. option_and_then (λ sort. option_map (λ directions. with_parts g fields sort directions) d) b) a)) (fault_in_turn g) (Some Shape)
parts_fault g None b d h = refl
parts_fault g (Some a) None d h = refl
parts_fault g (Some a) (Some b) None h = refl
parts_fault g (Some a) (Some b) (Some d) h = ap (λ o. option_or (result_err (selector_or_fault (reading g.selector))) (bookmark_fault g.bookmark o)) (sym (h d refl))

-- the fault of members: a wrong shape, or the next one in turn
pub members_fault : (g : Given) → fault_given g ≡ cond (is_some (parsed g)) (fault_in_turn g) (Some Shape)
members_fault g = parts_fault g (each_of path_of g.fields) (each_of sort_path g.sort) (each_of field_direction g.sort) (λ ds e. sort_mixed g.sort ds e)

-- ---- the body

abbrev fault_or_shape : Option Shaped → Option QueryError
fault_or_shape o = option_map_or fault_of_shaped o (Some Shape)

-- the fault of a body whose members are lent
pub fault_lent : (v : Value) (g : Given) → given v ≡ Some g → early_fault v ≡ fault_given g
fault_lent v g e = ap fault_or_shape (members_given v ∙ ap (option_and_then parsed) e)

-- the fault of a body of which no members are lent
pub fault_none : (v : Value) → given v ≡ None → early_fault v ≡ Some Shape
fault_none v e = ap fault_or_shape (members_given v ∙ ap (option_and_then parsed) e)

-- ---- it is the first

-- what is read after the selector: the bookmark, the direction, and then the query
abbrev read_after : {B : Type 0} → Option Direction → (Option RowPlace → Direction → Result B QueryError) → Option (Option RowPlace) → Result B QueryError
read_after d f place = ok_or place BadBookmark >>= (λ p. ok_or d MixedSort >>= f p)

place_first : {B : Type 0} (is_nil only : Bool) (place : Option (Option RowPlace)) (d : Option Direction) (f : Option RowPlace → Direction → Result B QueryError) (e : QueryError)
    → (is_nil ≡ true → place ≡ Some None) → (only ≡ false → place ≡ None) → cond is_nil (result_err (ok_or d MixedSort)) (cond only None (Some BadBookmark)) ≡ Some e → read_after d f place ≡ Err e
place_first true only place None f e nil unread h = let same : MixedSort ≡ e = cc in ap (read_after None f) (nil refl) ∙ ap Err same
place_first true only place (Some d) f e nil unread h = absurd cc
place_first false true place d f e nil unread h = absurd cc
place_first false false place d f e nil unread h = let same : BadBookmark ≡ e = cc in ap (read_after d f) (unread refl) ∙ ap Err same

bookmark_first : {B : Type 0} (t : List ℕ) (ds : List Direction) (f : Option RowPlace → Direction → Result B QueryError) (e : QueryError) → bookmark_fault t (mixed ds) ≡ Some e
    → read_after (one_direction ds) f (bookmark_read t) ≡ Err e
bookmark_first t ds f e h =
    place_first (bytes_eq t (codes "nil")) (has_only_letters t) (bookmark_read t) (one_direction ds) f e (λ k. ap (λ b. cond b (Some None) (option_map Some (place_read t))) k) (λ k. other_byte t k) h

carried : {A B : Type 0} (r : Result A QueryError) (p : Option QueryError) (f : A → Result B QueryError) (e : QueryError) → ((a : A) → p ≡ Some e → f a ≡ Err e) → option_or (result_err r) p ≡ Some e → (r >>= f) ≡ Err e
carried (Ok x) p f e next h = next x h
carried (Err x) p f e next h = let same : x ≡ e = cc in ap Err same

-- the query of members, once all parts are read
abbrev with_all : Option Value → Shaped → Selector → Option RowPlace → Direction → Result Query QueryError
with_all fields m selector bookmark direction = Ok (record {
  selector = selector;
  fields = m.fields;
  limit = m.limit;
  skip = m.skip;
  sort = m.sort;
  direction = direction;
  hint = m.hint;
  bookmark = bookmark;
  conflicts = m.conflicts;
  given_selector = m.selector;
  rendered_fields = rendered_fields_of fields;
  given_bookmark = m.bookmark;
})

first_of : (fields : Option Value) (o : Option Shaped) (e : QueryError) → fault_or_shape o ≡ Some e → (ok_or o Shape >>= query_with fields) ≡ Err e
first_of fields None e h = let same : Shape ≡ e = cc in ap Err same
first_of fields (Some m) e h =
    carried (selector_or_fault (reading m.selector)) (bookmark_fault m.bookmark (mixed m.directions)) (λ s. read_after (one_direction m.directions) (with_all fields m s) (bookmark_read m.bookmark)) e
    (λ s k. bookmark_first m.bookmark m.directions (with_all fields m s) e k) h

-- the fault that is found without memory is the body's first
pub early_first : (v : Value) (e : QueryError) → early_fault v ≡ Some e → query_of v ≡ Err e
early_first v e h = first_of (member_of (codes "fields") v) (shaped v) e h

fails : {Y : Type 0} (e : QueryError) (r : Result Y QueryError) → r ≡ Err e → Fails e r
fails Shape r h = h
fails InvalidOperator r h = h
fails BadArg r h = h
fails BadBookmark r h = h
fails MixedSort r h = h
fails NoMemory r h = tt

fault_or : {X Y : Type 0} (item_view : X → Y) (o : Option QueryError) (met : QueryError) (r : Result Y QueryError) → ((e : QueryError) → o ≡ Some e → r ≡ Err e) → Fails met r → ReadsAs item_view (Err (unwrap_or o met)) r
fault_or item_view None met r h f = f
fault_or item_view (Some e) met r h f = fails e r (h e refl)

-- that fault, or the one that was met, is what a reading may return
pub first_fault : (v : Value) (met : QueryError) → Fails met (query_of v) → ReadsAs query_view (Err (unwrap_or (early_fault v) met)) (query_of v)
first_fault v met f = fault_or query_view (early_fault v) met (query_of v) (early_first v) f

-- a query that was read has no fault
pub no_fault : {X : Type 0} (r : Result X QueryError) (x : X) (e : QueryError) → r ≡ Ok x → r ≡ Err e → ⊥
no_fault r x e h k = cc
