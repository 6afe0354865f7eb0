-- A body with another bookmark is read as the same query with that bookmark.
use Rattle.std.specs.Prelude.{codes, ok_or}
use Rattle.std.proofs.Common.{◌≡◌, ◌≢◌, ℕ, Bool, true, false, List, Option, Some, None, option_map, Result, Ok, Err, refl, ap, ap₂, ◌∙◌}
use Rattle.std.specs.Str.{bytes_eq}
use Rattle.std.proofs.lemmas.Slice.Eq.{bytes_eq-Decides}
use Rattle.mg_value.specs.Value.{Value, member_of}
use Rattle.mg_value.specs.Results.{◌>>=◌}
use Rattle.mg_collate.specs.declared.direction.Direction.{Direction}
use Rattle.mg_selector.specs.Reading.{reading}
use Rattle.mg_selector.specs.Selector.{Selector}
use Rattle.mg_bookmark.specs.Bookmark.{RowPlace}
use Rattle.mg_bookmark.specs.Reading.{bookmark_read}
use Rattle.mg_index.specs.Choice.{Hint}
use Rattle.mg_index.specs.Definition.{Steps}
use Rattle.mg_index.specs.Reading.{each_of, field_direction}
use Rattle.mg_query.specs.Laws.{BookmarksChangeNothingElse, HasBookmark, asked_after}
use Rattle.mg_query.specs.Query.{Query, Shaped, ◌>>◌, bookmark_given, conflicts_of, count_of, fields_of, hint_given, one_direction, query_with, selector_given, selector_or_fault, shaped, items_given, sort_path, rendered_fields_of}
use Rattle.mg_query.specs.declared.error.QueryError.{QueryError}
use Rattle.mg_query.specs.declared.error.QueryError.TheVariants.{BadBookmark, MixedSort, Shape}

-- ---- the members

abbrev made : Value → List Steps → ℕ → ℕ → List Steps → List Direction → Hint → List ℕ → Bool → Shaped
made selector fields limit skip sort directions hint bookmark conflicts =
    record { selector = selector; fields = fields; limit = limit; skip = skip; sort = sort; directions = directions; hint = hint; bookmark = bookmark; conflicts = conflicts }

abbrev with_mark : Shaped → List ℕ → Shaped
with_mark m t = record m { bookmark = t }

-- the members after the sort
abbrev after_sort : Value → List Steps → ℕ → ℕ → Option (List Steps) → Option (List Direction) → Option Hint → Option (List ℕ) → Option Bool → Option Shaped
after_sort a f l k p d h b c = p >> (λ sort. d >> (λ directions. h >> (λ hint. b >> (λ bookmark. c >> (λ conflicts. Some (made a f l k sort directions hint bookmark conflicts))))))

after_sort_marked : (a : Value) (f : List Steps) (l k : ℕ) (p : Option (List Steps)) (d : Option (List Direction)) (h : Option Hint) (b : Option (List ℕ)) (c : Option Bool) (m : Shaped) (t : List ℕ)
    → after_sort a f l k p d h b c ≡ Some m → after_sort a f l k p d h (Some t) c ≡ Some (with_mark m t)
after_sort_marked a f l k None d h b c m t e = absurd cc
after_sort_marked a f l k (Some p) None h b c m t e = absurd cc
after_sort_marked a f l k (Some p) (Some d) None b c m t e = absurd cc
after_sort_marked a f l k (Some p) (Some d) (Some h) None c m t e = absurd cc
after_sort_marked a f l k (Some p) (Some d) (Some h) (Some b) None m t e = absurd cc
after_sort_marked a f l k (Some p) (Some d) (Some h) (Some b) (Some c) m t e = ap (λ (o : Option Shaped). option_map (λ n. with_mark n t) o) e

-- all members
abbrev all_of : Option Value → Option (List Steps) → Option ℕ → Option ℕ → Option (List Value) → Option Hint → Option (List ℕ) → Option Bool → Option Shaped
all_of a f l k s h b c =
    a >> (λ selector. f >> (λ fields. l >> (λ limit. k >> (λ skip. s >> (λ sorted. after_sort selector fields limit skip (each_of sort_path sorted) (each_of field_direction sorted) h b c)))))

all_marked : (a : Option Value) (f : Option (List Steps)) (l k : Option ℕ) (s : Option (List Value)) (h : Option Hint) (b : Option (List ℕ)) (c : Option Bool) (m : Shaped) (t : List ℕ)
    → all_of a f l k s h b c ≡ Some m → all_of a f l k s h (Some t) c ≡ Some (with_mark m t)
all_marked None f l k s h b c m t e = absurd cc
all_marked (Some a) None l k s h b c m t e = absurd cc
all_marked (Some a) (Some f) None k s h b c m t e = absurd cc
all_marked (Some a) (Some f) (Some l) None s h b c m t e = absurd cc
all_marked (Some a) (Some f) (Some l) (Some k) None h b c m t e = absurd cc
all_marked (Some a) (Some f) (Some l) (Some k) (Some s) h b c m t e = after_sort_marked a f l k (each_of sort_path s) (each_of field_direction s) h b c m t e

-- the members of a body, by what it has under each name
abbrev from_members : Option Value → Option Value → Option Value → Option Value → Option Value → Option Value → Option Value → Option Value → Option Shaped
from_members a f l k s h b c = all_of (selector_given a) (fields_of f) (count_of 25 l) (count_of 0 k) (items_given s) (hint_given h) (bookmark_given b) (conflicts_of c)

differ : (a b : List ℕ) → bytes_eq a b ≡ false → a ≢ b
differ a b f e = let t : bytes_eq a b ≡ true = (bytes_eq-Decides a b).1 e in cc

-- under any other name than `bookmark` both bodies have the same
other : (name : List ℕ) (t : List ℕ) (v w : Value) → HasBookmark t v w → bytes_eq name (codes "bookmark") ≡ false → member_of name v ≡ member_of name w
other name t v w h f = h.others name (differ name (codes "bookmark") f)

shaped_marked : (v w : Value) (t : List ℕ) (m : Shaped) → HasBookmark t v w → shaped w ≡ Some m → shaped v ≡ Some (with_mark m t)
shaped_marked v w t m h e =
    let a = λ (name : List ℕ). member_of name v in
    let b = λ (name : List ℕ). member_of name w in
    let same = λ (name : List ℕ) (f : bytes_eq name (codes "bookmark") ≡ false). other name t v w h f in
    ap₂ (λ x y. from_members x y (a (codes "limit")) (a (codes "skip")) (a (codes "sort")) (a (codes "use_index")) (a (codes "bookmark")) (a (codes "conflicts"))) (same (codes "selector") refl) (same (codes "fields") refl)
    ∙ ap₂ (λ x y. from_members (b (codes "selector")) (b (codes "fields")) x y (a (codes "sort")) (a (codes "use_index")) (a (codes "bookmark")) (a (codes "conflicts"))) (same (codes "limit") refl) (same (codes "skip") refl)
    ∙ ap₂ (λ x y. from_members (b (codes "selector")) (b (codes "fields")) (b (codes "limit")) (b (codes "skip")) x y (a (codes "bookmark")) (a (codes "conflicts"))) (same (codes "sort") refl) (same (codes "use_index") refl)
    ∙ ap₂ (λ x y. from_members (b (codes "selector")) (b (codes "fields")) (b (codes "limit")) (b (codes "skip")) (b (codes "sort")) (b (codes "use_index")) x y) h.bookmark (same (codes "conflicts") refl)
    ∙ all_marked (selector_given (b (codes "selector"))) (fields_of (b (codes "fields"))) (count_of 25 (b (codes "limit"))) (count_of 0 (b (codes "skip"))) (items_given (b (codes "sort"))) (hint_given (b (codes "use_index")))
    (bookmark_given (b (codes "bookmark"))) (conflicts_of (b (codes "conflicts"))) m t e

-- ---- the query

abbrev query_made : Option Value → Shaped → Selector → Option RowPlace → Direction → Query
query_made fields m selector bookmark direction = record {
  selector = selector;
  fields = m.fields;
  limit = m.limit;
  skip = m.skip;
  sort = m.sort;
  direction = direction;
  hint = m.hint;
  bookmark = bookmark;
  conflicts = m.conflicts;
  given_selector = m.selector;
  rendered_fields = rendered_fields_of fields;
  given_bookmark = m.bookmark;
}

abbrev read_in : Option Value → Shaped → Result Selector QueryError → Option (Option RowPlace) → Option Direction → Result Query QueryError
read_in fields m s b d = s >>= (λ selector. ok_or b BadBookmark >>= (λ bookmark. ok_or d MixedSort >>= (λ direction. Ok (query_made fields m selector bookmark direction))))

read_marked : (fields : Option Value) (m : Shaped) (t : List ℕ) (q : Query) (s : Result Selector QueryError) (b o : Option (Option RowPlace)) (d : Option Direction)
    → read_in fields m s b d ≡ Ok q → read_in fields (with_mark m t) s o d ≡ ok_or (option_map (λ place. asked_after q place t) o) BadBookmark
read_marked fields m t q (Err s) b o d e = absurd cc
read_marked fields m t q (Ok s) None o d e = absurd cc
read_marked fields m t q (Ok s) (Some b) o None e = absurd cc
read_marked fields m t q (Ok s) (Some b) None (Some d) e = refl
read_marked fields m t q (Ok s) (Some b) (Some place) (Some d) e = let same : query_made fields m s b d ≡ q = cc in ap (λ r. Ok (asked_after r place t)) same

query_marked : (fields : Option Value) (m : Shaped) (t : List ℕ) (q : Query) → query_with fields m ≡ Ok q → query_with fields (with_mark m t) ≡ ok_or (option_map (λ place. asked_after q place t) (bookmark_read t)) BadBookmark
query_marked fields m t q e = read_marked fields m t q (selector_or_fault (reading m.selector)) (bookmark_read m.bookmark) (bookmark_read t) (one_direction m.directions) e

of_shaped : (v : Value) (fields : Option Value) (t : List ℕ) (q : Query) (r : Option Shaped) → ok_or r Shape >>= query_with fields ≡ Ok q → ((m : Shaped) → r ≡ Some m → shaped v ≡ Some (with_mark m t))
    → ok_or (shaped v) Shape >>= query_with fields ≡ ok_or (option_map (λ place. asked_after q place t) (bookmark_read t)) BadBookmark
of_shaped v fields t q None e k = absurd cc
of_shaped v fields t q (Some m) e k = ap (λ o. ok_or o Shape >>= query_with fields) (k m refl) ∙ query_marked fields m t q e

pub bookmarks_change_nothing_else : BookmarksChangeNothingElse
bookmarks_change_nothing_else v w t q h e =
    ap (λ f. ok_or (shaped v) Shape >>= query_with f) (other (codes "fields") t v w h refl) ∙ of_shaped v (member_of (codes "fields") w) t q (shaped w) e (λ m k. shaped_marked v w t m h k)
