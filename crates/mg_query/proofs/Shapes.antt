-- The members of a body are those that the code lends, once their paths and directions are read; and which fault comes first.
use Rattle.std.specs.Prelude.{codes, ok_or}
use Rattle.std.proofs.Common.{◌≡◌, ℕ, Bool, List, Option, Some, None, option_map, option_and_then, Err, refl, ap, sym, ◌∙◌}
use Rattle.mg_value.specs.Value.{Value, list, member_of}
use Rattle.mg_value.specs.Results.{◌>>=◌}
use Rattle.mg_collate.specs.declared.direction.Direction.{Direction}
use Rattle.mg_index.specs.Choice.{Hint}
use Rattle.mg_index.specs.Definition.{Steps}
use Rattle.mg_index.specs.Reading.{each_of, field_direction}
use Rattle.mg_query.specs.Given.{Given, given, parsed, query_given}
use Rattle.mg_query.specs.Query.{Shaped, path_of, query_of, query_with, shaped, items_given, selector_given, count_of, hint_given, bookmark_given, conflicts_of, fields_of, sort_path}
use Rattle.mg_query.specs.declared.error.QueryError.TheVariants.{Shape as wrong_shape}

-- the paths of the fields
fields_lent : (fields : Option Value) → fields_of fields ≡ option_and_then (each_of path_of) (items_given fields)
fields_lent None = refl
fields_lent (Some (list vs)) = refl
fields_lent (Some v) = refl

-- two orders to read the members, over the result of each: with paths and directions in between, or at the end
module _ {F L K P D H B C R : Type 0} (make : F → L → K → P → D → H → B → C → R) where
  in_turn : Option F → Option L → Option K → Option P → Option D → Option H → Option B → Option C → Option R
  in_turn f l k p d h b c =
      option_and_then (λ fields. option_and_then (λ limit. option_and_then (λ skip. option_and_then (λ sort. option_and_then (λ directions. option_and_then (λ hint. option_and_then (λ bookmark.
      option_and_then (λ conflicts. Some (make fields limit skip sort directions hint bookmark conflicts)) c) b) h) d) p) k) l) f

  paths_last : Option F → Option L → Option K → Option P → Option D → Option H → Option B → Option C → Option R
  paths_last f l k p d h b c =
      option_and_then (λ g. g) (option_and_then (λ limit. option_and_then (λ skip. option_and_then (λ hint. option_and_then (λ bookmark. option_map (λ conflicts.
      option_and_then (λ fields. option_and_then (λ sort. option_map (λ directions. make fields limit skip sort directions hint bookmark conflicts) d) p) f) c) b) h) k) l)

  regrouped : (f : Option F) (l : Option L) (k : Option K) (p : Option P) (d : Option D) (h : Option H) (b : Option B) (c : Option C) → in_turn f l k p d h b c ≡ paths_last f l k p d h b c
  unfolding in_turn paths_last
  regrouped None None k p d h b c = refl
  regrouped None (Some l) None p d h b c = refl
  regrouped None (Some l) (Some k) p d None b c = refl
  regrouped None (Some l) (Some k) p d (Some h) None c = refl
  regrouped None (Some l) (Some k) p d (Some h) (Some b) None = refl
  regrouped None (Some l) (Some k) p d (Some h) (Some b) (Some c) = refl
  regrouped (Some f) None k p d h b c = refl
  regrouped (Some f) (Some l) None p d h b c = refl
  regrouped (Some f) (Some l) (Some k) None d None b c = refl
  regrouped (Some f) (Some l) (Some k) None d (Some h) None c = refl
  regrouped (Some f) (Some l) (Some k) None d (Some h) (Some b) None = refl
  regrouped (Some f) (Some l) (Some k) None d (Some h) (Some b) (Some c) = refl
  regrouped (Some f) (Some l) (Some k) (Some p) None None b c = refl
  regrouped (Some f) (Some l) (Some k) (Some p) None (Some h) None c = refl
  regrouped (Some f) (Some l) (Some k) (Some p) None (Some h) (Some b) None = refl
  regrouped (Some f) (Some l) (Some k) (Some p) None (Some h) (Some b) (Some c) = refl
  regrouped (Some f) (Some l) (Some k) (Some p) (Some d) None b c = refl
  regrouped (Some f) (Some l) (Some k) (Some p) (Some d) (Some h) None c = refl
  regrouped (Some f) (Some l) (Some k) (Some p) (Some d) (Some h) (Some b) None = refl
  regrouped (Some f) (Some l) (Some k) (Some p) (Some d) (Some h) (Some b) (Some c) = refl

-- the members that the code lends, over the result of each
lent_from : Option Value → Option (List Value) → Option ℕ → Option ℕ → Option (List Value) → Option Hint → Option (List ℕ) → Option Bool → Option Given
lent_from a f l k s h b c =
    option_and_then (λ selector. option_and_then (λ fields. option_and_then (λ limit. option_and_then (λ skip. option_and_then (λ sort. option_and_then (λ hint. option_and_then (λ bookmark. option_map (λ conflicts.
    record { selector = selector; fields = fields; limit = limit; skip = skip; sort = sort; hint = hint; bookmark = bookmark; conflicts = conflicts }) c) b) h) s) k) l) f) a

after_fields : Option Value → Option (List Steps) → Option ℕ → Option ℕ → Option (List Value) → Option Hint → Option (List ℕ) → Option Bool → Option Shaped
after_fields a f l k s h b c =
    option_and_then (λ selector. option_and_then (λ fields. option_and_then (λ limit. option_and_then (λ skip. option_and_then (λ sorted. option_and_then (λ sort. option_and_then (λ directions. option_and_then (λ hint. option_and_then (λ bookmark. option_and_then (λ conflicts.
    Some (record { selector = selector; fields = fields; limit = limit; skip = skip; sort = sort; directions = directions; hint = hint; bookmark = bookmark; conflicts = conflicts }))
    c) b) h) (each_of field_direction sorted)) (each_of sort_path sorted)) s) k) l) f) a

made : Value → List Steps → ℕ → ℕ → List Steps → List Direction → Hint → List ℕ → Bool → Shaped
made selector fields limit skip sort directions hint bookmark conflicts =
    record { selector = selector; fields = fields; limit = limit; skip = skip; sort = sort; directions = directions; hint = hint; bookmark = bookmark; conflicts = conflicts }

pushed : (l : Option ℕ) (k : Option ℕ) (h : Option Hint) (b : Option (List ℕ)) (c : Option Bool) (a : Value) (f s : List Value)
    → option_and_then parsed (lent_from (Some a) (Some f) l k (Some s) h b c) ≡ paths_last (made a) (each_of path_of f) l k (each_of sort_path s) (each_of field_direction s) h b c
unfolding lent_from paths_last made
pushed None k h b c a f s = refl
pushed (Some l) None h b c a f s = refl
pushed (Some l) (Some k) None b c a f s = refl
pushed (Some l) (Some k) (Some h) None c a f s = refl
pushed (Some l) (Some k) (Some h) (Some b) None a f s = refl
pushed (Some l) (Some k) (Some h) (Some b) (Some c) a f s = refl

unsorted : (p : Option (List Steps)) (l k : Option ℕ) → option_and_then (λ (fields : List Steps). option_and_then (λ (limit : ℕ). option_and_then {U = Shaped} (λ (skip : ℕ). None) k) l) p ≡ None
unsorted None l k = refl
unsorted (Some p) None k = refl
unsorted (Some p) (Some l) None = refl
unsorted (Some p) (Some l) (Some k) = refl

unsorted_lent : (l k : Option ℕ) → None ≡ option_and_then parsed (option_and_then (λ (limit : ℕ). option_and_then {U = Given} (λ (skip : ℕ). None) k) l)
unsorted_lent None k = refl
unsorted_lent (Some l) None = refl
unsorted_lent (Some l) (Some k) = refl

all_from : (a : Option Value) (f : Option (List Value)) (l k : Option ℕ) (s : Option (List Value)) (h : Option Hint) (b : Option (List ℕ)) (c : Option Bool)
    → after_fields a (option_and_then (each_of path_of) f) l k s h b c ≡ option_and_then parsed (lent_from a f l k s h b c)
unfolding after_fields lent_from in_turn made
all_from None f l k s h b c = refl
all_from (Some a) None l k s h b c = refl
all_from (Some a) (Some f) l k None h b c = unsorted (each_of path_of f) l k ∙ unsorted_lent l k
all_from (Some a) (Some f) l k (Some s) h b c =
    regrouped (made a) (each_of path_of f) l k (each_of sort_path s) (each_of field_direction s) h b c ∙ sym (pushed l k h b c a f s)

-- the members of a body are those that are lent, with their paths and directions read
pub members_given : (v : Value) → shaped v ≡ option_and_then parsed (given v)
unfolding after_fields lent_from
members_given v =
    let m = λ (name : List ℕ). member_of name v in
    let limit = count_of 25 (m (codes "limit")) in
    let skip = count_of 0 (m (codes "skip")) in
    ap (λ (f : Option (List Steps)). after_fields (selector_given (m (codes "selector"))) f limit skip (items_given (m (codes "sort"))) (hint_given (m (codes "use_index"))) (bookmark_given (m (codes "bookmark"))) (conflicts_of (m (codes "conflicts")))) (fields_lent (m (codes "fields")))
    ∙ all_from (selector_given (m (codes "selector"))) (items_given (m (codes "fields"))) limit skip (items_given (m (codes "sort"))) (hint_given (m (codes "use_index"))) (bookmark_given (m (codes "bookmark"))) (conflicts_of (m (codes "conflicts")))

-- the query of members that are lent
pub of_lent : (v : Value) (g : Given) → given v ≡ Some g → query_of v ≡ query_given (member_of (codes "fields") v) g
of_lent v g e = ap (λ o. ok_or o wrong_shape >>= query_with (member_of (codes "fields") v)) (members_given v ∙ ap (option_and_then parsed) e)

-- a body of which no members are lent has no query
pub of_none : (v : Value) → given v ≡ None → query_of v ≡ Err wrong_shape
of_none v e = ap (λ o. ok_or o wrong_shape >>= query_with (member_of (codes "fields") v)) (members_given v ∙ ap (option_and_then parsed) e)
