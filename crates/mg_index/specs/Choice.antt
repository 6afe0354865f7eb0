-- Which index serves a query, after the selection of indexes and sorts in the CouchDB 3.x API reference: the least usable one in a
-- total order; if none is usable, the index of all documents, if the sort allows it. How ties are decided is this project's own
-- choice.
use Rattle.std.specs.Prelude.{ℕ, List, [], ◌∷◌, codes, Bool, true, false, not, ◌&&◌, ◌||◌, Option, Some, None, length, if◌then◌else◌}
use Rattle.std.specs.List.{list_all, list_any, filter, starts_with}
use Rattle.std.specs.Cmp.Lexicographic.{slice_cmp}
use Rattle.std.specs.Ordering.{nat_cmp, bool_cmp, is_gt, on, then_cmp, flip_args}
use Rattle.std.specs.Str.{bytes_eq}
use Rattle.std.specs.declared.cmp.Ordering.{Ordering}
use Rattle.mg_path.specs.Equal.{path_eq}
use Rattle.mg_selector.specs.Meaning.{operator_holds}
use Rattle.mg_normal.specs.Atoms.{Atom}
use Rattle.mg_index.specs.Definition.{Steps, IndexDefinition}
use Rattle.mg_index.specs.Bound.{bounded_count}

-- which indexes a query prefers: no index, those of a design document, or the one with this design document and this name
pub data Hint : Type 0 where
  no_hint : Hint
  in_document : List ℕ → Hint
  exactly : List ℕ → List ℕ → Hint

-- the path of `_id`, which each served document has
abbrev pub id_path : Steps
id_path = codes "_id" ∷ []

-- the path of `_rev`, which each served document has
abbrev pub rev_path : Steps
rev_path = codes "_rev" ∷ []

-- the atom fails if its part is missing
abbrev pub needs_part : Atom → Bool
needs_part a = not (operator_holds a.operator a.sense None)

-- the atom is on the part at the column's path, and fails if the part is missing
abbrev pub requires_column : Steps → Atom → Bool
requires_column column a = path_eq a.steps column && needs_part a

-- each document that a query with these atoms and this sort finds must have the column, because the column is `_id` or `_rev`, a path of
-- the sort, or the path of an atom that fails if its part is missing
abbrev pub is_covered : List Atom → List Steps → Steps → Bool
is_covered atoms sort column =
    path_eq column id_path || (path_eq column rev_path || (list_any (path_eq column) sort || list_any (requires_column column) atoms))

-- an index of these columns is usable for the query: each column is covered, and the columns begin with the sort's paths
abbrev pub is_usable : List Atom → List Steps → List Steps → Bool
is_usable atoms sort columns = list_all (is_covered atoms sort) columns && starts_with path_eq columns sort

-- the index of all documents is usable: there is no sort, or it is by `_id` alone
abbrev pub all_docs_usable : List Steps → Bool
all_docs_usable [] = true
all_docs_usable (path ∷ []) = path_eq path id_path
all_docs_usable sort = false

-- the hint names the index, or its design document alone
abbrev pub is_hinted : Hint → IndexDefinition → Bool
is_hinted no_hint d = false
is_hinted (in_document ddoc) d = bytes_eq ddoc d.ddoc
is_hinted (exactly ddoc name) d = bytes_eq ddoc d.ddoc && bytes_eq name d.name

-- the order of preference: hinted ones first, then more bounded columns, fewer columns, the lesser name, the lesser design document
abbrev pub preference : List Atom → Hint → IndexDefinition → IndexDefinition → Ordering
preference atoms hint =
    then_cmp (flip_args (on (is_hinted hint) bool_cmp))
    (then_cmp (flip_args (on (λ d. bounded_count atoms d.columns) nat_cmp))
    (then_cmp (on (λ d. length d.columns) nat_cmp)
    (then_cmp (on (λ d. d.name) (slice_cmp nat_cmp)) (on (λ d. d.ddoc) (slice_cmp nat_cmp)))))

-- the lesser of x and y; x if they tie, or if there is no y
abbrev pub lesser : {X : Type 0} → (X → X → Ordering) → X → Option X → X
lesser order x None = x
lesser order x (Some y) = if is_gt (order x y) then y else x

-- the least of a list in an order; `None` for an empty list
abbrev pub least : {X : Type 0} → (X → X → Ordering) → List X → Option X
least order [] = None
least order (x ∷ xs) = Some (lesser order x (least order xs))

-- what serves a query: the index of all documents, or a defined one
pub data Source : Type 0 where
  all_docs : Source
  defined : IndexDefinition → Source

-- the index of all documents, if it is usable
abbrev pub all_docs_for : List Steps → Option Source
all_docs_for sort = if all_docs_usable sort then Some all_docs else None

-- the defined index, if there is one; otherwise the index of all documents, if it is usable
abbrev pub or_all_docs : List Steps → Option IndexDefinition → Option Source
or_all_docs sort None = all_docs_for sort
or_all_docs sort (Some d) = Some (defined d)

-- the usable ones of these definitions
abbrev pub usable_of : List Atom → List Steps → List IndexDefinition → List IndexDefinition
usable_of atoms sort ds = filter (λ d. is_usable atoms sort d.columns) ds

-- what serves the query; `None` if nothing serves it
abbrev pub choice_of : List IndexDefinition → List Atom → List Steps → Hint → Option Source
choice_of ds atoms sort hint = or_all_docs sort (least (preference atoms hint) (usable_of atoms sort ds))
