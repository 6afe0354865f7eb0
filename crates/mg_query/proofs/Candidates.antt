-- The rows by which a query finds a document: the one row that orders it in the page if the query asks for it, otherwise none.
use Rattle.std.proofs.Common.{◌≡◌, ℕ, zero, suc, arith, Bool, true, false, ◌&&◌, cond, List, [], ◌∷◌, ◌++◌, Option, Some, None, option_to_list, option_map, option_and_then, is_some, map, take, length, refl, sym, ap, ◌∙◌}
use Rattle.std.proofs.lemmas.Bool.{and_parts}
use Rattle.std.specs.List.{All, filter, filter_map, list_all, starts_with}
use Rattle.std.specs.Prelude.{unwrap_or}
use Rattle.mg_value.specs.Value.{Value, item_list, null}
use Rattle.mg_value.specs.View.{items_of}
use Rattle.mg_collate.specs.Row.{RowValue}
use Rattle.mg_doc.specs.Served.{served_of}
use Rattle.mg_revtree.specs.History.{Paths}
use Rattle.mg_path.specs.Part.{part_of}
use Rattle.mg_path.specs.Equal.{path_eq}
use Rattle.mg_selector.specs.Meaning.{holds_in}
use Rattle.mg_selector.specs.declared.sense.Sense.TheVariants.{Plain}
use Rattle.mg_normal.specs.Atoms.{atoms_of}
use Rattle.mg_index.specs.Choice.{id_path, rev_path, is_covered, is_usable}
use Rattle.mg_index.specs.Definition.{Steps}
use Rattle.mg_index.specs.Key.{key_of}
use Rattle.mg_index.proofs.Paths.{paths_eq-Decides}
use Rattle.mg_range.specs.Laws.{Has, HasKey, RangesAreComplete}
use Rattle.mg_range.specs.RangeSide.{has_key}
use Rattle.mg_range.specs.Range.{range_of}
use Rattle.mg_range.proofs.Contained.{contained}
use Rattle.mg_shard.specs.Histories.{ServedDocument, served_entry}
use Rattle.mg_shard.specs.Rows.{row_key, row_of}
use Rattle.mg_query.specs.Page.{Candidate, candidate_of, is_asked, row_by, value_at}
use Rattle.mg_query.specs.Query.{Query}
use Rattle.mg_query.proofs.Gathered.{rows_asked}

-- a candidate's id and form
abbrev pub document : Candidate → ServedDocument
document c = (c.id, c.form)

pub shown_first : {E X : Type 0} (f : E → Option X) (e : E) (es : List E) (o : Option X) → f e ≡ o → filter_map f (e ∷ es) ≡ option_to_list o ++ filter_map f es
shown_first f e es None h = rw h
shown_first f e es (Some x) h = rw h

one_document : (id : List ℕ) (h : Paths) (o : Option Value) (rest : List Candidate) (more : List ServedDocument) → map document rest ≡ more
    → map document (option_to_list (option_map (λ form. record { id = id; form = form; history = h }) o) ++ rest) ≡ option_to_list (option_map (λ form. (id, form)) o) ++ more
one_document id h None rest more k = k
one_document id h (Some form) rest more k = ap (λ ds. (id, form) ∷ ds) k

-- the candidates are the served documents
pub documents_of : (es : List (List ℕ × Paths)) → map document (filter_map candidate_of es) ≡ filter_map served_entry es
documents_of [] = refl
documents_of (e ∷ es) =
    ap (map document) (shown_first candidate_of e es (candidate_of e) refl)
    ∙ one_document e.0 e.1 (served_of e.0 e.1) (filter_map candidate_of es) (filter_map served_entry es) (documents_of es)
    ∙ sym (shown_first served_entry e es (served_entry e) refl)

-- ---- keys

items_listed : (vs : List Value) → item_list (items_of vs) ≡ vs
items_listed [] = refl
items_listed (v ∷ vs) = ap (λ ws. v ∷ ws) (items_listed vs)

lengths_at : (part : Option Value) (vs : Option (List Value)) (cs : List Steps) (key : List Value) → ((k : List Value) → vs ≡ Some k → length k ≡ length cs)
    → option_and_then (λ w. option_map (λ ws. w ∷ ws) vs) part ≡ Some key → length key ≡ suc (length cs)
lengths_at None vs cs key h e = absurd cc
lengths_at (Some w) None cs key h e = absurd cc
lengths_at (Some w) (Some vs) cs key h e = let k : w ∷ vs ≡ key = ap (λ o. unwrap_or o key) e in ap length (sym k) ∙ ap suc (h vs refl)

lengths : (v : Value) (columns : List Steps) (key : List Value) → HasKey columns v key → length key ≡ length columns
lengths v [] [] e = refl
lengths v [] (w ∷ key) e = absurd cc
lengths v (c ∷ cs) key e = lengths_at (part_of c v) (key_of cs v) cs key (λ k h. lengths v cs k h) e

-- the values of the columns are the key
values_at : (part : Option Value) (vs : Option (List Value)) (rest key : List Value) (d : Value) → ((k : List Value) → vs ≡ Some k → rest ≡ k)
    → option_and_then (λ w. option_map (λ ws. w ∷ ws) vs) part ≡ Some key → unwrap_or part d ∷ rest ≡ key
values_at None vs rest key d h e = absurd cc
values_at (Some w) None rest key d h e = absurd cc
values_at (Some w) (Some vs) rest key d h e = ap (λ ws. w ∷ ws) (h vs refl) ∙ ap (λ o. unwrap_or o key) e

values_are : (c : Candidate) (columns : List Steps) (key : List Value) → HasKey columns c.form key → map (value_at c) columns ≡ key
values_are c [] key e = ap (λ o. unwrap_or o []) e
values_are c (column ∷ columns) key e = values_at (part_of column c.form) (key_of columns c.form) (map (value_at c) columns) key null (λ k h. values_are c columns k h) e

-- ---- a document that lacks a path of the sort has no row

lacks_at : (part : Option Value) (b : Bool) (key : Option (List Value)) → (b ≡ false → key ≡ None) → (is_some part && b) ≡ false → option_and_then (λ w. option_map (λ ws. w ∷ ws) key) part ≡ None
lacks_at None b key h e = refl
lacks_at (Some w) b key h e = rw (h e)

lacks : (v : Value) (n : ℕ) (columns : List Steps) → list_all (λ path. is_some (part_of path v)) (take n columns) ≡ false → key_of columns v ≡ None
lacks v zero columns e = absurd cc
lacks v (suc n) [] e = absurd cc
lacks v (suc n) (c ∷ cs) e = lacks_at (part_of c v) (list_all (λ path. is_some (part_of path v)) (take n cs)) (key_of cs v) (λ h. lacks v n cs h) e

no_row : (v : Value) (sort columns : List Steps) → starts_with path_eq columns sort ≡ true → list_all (λ path. is_some (part_of path v)) sort ≡ false → row_key columns v ≡ None
no_row v sort columns begins e =
    ap (option_map items_of)
    (lacks v (length sort) columns (ap (list_all (λ path. is_some (part_of path v))) (sym ((paths_eq-Decides sort (take (length sort) columns)).0 begins)) ∙ e))

all_there : (v : Value) (sort : List Steps) → list_all (λ path. is_some (part_of path v)) sort ≡ true → All (Has v) sort
all_there v [] e k d h = absurd (omega arith)
all_there v (path ∷ sort) e zero d h = (and_parts (is_some (part_of path v)) (list_all (λ p. is_some (part_of p v)) sort) e).0
all_there v (path ∷ sort) e (suc k) d h = all_there v sort (and_parts (is_some (part_of path v)) (list_all (λ p. is_some (part_of p v)) sort) e).1 k d (omega arith)

-- ---- the rows

plain : (after ranged : RowValue → Bool) (a s : Bool) (row : Option RowValue) (r : RowValue) → (a ≡ true → s ≡ true → (row ≡ Some r) × (ranged r ≡ true)) → (s ≡ false → row ≡ None)
    → filter (λ x. ranged x && after x) (cond a (option_to_list row) []) ≡ filter after (cond (a && s) (r ∷ []) [])
plain after ranged false s row r h k = refl
plain after ranged true false row r h k = ap (λ o. filter (λ x. ranged x && after x) (option_to_list o)) (k refl)
plain after ranged true true row r h k =
    let p = h refl refl in ap (λ o. filter (λ x. ranged x && after x) (option_to_list o)) p.0 ∙ ap (λ b. cond (b && after r) (r ∷ []) []) p.1

-- a document that a query asks for has one row in a usable index, which is in the range; another document has no row that is asked for
pub found_by_row : RangesAreComplete → (q : Query) (columns : List Steps) (after : RowValue → Bool) (holds : Option Value → Bool) → ((x : Option Value) → holds x ≡ holds_in q.selector Plain x)
    → is_usable (atoms_of q.selector) q.sort columns ≡ true → (c : Candidate) → Has c.form id_path → Has c.form rev_path
    → rows_asked (λ d. holds (Some d.1)) (row_of columns) (λ r. has_key (range_of (atoms_of q.selector) columns) (item_list r.0) && after r) (document c) ≡ filter after (cond (is_asked q c) (row_by columns c ∷ []) [])
found_by_row complete q columns after holds same usable c i r =
    let atoms = atoms_of q.selector in
    let ranged = λ (x : RowValue). has_key (range_of atoms columns) (item_list x.0) in
    let present = list_all (λ path. is_some (part_of path c.form)) q.sort in
    let parts = and_parts (list_all (is_covered atoms q.sort) columns) (starts_with path_eq columns q.sort) usable in
    ap (λ b. filter (λ x. ranged x && after x) (cond b (option_to_list (row_of columns (document c))) [])) (same (Some c.form))
    ∙ plain after ranged (holds_in q.selector Plain (Some c.form)) present (row_of columns (document c)) (row_by columns c)
    (λ holding there.
    let found = complete q.selector q.sort columns c.form usable i r (all_there c.form q.sort there) holding in
    let key = found.0 in
    let values = values_are c columns key found.1 in (
      ap (λ o. option_map (λ k. (k, c.id)) (option_map items_of o)) found.1 ∙ ap (λ vs. Some (items_of vs, c.id)) (sym values),
      ap (λ vs. has_key (range_of atoms columns) (item_list (items_of vs))) values ∙ ap (has_key (range_of atoms columns)) (items_listed key) ∙ contained atoms columns key (lengths c.form columns key found.1) ∙ found.2,
    ))
    (λ absent. ap (option_map (λ k. (k, c.id))) (no_row c.form q.sort columns parts.1 absent))
