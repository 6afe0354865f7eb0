-- Indexes in the order of their definitions: insertion, removal and look-up by name, and mending them one after another.
use Rattle.std.proofs.Common.{◌≡◌, ℕ, zero, suc, ◌+◌, ◌<◌, ◌≤◌, Bool, true, false, cond, not, ◌&&◌, List, [], ◌∷◌, ◌++◌, Option, Some, option_map, Ordering, Less, Equal, Greater, is_eq, is_gt, is_lt, length, slice_get, set, unwrap_or, refl, sym, ap, ap₂, ◌∙◌, subst, arith}
use Rattle.std.proofs.lemmas.Cmp.{nat_list_cmp_total, tied_itself}
use Rattle.std.proofs.lemmas.Map.Text.{is_eq-slice_cmp}
use Rattle.std.proofs.lemmas.Option.{get_or_from_slice_get}
use Rattle.std.specs.List.{AllByRecursion, filter, find}
use Rattle.std.specs.Cmp.Lexicographic.{slice_cmp}
use Rattle.std.specs.Ordering.{match_ordering, nat_cmp, ordering_then}
use Rattle.std.specs.Str.{bytes_eq}
use Rattle.mg_index.specs.Catalog.{IsCatalog, definition_at, definition_order, is_named, with_definition, without_definition}
use Rattle.mg_index.specs.Definition.{IndexDefinition}
use Rattle.mg_index.proofs.Catalogs.{IsCatalog-with, IsCatalog-without}
use Rattle.mg_pages.specs.Order.{Ascends, IsProbe, above, below, first_of_list, found, inserted, removed}
use Rattle.mg_pages.specs.Search.{AllAbove as AllAboveKey}
use Rattle.mg_pages.proofs.Lasts.{found_among}
use Rattle.mg_pages.proofs.Pieces.{piece_among, piece_itself}
use Rattle.mg_pages.proofs.Sorted.{above_of_above, all_weaker, below_of_above}
use Rattle.mg_shard.specs.Documents.{KeptDocuments, docs_of}
use Rattle.mg_shard.specs.Rows.{rows_of}
use Rattle.mg_shard.proofs.Shown.{bytes_cmp, bytes_exact}
use Rattle.mg_shard.proofs.Standing.{tied}
use Rattle.mg_shard.specs.Index.{AreIndexes, HasRows, Index, definition_order_total, definitions_of, index_order, name_against, name_probes}

abbrev AllAbove : IndexDefinition → List IndexDefinition → Type 0
AllAbove d ds = AllByRecursion (λ e. definition_order d e ≡ Less) ds

-- ---- an index that is inserted

filtered : (b : Bool) (x : Index) (xs : List Index) → definitions_of (cond b (x ∷ xs) xs) ≡ cond b (x.0 ∷ definitions_of xs) (definitions_of xs)
filtered true x xs = refl
filtered false x xs = refl

definitions-where : (p : IndexDefinition → Bool) (xs : List Index) → definitions_of (filter (λ x. p x.0) xs) ≡ filter p (definitions_of xs)
definitions-where p [] = refl
definitions-where p (x ∷ xs) = filtered (p x.0) x (filter (λ y. p y.0) xs) ∙ ap (λ ds. cond (p x.0) (x.0 ∷ ds) ds) (definitions-where p xs)

definitions-append : (xs ys : List Index) → definitions_of (xs ++ ys) ≡ definitions_of xs ++ definitions_of ys
definitions-append [] ys = refl
definitions-append (x ∷ xs) ys = ap (λ ds. x.0 ∷ ds) (definitions-append xs ys)

definitions-inserted : (x : Index) (xs : List Index) → definitions_of (inserted index_order x xs) ≡ inserted definition_order x.0 (definitions_of xs)
definitions-inserted x xs =
    definitions-append (below (index_order x) xs) (x ∷ above (index_order x) xs)
    ∙ ap₂ (λ a b. a ++ x.0 ∷ b) (definitions-where (λ d. is_gt (definition_order x.0 d)) xs) (definitions-where (λ d. is_lt (definition_order x.0 d)) xs)

above_all : (d e : IndexDefinition) (es : List IndexDefinition) → definition_order d e ≡ Less → AllAbove e es → AllAbove d es
above_all d e [] h t = tt
above_all d e (x ∷ xs) h t = (definition_order_total.trans d e x h t.0, above_all d e xs h t.1)

alike_all : (d e : IndexDefinition) (es : List IndexDefinition) → definition_order d e ≡ Equal → AllAbove e es → AllAbove d es
alike_all d e [] h t = tt
alike_all d e (x ∷ xs) h t = (definition_order_total.congr d e x h ∙ t.0, alike_all d e xs h t.1)

with_step : (d e : IndexDefinition) (es : List IndexDefinition) (o : Ordering) → definition_order d e ≡ o → IsCatalog (e ∷ es) → inserted definition_order d es ≡ with_definition d es
    → cond (is_gt o) (e ∷ below (definition_order d) es) (below (definition_order d) es) ++ d ∷ cond (is_lt o) (e ∷ above (definition_order d) es) (above (definition_order d) es)
    ≡ match_ordering o (d ∷ e ∷ es) (d ∷ es) (e ∷ with_definition d es)
with_step d e es Less is c rest =
    let all = above_all d e es is c.0 in ap₂ (λ a b. a ++ d ∷ e ∷ b) (below_of_above (definition_order d) es all) (above_of_above (definition_order d) es all)
with_step d e es Equal is c rest =
    let all = alike_all d e es is c.0 in ap₂ (λ a b. a ++ d ∷ b) (below_of_above (definition_order d) es all) (above_of_above (definition_order d) es all)
with_step d e es Greater is c rest = ap (λ ds. e ∷ ds) rest

inserted_is : (d : IndexDefinition) (ds : List IndexDefinition) → IsCatalog ds → inserted definition_order d ds ≡ with_definition d ds
inserted_is d [] c = refl
inserted_is d (e ∷ es) c = with_step d e es (definition_order d e) refl c (inserted_is d es c.1)

-- an insertion inserts the index's definition into the catalog
pub definitions-with : (x : Index) (xs : List Index) → IsCatalog (definitions_of xs) → definitions_of (inserted index_order x xs) ≡ with_definition x.0 (definitions_of xs)
definitions-with x xs c = definitions-inserted x xs ∙ inserted_is x.0 (definitions_of xs) c

-- ---- facts of all indexes

either_way : (P : Index → Type 0) (b : Bool) (x : Index) (xs : List Index) → P x → AllByRecursion P xs → AllByRecursion P (cond b (x ∷ xs) xs)
either_way P true x xs p h = (p, h)
either_way P false x xs p h = h

pub all_where : (P : Index → Type 0) (p : Index → Bool) (xs : List Index) → AllByRecursion P xs → AllByRecursion P (filter p xs)
all_where P p [] h = tt
all_where P p (x ∷ xs) h = either_way P (p x) x (filter p xs) h.0 (all_where P p xs h.1)

all_append : (P : Index → Type 0) (xs ys : List Index) → AllByRecursion P xs → AllByRecursion P ys → AllByRecursion P (xs ++ ys)
all_append P [] ys h k = k
all_append P (x ∷ xs) ys h k = (h.0, all_append P xs ys h.1 k)

-- a fact of all indexes and of one more holds of all after the insertion
pub all_inserted : (P : Index → Type 0) (x : Index) (xs : List Index) → P x → AllByRecursion P xs → AllByRecursion P (inserted index_order x xs)
all_inserted P x xs p h =
    all_append P (below (index_order x) xs) (x ∷ above (index_order x) xs) (all_where P (λ y. is_gt (index_order x y)) xs h) (p, all_where P (λ y. is_lt (index_order x y)) xs h)

pub with_index_sound : (ds : KeptDocuments) (x : Index) (xs : List Index) → HasRows ds x → AreIndexes ds xs → AreIndexes ds (inserted index_order x xs)
with_index_sound ds x xs has a = record {
  catalog = subst (λ cs. IsCatalog cs) (sym (definitions-with x xs a.catalog)) (IsCatalog-with x.0 (definitions_of xs) a.catalog);
  rows = all_inserted (HasRows ds) x xs has a.rows;
}

-- ---- indexes that are mended one after another

pub all_get : {X : Type 0} (P : X → Type 0) (xs : List X) (j : ℕ) (x : X) → AllByRecursion P xs → slice_get xs j ≡ Some x → P x
all_get P [] j x h e = absurd cc
all_get P (y ∷ xs) zero x h e = subst P (ap (λ o. unwrap_or o y) e) h.0
all_get P (y ∷ xs) (suc j) x h e = all_get P xs j x h.1 e

pub all_from : {X : Type 0} (P : X → Type 0) (xs : List X) → ((j : ℕ) (x : X) → slice_get xs j ≡ Some x → P x) → AllByRecursion P xs
all_from P [] h = tt
all_from P (y ∷ xs) h = (h 0 y refl, all_from P xs (λ j x e. h (suc j) x e))

-- the first i indexes have the rows of the new documents, the others those of the old documents
abbrev pub MendedBelow : KeptDocuments → KeptDocuments → ℕ → List Index → Type 0
MendedBelow old new i xs = (j : ℕ) (x : Index) → slice_get xs j ≡ Some x → (j < i → HasRows new x) × (i ≤ j → HasRows old x)

same_some : {X : Type 0} (x y : X) → Some x ≡ Some y → x ≡ y
same_some x y e = ap (λ o. unwrap_or o x) e

get-set : {X : Type 0} (xs : List X) (i : ℕ) (x : X) → i < length xs → slice_get (set xs i x) i ≡ Some x
get-set [] i x l = absurd (omega arith)
get-set (y ∷ xs) zero x l = refl
get-set (y ∷ xs) (suc i) x l = get-set xs i x (omega arith)

get-set_other : {X : Type 0} (xs : List X) (i j : ℕ) (x : X) → (j ≡ i → ⊥) → slice_get (set xs i x) j ≡ slice_get xs j
get-set_other [] i j x apart = refl
get-set_other (y ∷ xs) zero zero x apart = absurd (apart refl)
get-set_other (y ∷ xs) zero (suc j) x apart = refl
get-set_other (y ∷ xs) (suc i) zero x apart = refl
get-set_other (y ∷ xs) (suc i) (suc j) x apart = get-set_other xs i j x (λ e. apart (ap suc e))

split : {A : Type 0} (a b : ℕ) → (a ≡ b → A) → ((a ≡ b → ⊥) → A) → A
split zero zero f g = f refl
split zero (suc b) f g = g (λ e. absurd cc)
split (suc a) zero f g = g (λ e. absurd cc)
split (suc a) (suc b) f g = split a b (λ e. f (ap suc e)) (λ n. g (λ e. n (omega (arith, e))))

-- one more index is mended
pub mended_more : (old new : KeptDocuments) (xs : List Index) (i : ℕ) (x y : Index) → slice_get xs i ≡ Some x → i < length xs → (HasRows old x → HasRows new y)
    → MendedBelow old new i xs → MendedBelow old new (i + 1) (set xs i y)
mended_more old new xs i x y at l did h j z e = split j i
    (λ here.
    let is : y ≡ z = same_some y z (sym (get-set xs i y l) ∙ ap (slice_get (set xs i y)) (sym here) ∙ e) in
    (λ k. subst (λ v. HasRows new v) is (did ((h i x at).1 (omega arith))), λ k. absurd (omega (arith, here, k))))
    (λ apart.
    let before = h j z (sym (get-set_other xs i j y apart) ∙ e) in
    (λ k. before.0 (below_other j i k apart), λ k. before.1 (omega (arith, k))))
  where
    below_other : (j i : ℕ) → j < i + 1 → (j ≡ i → ⊥) → j < i
    below_other zero zero k apart = absurd (apart refl)
    below_other zero (suc i) k apart = omega arith
    below_other (suc j) zero k apart = absurd (omega (arith, k))
    below_other (suc j) (suc i) k apart = let less = below_other j i (omega (arith, k)) (λ e. apart (ap suc e)) in omega (arith, less)

pub mended_first : (old new : KeptDocuments) (xs : List Index) → AllByRecursion (HasRows old) xs → MendedBelow old new 0 xs
mended_first old new xs h j x e = (λ k. absurd (omega (arith, k)), λ k. all_get (HasRows old) xs j x h e)

get_within : {X : Type 0} (xs : List X) (j : ℕ) (x : X) → slice_get xs j ≡ Some x → j < length xs
get_within [] j x e = absurd cc
get_within (y ∷ xs) zero x e = omega arith
get_within (y ∷ xs) (suc j) x e = let less = get_within xs j x e in omega (arith, less)

pub mended_last : (old new : KeptDocuments) (xs : List Index) (i : ℕ) → length xs ≤ i → MendedBelow old new i xs → AllByRecursion (HasRows new) xs
mended_last old new xs i l h =
    all_from (HasRows new) xs (λ j x e. let within = get_within xs j x e in (h j x e).0 (omega (arith, within, l)))

-- an index that is replaced by one with its definition leaves the list of definitions unchanged
pub same_definitions : (xs : List Index) (i : ℕ) (x y : Index) → slice_get xs i ≡ Some x → y.0 ≡ x.0 → definitions_of (set xs i y) ≡ definitions_of xs
same_definitions [] i x y at e = refl
same_definitions (z ∷ xs) zero x y at e = ap (λ d. d ∷ definitions_of xs) (e ∙ sym (ap (λ o. (unwrap_or o z).0) at))
same_definitions (z ∷ xs) (suc i) x y at e = ap (λ ds. z.0 ∷ ds) (same_definitions xs i x y at e)

-- ---- an index that is left out by name

same_text : (s t : List ℕ) → bytes_eq s t ≡ true → s ≡ t
same_text s t e = bytes_exact s t (tied (bytes_cmp s t) (is_eq-slice_cmp s t ∙ e))

both_true : (a b : Bool) → (a && b) ≡ true → (a ≡ true) × (b ≡ true)
both_true true b e = (refl, e)
both_true false b e = absurd cc

tied_names : (d e : IndexDefinition) → d.ddoc ≡ e.ddoc → d.name ≡ e.name → definition_order d e ≡ Equal
tied_names d e p q =
    ap₂ ordering_then (ap (slice_cmp nat_cmp d.ddoc) (sym p) ∙ tied_itself nat_list_cmp_total d.ddoc) (ap (slice_cmp nat_cmp d.name) (sym q) ∙ tied_itself nat_list_cmp_total d.name)

not_both : (ddoc name : List ℕ) (d e : IndexDefinition) (b : Bool) → is_named ddoc name e ≡ b → is_named ddoc name d ≡ true → definition_order d e ≡ Less → b ≡ false
not_both ddoc name d e true at is less =
    let here = both_true (bytes_eq ddoc d.ddoc) (bytes_eq name d.name) is in
    let there = both_true (bytes_eq ddoc e.ddoc) (bytes_eq name e.name) at in
    let tie = tied_names d e (sym (same_text ddoc d.ddoc here.0) ∙ same_text ddoc e.ddoc there.0) (sym (same_text name d.name here.1) ∙ same_text name e.name there.1) in
    let wrong : Equal ≡ Less = sym tie ∙ less in absurd cc
not_both ddoc name d e false at is less = refl

none_other : (ddoc name : List ℕ) (d : IndexDefinition) (es : List IndexDefinition) → is_named ddoc name d ≡ true → AllAbove d es → filter (λ e. not (is_named ddoc name e)) es ≡ es
none_other ddoc name d [] is h = refl
none_other ddoc name d (e ∷ es) is h =
    ap (λ b. cond (not b) (e ∷ filter (λ x. not (is_named ddoc name x)) es) (filter (λ x. not (is_named ddoc name x)) es)) (not_both ddoc name d e (is_named ddoc name e) refl is h.0)
    ∙ ap (λ xs. e ∷ xs) (none_other ddoc name d es is h.1)

without_step : (ddoc name : List ℕ) (d : IndexDefinition) (ds : List IndexDefinition) (b : Bool) → is_named ddoc name d ≡ b → AllAbove d ds → filter (λ e. not (is_named ddoc name e)) ds ≡ without_definition ddoc name ds
    → cond (not b) (d ∷ filter (λ e. not (is_named ddoc name e)) ds) (filter (λ e. not (is_named ddoc name e)) ds) ≡ cond b ds (d ∷ without_definition ddoc name ds)
without_step ddoc name d ds true is h rest = none_other ddoc name d ds is h
without_step ddoc name d ds false is h rest = ap (λ xs. d ∷ xs) rest

left_out : (ddoc name : List ℕ) (ds : List IndexDefinition) → IsCatalog ds → filter (λ e. not (is_named ddoc name e)) ds ≡ without_definition ddoc name ds
left_out ddoc name [] c = refl
left_out ddoc name (d ∷ ds) c = without_step ddoc name d ds (is_named ddoc name d) refl c.0 (left_out ddoc name ds c.1)

-- without the index of a name, the definitions are the catalog without the definition of this name
pub definitions-without : (ddoc name : List ℕ) (xs : List Index) → IsCatalog (definitions_of xs) → definitions_of (filter (λ x. not (is_named ddoc name x.0)) xs) ≡ without_definition ddoc name (definitions_of xs)
definitions-without ddoc name xs c = definitions-where (λ d. not (is_named ddoc name d)) xs ∙ left_out ddoc name (definitions_of xs) c

pub without_index_sound : (ds : KeptDocuments) (ddoc name : List ℕ) (xs : List Index) → AreIndexes ds xs → AreIndexes ds (filter (λ x. not (is_named ddoc name x.0)) xs)
without_index_sound ds ddoc name xs a = record {
  catalog = subst (λ cs. IsCatalog cs) (sym (definitions-without ddoc name xs a.catalog)) (IsCatalog-without ddoc name (definitions_of xs) a.catalog);
  rows = all_where (HasRows ds) (λ x. not (is_named ddoc name x.0)) xs a.rows;
}

-- ---- an index that is looked up by name

found_here : (ds : KeptDocuments) (b : Bool) (x : Index) (o : Option Index) (p : Option IndexDefinition) → HasRows ds x
    → option_map (λ y. y.1) o ≡ option_map (λ d. rows_of d.columns (docs_of ds)) p
    → option_map (λ y. y.1) (cond b (Some x) o) ≡ option_map (λ d. rows_of d.columns (docs_of ds)) (cond b (Some x.0) p)
found_here ds true x o p has e = ap Some has
found_here ds false x o p has e = e

-- the rows of the index of a name are those made from scratch
pub rows_found : (ds : KeptDocuments) (ddoc name : List ℕ) (xs : List Index) → AllByRecursion (HasRows ds) xs
    → option_map (λ x. x.1) (find (λ x. is_named ddoc name x.0) xs) ≡ option_map (λ d. rows_of d.columns (docs_of ds)) (definition_at ddoc name (definitions_of xs))
rows_found ds ddoc name [] h = refl
rows_found ds ddoc name (x ∷ xs) h = found_here ds (is_named ddoc name x.0) x _ _ h.0 (rows_found ds ddoc name xs h.1)

tied_then : (a b : Ordering) → is_eq (ordering_then a b) ≡ (is_eq a && is_eq b)
tied_then Less b = refl
tied_then Equal b = refl
tied_then Greater b = refl

-- a design document and a name tie with an index exactly if it has both
pub ties-named : (ddoc name : List ℕ) (x : Index) → is_eq (name_against ddoc name x) ≡ is_named ddoc name x.0
ties-named ddoc name x =
    tied_then (slice_cmp nat_cmp ddoc x.0.ddoc) (slice_cmp nat_cmp name x.0.name) ∙ ap₂ (λ a b. a && b) (is_eq-slice_cmp ddoc x.0.ddoc) (is_eq-slice_cmp name x.0.name)

first_where : (b : Bool) (x : Index) (ys : List Index) (o : Option Index) → first_of_list ys ≡ o → first_of_list (cond b (x ∷ ys) ys) ≡ cond b (Some x) o
first_where true x ys o e = refl
first_where false x ys o e = e

first_found : (p : Index → Bool) (xs : List Index) → first_of_list (filter p xs) ≡ find p xs
first_found p [] = refl
first_found p (x ∷ xs) = first_where (p x) x (filter p xs) (find p xs) (first_found p xs)

-- a look-up by design document and name finds the index that has both
pub found-named : (ddoc name : List ℕ) (xs : List Index) → found (name_against ddoc name) xs ≡ find (λ x. is_named ddoc name x.0) xs
found-named ddoc name xs = first_found (λ x. is_eq (name_against ddoc name x)) xs ∙ (λ i. find (λ x. ties-named ddoc name x i) xs)

-- the index that has both is the one that a look-up finds, wherever it is
pub named_at : (ddoc name : List ℕ) (xs : List Index) (i : ℕ) (x : Index) → Ascends index_order xs → Some x ≡ slice_get xs i → is_named ddoc name x.0 ≡ true → Some x ≡ find (λ y. is_named ddoc name y.0) xs
named_at ddoc name xs i x s at is =
    let within = get_within xs i x (sym at) in
    let among = piece_among xs xs (piece_itself xs xs refl) i x within (sym (get_or_from_slice_get xs i x x (sym at))) in
    sym (sym (found-named ddoc name xs) ∙ found_among index_order (name_against ddoc name) (name_probes ddoc name) xs x s among (tied (name_against ddoc name x) (ties-named ddoc name x ∙ is)))

-- ---- an index that is removed

removed_step : (against : Index → Ordering) (x : Index) (xs rest : List Index) (r : Ordering) → (is_gt r ≡ false → AllAboveKey against xs) → removed against xs ≡ rest
    → cond (is_gt r) (x ∷ below against xs) (below against xs) ++ cond (is_lt r) (x ∷ above against xs) (above against xs) ≡ cond (not (is_eq r)) (x ∷ rest) rest
removed_step against x xs rest Less all e =
    let none = below_of_above against xs (all refl) in
    ap (λ ys. ys ++ x ∷ above against xs) none ∙ ap (λ ys. x ∷ ys) (sym (ap (λ ys. ys ++ above against xs) none) ∙ e)
removed_step against x xs rest Equal all e = e
removed_step against x xs rest Greater all e = ap (λ ys. x ∷ ys) e

removed_where : (against : Index → Ordering) (xs : List Index) → IsProbe index_order against → Ascends index_order xs → removed against xs ≡ filter (λ x. not (is_eq (against x))) xs
removed_where against [] p a = refl
removed_where against (x ∷ xs) p a =
    removed_step against x xs (filter (λ y. not (is_eq (against y))) xs) (against x)
    (λ n. all_weaker (λ y. index_order x y ≡ Less) (λ y. against y ≡ Less) (λ y l. p x y l n) xs a.0) (removed_where against xs p a.1)

-- the removal by design document and name leaves the indexes that do not have both
pub removed-named : (ddoc name : List ℕ) (xs : List Index) → Ascends index_order xs → removed (name_against ddoc name) xs ≡ filter (λ x. not (is_named ddoc name x.0)) xs
removed-named ddoc name xs a = removed_where (name_against ddoc name) xs (name_probes ddoc name) a ∙ (λ i. filter (λ x. not (ties-named ddoc name x i)) xs)

-- ---- the order of the indexes

above_those : (d : IndexDefinition) (xs : List Index) → AllAbove d (definitions_of xs) → AllByRecursion (λ (y : Index). definition_order d y.0 ≡ Less) xs
above_those d [] h = tt
above_those d (x ∷ xs) h = (h.0, above_those d xs h.1)

-- indexes whose definitions are a catalog ascend
pub catalog_ascends : (xs : List Index) → IsCatalog (definitions_of xs) → Ascends index_order xs
catalog_ascends [] c = tt
catalog_ascends (x ∷ xs) c = (above_those x.0 xs c.0, catalog_ascends xs c.1)
