-- Lists of definitions in the order of a catalog: where a definition goes, and that adding and removing keep the order.
use Rattle.std.proofs.Common.{◌≡◌, ℕ, zero, suc, ◌+◌, ◌<◌, ◌≤◌, Bool, true, false, cond, ◌&&◌, List, [], ◌∷◌, length, get_or, set, Option, Some, None, unwrap_or, Ordering, Less, Equal, Greater, refl, sym, ap, ap₂, ◌∙◌, arith}
use Rattle.std.proofs.lemmas.Bool.Decides.{nat_tests}
use Rattle.std.proofs.lemmas.Bool.{and_parts, false≢true}
use Rattle.std.proofs.lemmas.Cmp.{then_total, on_total, nat_list_cmp_total, same_from_slice_cmp}
use Rattle.std.proofs.lemmas.Slice.Eq.{bytes_eq-Decides}
use Rattle.std.specs.Cmp.{IsTotalOrder}
use Rattle.std.specs.Cmp.Lexicographic.{slice_cmp, pointwise}
use Rattle.std.specs.List.{AllByRecursion, remove, insert}
use Rattle.std.specs.Option.{option_map_or}
use Rattle.std.specs.Ordering.{is_eq, nat_cmp, ordering_then, is_lt, ordering_reverse, match_ordering}
use Rattle.std.specs.Str.{bytes_eq}
use Rattle.mg_collate.specs.declared.direction.Direction.{Direction}
use Rattle.mg_collate.specs.declared.direction.Direction.TheVariants.{Asc, Desc}
use Rattle.mg_path.specs.Equal.{path_eq}
use Rattle.mg_index.specs.Catalog.{definition_order, is_named, definition_at, with_definition, without_definition, IsCatalog}
use Rattle.mg_index.specs.Definition.{Steps, IndexDefinition}
use Rattle.mg_index.specs.Places.{IsSlotOf, name_order}
use Rattle.mg_index.specs.Reading.{is_same}
use Rattle.mg_index.specs.Same.{is_same_definition, is_there}
use Rattle.mg_index.specs.declared.catalog.Slot.TheVariants.{At, Before}
use Rattle.mg_index.proofs.Paths.{path_eq-Decides, paths_eq-Decides}

total : IsTotalOrder definition_order
total = then_total (on_total (λ (d : IndexDefinition). d.ddoc) nat_list_cmp_total) (on_total (λ (d : IndexDefinition). d.name) nat_list_cmp_total)

is_eq-then : (a b : Ordering) → is_eq (ordering_then a b) ≡ (is_eq a && is_eq b)
is_eq-then Less b = refl
is_eq-then Equal b = refl
is_eq-then Greater b = refl

bytes_eq-is : (s t : List ℕ) → bytes_eq s t ≡ is_eq (slice_cmp nat_cmp s t)
bytes_eq-is s t =
    sym (same_from_slice_cmp nat_cmp is_eq bytes_eq refl (λ _ _. refl) (λ _ _. refl) (λ x y xs ys o h. grind (arith, nat_tests)) s t (slice_cmp nat_cmp s t) refl)

-- a definition has the design document and name of another exactly if the two tie in the order
is_named-is : (d e : IndexDefinition) → is_named d.ddoc d.name e ≡ is_eq (definition_order d e)
is_named-is d e = ap₂ ◌&&◌ (bytes_eq-is d.ddoc e.ddoc) (bytes_eq-is d.name e.name) ∙ sym (is_eq-then (slice_cmp nat_cmp d.ddoc e.ddoc) (slice_cmp nat_cmp d.name e.name))

abbrev AllAbove : IndexDefinition → List IndexDefinition → Type 0
AllAbove d ds = AllByRecursion (λ e. definition_order d e ≡ Less) ds

below_all : (d e : IndexDefinition) (es : List IndexDefinition) → definition_order d e ≡ Less → AllAbove e es → AllAbove d es
below_all d e [] h t = tt
below_all d e (x ∷ xs) h t = (total.trans d e x h t.0, below_all d e xs h t.1)

alike_all : (d e : IndexDefinition) (es : List IndexDefinition) → definition_order d e ≡ Equal → AllAbove e es → AllAbove d es
alike_all d e [] h t = tt
alike_all d e (x ∷ xs) h t = (total.congr d e x h ∙ t.0, alike_all d e xs h t.1)

none_below : (d : IndexDefinition) (es : List IndexDefinition) → AllAbove d es
    → (definition_at d.ddoc d.name es ≡ None) × (without_definition d.ddoc d.name es ≡ es)
none_below d [] h = (refl, refl)
none_below d (x ∷ xs) h =
    let no : is_named d.ddoc d.name x ≡ false = is_named-is d x ∙ ap is_eq h.0 in
    let more = none_below d xs h.1 in (
      ap (λ b. cond b (Some x) (definition_at d.ddoc d.name xs)) no ∙ more.0,
      ap (λ b. cond b xs (x ∷ without_definition d.ddoc d.name xs)) no ∙ ap (λ ys. x ∷ ys) more.1,
    )

-- ---- a definition goes to its place

abbrev with_at : IndexDefinition → IndexDefinition → List IndexDefinition → Ordering → List IndexDefinition
with_at d e es o = match_ordering o (d ∷ e ∷ es) (d ∷ es) (e ∷ with_definition d es)

-- d is inserted at a place if all definitions before it are below d, and the one there, if any, is above d
goes_before : (d : IndexDefinition) (ds : List IndexDefinition) (i : ℕ) → IsCatalog ds → i ≤ length ds
    → ((x : IndexDefinition) (k : ℕ) → k < i → definition_order d (get_or ds k x) ≡ Greater)
    → ((x : IndexDefinition) → i < length ds → definition_order d (get_or ds i x) ≡ Less)
    → (definition_at d.ddoc d.name ds ≡ None) × (without_definition d.ddoc d.name ds ≡ ds) × (with_definition d ds ≡ insert ds i d)
goes_before d [] zero c le above here = (refl, refl, refl)
goes_before d [] (suc i) c le above here = absurd (omega arith)
goes_before d (e ∷ es) zero c le above here =
    let h : definition_order d e ≡ Less = here d (omega arith) in
    let none = none_below d (e ∷ es) (h, below_all d e es h c.0) in (none.0, none.1, ap (with_at d e es) h)
goes_before d (e ∷ es) (suc i) c le above here =
    let g : definition_order d e ≡ Greater = above d 0 (omega arith) in
    let no : is_named d.ddoc d.name e ≡ false = is_named-is d e ∙ ap is_eq g in
    let more = goes_before d es i c.1 (omega arith) (λ x k lt. above x (suc k) (omega arith)) (λ x lt. here x (omega arith)) in (
      ap (λ b. cond b (Some e) (definition_at d.ddoc d.name es)) no ∙ more.0,
      ap (λ b. cond b es (e ∷ without_definition d.ddoc d.name es)) no ∙ ap (λ xs. e ∷ xs) more.1,
      ap (with_at d e es) g ∙ ap (λ xs. e ∷ xs) more.2,
    )

-- d replaces the definition at a place if all before it are below d, and the one there ties with d
goes_at : (d : IndexDefinition) (ds : List IndexDefinition) (i : ℕ) → i < length ds
    → ((x : IndexDefinition) (k : ℕ) → k < i → definition_order d (get_or ds k x) ≡ Greater)
    → ((x : IndexDefinition) → definition_order d (get_or ds i x) ≡ Equal)
    → ((x : IndexDefinition) → definition_at d.ddoc d.name ds ≡ Some (get_or ds i x)) × (without_definition d.ddoc d.name ds ≡ remove ds i) × (with_definition d ds ≡ set ds i d)
goes_at d [] i lt above here = absurd (omega arith)
goes_at d (e ∷ es) zero lt above here =
    let yes : is_named d.ddoc d.name e ≡ true = is_named-is d e ∙ ap is_eq (here d) in (
      λ x. ap (λ b. cond b (Some e) (definition_at d.ddoc d.name es)) yes,
      ap (λ b. cond b es (e ∷ without_definition d.ddoc d.name es)) yes,
      ap (with_at d e es) (here d),
    )
goes_at d (e ∷ es) (suc i) lt above here =
    let g : definition_order d e ≡ Greater = above d 0 (omega arith) in
    let no : is_named d.ddoc d.name e ≡ false = is_named-is d e ∙ ap is_eq g in
    let more = goes_at d es i (omega arith) (λ x k lt. above x (suc k) (omega arith)) here in (
      λ x. ap (λ b. cond b (Some e) (definition_at d.ddoc d.name es)) no ∙ more.0 x,
      ap (λ b. cond b es (e ∷ without_definition d.ddoc d.name es)) no ∙ ap (λ xs. e ∷ xs) more.1,
      ap (with_at d e es) g ∙ ap (λ xs. e ∷ xs) more.2,
    )

-- ---- the slot of a design document and a name

abbrev made : List ℕ → List ℕ → List (List ℕ) → List Steps → Direction → IndexDefinition
made ddoc name texts columns direction = record { ddoc = ddoc; name = name; texts = texts; columns = columns; direction = direction }

abbrev named : List ℕ → List ℕ → IndexDefinition
named ddoc name = made ddoc name [] [] Asc

like_named : (ddoc name : List ℕ) (d e : IndexDefinition) → d.ddoc ≡ ddoc → d.name ≡ name → definition_order d e ≡ name_order ddoc name e
like_named ddoc name d e p q = ap₂ (λ s t. name_order s t e) p q

pub is_before : (ddoc name : List ℕ) (ds : List IndexDefinition) (i : ℕ) → IsCatalog ds → i ≤ length ds
    → ((x : IndexDefinition) (k : ℕ) → k < i → name_order ddoc name (get_or ds k x) ≡ Greater)
    → ((x : IndexDefinition) → i < length ds → name_order ddoc name (get_or ds i x) ≡ Less)
    → IsSlotOf ddoc name ds (Before i)
is_before ddoc name ds i c le above here =
    let none = goes_before (named ddoc name) ds i c le above here in (
      le,
      none.0,
      none.1,
      λ d p q. (goes_before d ds i c le (λ x k lt. like_named ddoc name d (get_or ds k x) p q ∙ above x k lt) (λ x lt. like_named ddoc name d (get_or ds i x) p q ∙ here x lt)).2,
    )

pub is_at : (ddoc name : List ℕ) (ds : List IndexDefinition) (i : ℕ) → i < length ds
    → ((x : IndexDefinition) (k : ℕ) → k < i → name_order ddoc name (get_or ds k x) ≡ Greater)
    → ((x : IndexDefinition) → name_order ddoc name (get_or ds i x) ≡ Equal)
    → IsSlotOf ddoc name ds (At i)
is_at ddoc name ds i lt above here =
    let one = goes_at (named ddoc name) ds i lt above here in (
      lt,
      one.0,
      one.1,
      λ d p q. (goes_at d ds i lt (λ x k less. like_named ddoc name d (get_or ds k x) p q ∙ above x k less) (λ x. like_named ddoc name d (get_or ds i x) p q ∙ here x)).2,
    )

-- ---- a search by halves

at_place : (P : IndexDefinition → Type 0) (es : List IndexDefinition) (k : ℕ) (x : IndexDefinition) → AllByRecursion P es → k < length es → P (get_or es k x)
at_place P [] k x h lt = absurd (omega arith)
at_place P (e ∷ es) zero x h lt = h.0
at_place P (e ∷ es) (suc k) x h lt = at_place P es k x h.1 (omega arith)

-- what is above or ties with f is above all that is below f
above_lower : (d e f : IndexDefinition) → is_lt (definition_order d f) ≡ false → definition_order e f ≡ Less → definition_order d e ≡ Greater
above_lower d e f h below = by_order (definition_order d f) refl
  where
    by_order : (o : Ordering) → definition_order d f ≡ o → definition_order d e ≡ Greater
    by_order Less is = absurd (false≢true (sym h ∙ ap is_lt is))
    by_order Equal is = total.congr d f e is ∙ total.antisymm f e ∙ ap ordering_reverse below
    by_order Greater is = total.antisymm d e ∙ ap ordering_reverse (total.trans e f d below (total.antisymm f d ∙ ap ordering_reverse is))

-- if d is not below the definition at a place, all before it are below d
before_place : (d : IndexDefinition) (ds : List IndexDefinition) (i : ℕ) → IsCatalog ds → i < length ds
    → ((x : IndexDefinition) → is_lt (definition_order d (get_or ds i x)) ≡ false)
    → (x : IndexDefinition) (k : ℕ) → k < i → definition_order d (get_or ds k x) ≡ Greater
before_place d [] i c lt h x k less = absurd (omega arith)
before_place d (e ∷ es) zero c lt h x k less = absurd (omega arith)
before_place d (e ∷ es) (suc i) c lt h x zero less = above_lower d e (get_or es i x) (h x) (at_place (λ y. definition_order e y ≡ Less) es i x c.0 (omega arith))
before_place d (e ∷ es) (suc i) c lt h x (suc k) less = before_place d es i c.1 (omega arith) h x k (omega arith)

pub before_tie : (ddoc name : List ℕ) (ds : List IndexDefinition) (i : ℕ) → IsCatalog ds → i < length ds
    → ((x : IndexDefinition) → name_order ddoc name (get_or ds i x) ≡ Equal)
    → (x : IndexDefinition) (k : ℕ) → k < i → name_order ddoc name (get_or ds k x) ≡ Greater
before_tie ddoc name ds i c lt here = before_place (named ddoc name) ds i c lt (λ x. ap is_lt (here x))

-- if d is above the definition at a place, it is above all up to it
pub up_to : (ddoc name : List ℕ) (ds : List IndexDefinition) (i : ℕ) → IsCatalog ds → i < length ds
    → ((x : IndexDefinition) → name_order ddoc name (get_or ds i x) ≡ Greater)
    → (x : IndexDefinition) (k : ℕ) → k < i + 1 → name_order ddoc name (get_or ds k x) ≡ Greater
up_to ddoc name [] i c lt here x k less = absurd (omega arith)
up_to ddoc name (e ∷ es) zero c lt here x zero less = here x
up_to ddoc name (e ∷ es) zero c lt here x (suc k) less = absurd (omega arith)
up_to ddoc name (e ∷ es) (suc i) c lt here x zero less = before_place (named ddoc name) (e ∷ es) (suc i) c lt (λ y. ap is_lt (here y)) x 0 (omega arith)
up_to ddoc name (e ∷ es) (suc i) c lt here x (suc k) less = up_to ddoc name es i c.1 (omega arith) here x k (omega arith)

-- if d is below the definition at a place, it is below all from there on
pub from_place : (ddoc name : List ℕ) (ds : List IndexDefinition) (i : ℕ) → IsCatalog ds
    → ((x : IndexDefinition) → name_order ddoc name (get_or ds i x) ≡ Less)
    → (x : IndexDefinition) (k : ℕ) → i ≤ k → k < length ds → name_order ddoc name (get_or ds k x) ≡ Less
from_place ddoc name [] i c here x k le lt = absurd (omega arith)
from_place ddoc name (e ∷ es) zero c here x zero le lt = here x
from_place ddoc name (e ∷ es) zero c here x (suc k) le lt =
    total.trans (named ddoc name) e (get_or es k x) (here x) (at_place (λ y. definition_order e y ≡ Less) es k x c.0 (omega arith))
from_place ddoc name (e ∷ es) (suc i) c here x zero le lt = absurd (omega arith)
from_place ddoc name (e ∷ es) (suc i) c here x (suc k) le lt = from_place ddoc name es i c.1 here x k (omega arith) (omega arith)

-- ---- adding and removing keep the order

all_at : (P : IndexDefinition → Type 0) (d e : IndexDefinition) (es : List IndexDefinition) → P d → AllByRecursion P (e ∷ es) → AllByRecursion P (with_definition d es)
    → (o : Ordering) → AllByRecursion P (with_at d e es o)
all_at P d e es p h w Less = (p, h)
all_at P d e es p h w Equal = (p, h.1)
all_at P d e es p h w Greater = (h.0, w)

all_with : (P : IndexDefinition → Type 0) (d : IndexDefinition) (es : List IndexDefinition) → P d → AllByRecursion P es → AllByRecursion P (with_definition d es)
all_with P d [] p h = (p, tt)
all_with P d (e ∷ es) p h = all_at P d e es p h (all_with P d es p h.1) (definition_order d e)

in_order_at : (d e : IndexDefinition) (es : List IndexDefinition) → IsCatalog (e ∷ es) → IsCatalog (with_definition d es) → (o : Ordering) → definition_order d e ≡ o → IsCatalog (with_at d e es o)
in_order_at d e es h w Less eq = ((eq, below_all d e es eq h.0), h)
in_order_at d e es h w Equal eq = (alike_all d e es eq h.0, h.1)
in_order_at d e es h w Greater eq = (all_with (λ x. definition_order e x ≡ Less) d es (total.antisymm e d ∙ ap ordering_reverse eq) h.0, w)

-- adding a definition keeps the order
pub IsCatalog-with : (d : IndexDefinition) (ds : List IndexDefinition) → IsCatalog ds → IsCatalog (with_definition d ds)
IsCatalog-with d [] h = (tt, tt)
IsCatalog-with d (e ∷ es) h = in_order_at d e es h (IsCatalog-with d es h.1) (definition_order d e) refl

all_without_at : (P : IndexDefinition → Type 0) (d : IndexDefinition) (ds more : List IndexDefinition) → P d → AllByRecursion P ds → AllByRecursion P more → (b : Bool) → AllByRecursion P (cond b ds (d ∷ more))
all_without_at P d ds more p h w true = h
all_without_at P d ds more p h w false = (p, w)

all_without : (P : IndexDefinition → Type 0) (ddoc name : List ℕ) (ds : List IndexDefinition) → AllByRecursion P ds → AllByRecursion P (without_definition ddoc name ds)
all_without P ddoc name [] h = tt
all_without P ddoc name (d ∷ ds) h = all_without_at P d ds (without_definition ddoc name ds) h.0 h.1 (all_without P ddoc name ds h.1) (is_named ddoc name d)

in_order_without : (d : IndexDefinition) (ds more : List IndexDefinition) → IsCatalog ds → IsCatalog (d ∷ more) → (b : Bool) → IsCatalog (cond b ds (d ∷ more))
in_order_without d ds more h w true = h
in_order_without d ds more h w false = w

-- removing a definition keeps the order
pub IsCatalog-without : (ddoc name : List ℕ) (ds : List IndexDefinition) → IsCatalog ds → IsCatalog (without_definition ddoc name ds)
IsCatalog-without ddoc name [] h = tt
IsCatalog-without ddoc name (d ∷ ds) h =
    in_order_without d ds (without_definition ddoc name ds) h.1 (all_without (λ e. definition_order d e ≡ Less) ddoc name ds h.0, IsCatalog-without ddoc name ds h.1) (is_named ddoc name d)

-- ---- the same definition

is_same-true : (a b : Direction) → is_same a b ≡ true → a ≡ b
is_same-true Asc Asc h = refl
is_same-true Desc Desc h = refl
is_same-true Asc Desc h = cc
is_same-true Desc Asc h = cc

is_same-itself : (a : Direction) → is_same a a ≡ true
is_same-itself Asc = refl
is_same-itself Desc = refl

same_fields : (a b : IndexDefinition) → b.ddoc ≡ a.ddoc → b.name ≡ a.name → a.texts ≡ b.texts → a.columns ≡ b.columns → a.direction ≡ b.direction → a ≡ b
same_fields a b ddoc name texts columns direction =
    ap (λ x. made x a.name a.texts a.columns a.direction) (sym ddoc) ∙ ap (λ x. made b.ddoc x a.texts a.columns a.direction) (sym name)
    ∙ ap (λ x. made b.ddoc b.name x a.columns a.direction) texts ∙ ap (λ x. made b.ddoc b.name b.texts x a.direction) columns
    ∙ ap (λ x. made b.ddoc b.name b.texts b.columns x) direction

-- definitions that pass the test are the same
pub same_definition : (a b : IndexDefinition) → is_same_definition a b ≡ true → a ≡ b
same_definition a b h =
    let p = and_parts (is_named b.ddoc b.name a) (is_same a.direction b.direction && (path_eq a.texts b.texts && pointwise path_eq a.columns b.columns)) h in
    let q = and_parts (is_same a.direction b.direction) (path_eq a.texts b.texts && pointwise path_eq a.columns b.columns) p.1 in
    let r = and_parts (path_eq a.texts b.texts) (pointwise path_eq a.columns b.columns) q.1 in
    let s = and_parts (bytes_eq b.ddoc a.ddoc) (bytes_eq b.name a.name) p.0 in
    let ddoc = (bytes_eq-Decides b.ddoc a.ddoc).0 s.0 in
    let name = (bytes_eq-Decides b.name a.name).0 s.1 in
    let direction = is_same-true a.direction b.direction q.0 in
    let texts = (path_eq-Decides a.texts b.texts).0 r.0 in
    let columns = (paths_eq-Decides a.columns b.columns).0 r.1 in
    same_fields a b ddoc name texts columns direction

-- a definition passes the test against itself
pub same_as_itself : (a : IndexDefinition) → is_same_definition a a ≡ true
same_as_itself a =
    ap₂ ◌&&◌ (ap₂ ◌&&◌ ((bytes_eq-Decides a.ddoc a.ddoc).1 refl) ((bytes_eq-Decides a.name a.name).1 refl))
    (ap₂ ◌&&◌ (is_same-itself a.direction) (ap₂ ◌&&◌ ((path_eq-Decides a.texts a.texts).1 refl) ((paths_eq-Decides a.columns a.columns).1 refl)))

-- if the found definition passes the test, it is the one that is added
pub found_same : (d found : IndexDefinition) (o : Option IndexDefinition) → o ≡ Some found → is_same_definition d found ≡ true → o ≡ Some d
found_same d found o h same = h ∙ ap (λ x. Some x) (sym (same_definition d found same))

-- if the found definition does not pass the test, it is another one
pub found_other : (d found : IndexDefinition) (o : Option IndexDefinition) → o ≡ Some found → is_same_definition d found ≡ false → o ≡ Some d → ⊥
found_other d found o h other e =
    let equal : found ≡ d = cc (h, e) in
    false≢true (sym other ∙ ap (is_same_definition d) equal ∙ same_as_itself d)

-- ---- adding a definition that is already there changes nothing

some_same : (d e : IndexDefinition) → Some e ≡ Some d → d ≡ e
some_same d e h = sym (ap (λ o. unwrap_or o e) h)

kept_at : (d e : IndexDefinition) (es : List IndexDefinition) → IsCatalog (e ∷ es) → definition_at d.ddoc d.name (e ∷ es) ≡ Some d
    → (definition_at d.ddoc d.name es ≡ Some d → with_definition d es ≡ es) → (o : Ordering) → definition_order d e ≡ o → with_at d e es o ≡ e ∷ es
kept_at d e es c at more Less is = let none = sym (none_below d (e ∷ es) (is, below_all d e es is c.0)).0 ∙ at in absurd cc
kept_at d e es c at more Equal is =
    ap (λ x. x ∷ es) (some_same d e (sym (ap (λ b. cond b (Some e) (definition_at d.ddoc d.name es)) (is_named-is d e ∙ ap is_eq is)) ∙ at))
kept_at d e es c at more Greater is =
    ap (λ xs. e ∷ xs) (more (sym (ap (λ b. cond b (Some e) (definition_at d.ddoc d.name es)) (is_named-is d e ∙ ap is_eq is)) ∙ at))

pub kept : (d : IndexDefinition) (ds : List IndexDefinition) → IsCatalog ds → definition_at d.ddoc d.name ds ≡ Some d → with_definition d ds ≡ ds
kept d [] c at = absurd cc
kept d (e ∷ es) c at = kept_at d e es c at (kept d es c.1) (definition_order d e) refl

-- a found definition that passes the test is the same
the_same : (d : IndexDefinition) (o : Option IndexDefinition) → option_map_or (is_same_definition d) o false ≡ true → o ≡ Some d
the_same d None h = absurd cc
the_same d (Some e) h = found_same d e (Some e) refl h

pub kept_there : (d : IndexDefinition) (ds : List IndexDefinition) → IsCatalog ds → is_there d ds ≡ true → with_definition d ds ≡ ds
kept_there d ds c h = kept d ds c (the_same d (definition_at d.ddoc d.name ds) h)
