-- Lists in order, as far as they were compared.
use Rattle.std.proofs.Common.{◌≡◌, ℕ, ◌+◌, ◌-◌, ◌<◌, List, length, get_or, Ordering, Less, Equal, Greater, is_lt, true, false, Vec, Global, refl, sym, ap, ap₂, ◌∙◌, arith}
use Rattle.std.specs.List.Sorted.{IsSorted}
use Rattle.std.proofs.lemmas.List.{get_or-map, get_or_default}
use Rattle.mg_merge.specs.Merged.{contents_of}
use borrow.Author.Count.{below_more}

not_less : (o : Ordering) → (o ≡ Less → ⊥) → is_lt o ≡ false
not_less Less h = absurd (h refl)
not_less Equal h = refl
not_less Greater h = refl

-- the element at a place within the list, whatever the default is
at_place : {X : Type 0} (xs : List X) (place : ℕ) (x d : X) → place < length xs → x ≡ get_or xs place x → x ≡ get_or xs place d
at_place {X} xs place x d k e = e ∙ get_or_default xs place x d k

pub list_at : {X : Type 0} (lists : List (Vec X Global)) (place : ℕ) (list : Vec X Global) (d : List X) → place < length lists → list ≡ get_or lists place list → list.items ≡ get_or (contents_of lists) place d
list_at {X} lists place list d k e = ap (λ (l : Vec X Global). l.items) e ∙ sym (get_or-map (λ (l : Vec X Global). l.items) lists place list d k)

-- x is the element at `place`, and `other` the one before it
pub out_of_order : {X : Type 0} (order : X → X → Ordering) (xs : List X) (place : ℕ) (x other : X) → 0 < place → place < length xs → x ≡ get_or xs place x → other ≡ get_or xs (place - 1) other
    → order x other ≡ Less → IsSorted order xs → ⊥
out_of_order order xs place x other low high here before less ordered =
    let next : place - 1 + 1 ≡ place = omega arith in
    let after : is_lt (order (get_or xs (place - 1 + 1) x) (get_or xs (place - 1) x)) ≡ false = ordered (place - 1) x (omega arith) (omega arith) in
    let same : order (get_or xs (place - 1 + 1) x) (get_or xs (place - 1) x) ≡ order x other = ap₂ order (ap (λ n. get_or xs n x) next ∙ sym here) (sym (at_place xs (place - 1) other x (omega arith) before)) in
    let wrong : true ≡ false = sym (ap is_lt (same ∙ less)) ∙ after in cc

abbrev pub InOrderBelow : {X : Type 0} → (X → X → Ordering) → List X → ℕ → Type 0
InOrderBelow {X} order xs place = (k : ℕ) (d : X) → k + 1 < place → is_lt (order (get_or xs (k + 1) d) (get_or xs k d)) ≡ false

pub one_more_in_order : {X : Type 0} (order : X → X → Ordering) (xs : List X) (place : ℕ) (x other : X) → 0 < place → place < length xs → x ≡ get_or xs place x → other ≡ get_or xs (place - 1) other
    → (order x other ≡ Less → ⊥) → InOrderBelow order xs place → InOrderBelow order xs (place + 1)
one_more_in_order {X} order xs place x other low high here before not below =
    λ k d l. below_more (λ j. (e : X) → j + 1 < place + 1 → is_lt (order (get_or xs (j + 1) e) (get_or xs j e)) ≡ false) (place - 1)
    (λ j m e n. below j e (omega arith))
    (λ e n. let next : place ≡ place - 1 + 1 = omega arith in
    let same : order x other ≡ order (get_or xs (place - 1 + 1) e) (get_or xs (place - 1) e) =
    ap₂ order (at_place xs place x e high here ∙ ap (λ m. get_or xs m e) next) (at_place xs (place - 1) other e (omega arith) before) in
    ap is_lt (sym same) ∙ not_less (order x other) not) k (omega arith) d l

pub one_more_list : {X : Type 0} (order : X → X → Ordering) (lists : List (List X)) (place : ℕ) → ((k : ℕ) (d : List X) → k < place → IsSorted order (get_or lists k d))
    → ((d : List X) → IsSorted order (get_or lists place d)) → (k : ℕ) (d : List X) → k < place + 1 → IsSorted order (get_or lists k d)
one_more_list {X} order lists place below here = λ k d l. below_more (λ j. (e : List X) → IsSorted order (get_or lists j e)) place (λ j m e. below j e m) here k l d
