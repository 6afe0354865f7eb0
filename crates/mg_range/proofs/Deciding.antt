-- The range decides the atoms that it is made of.
use Rattle.std.proofs.Common.{◌≡◌, Bool, true, false, cond, not, ◌&&◌, ◌||◌, List, [], ◌∷◌, length, suc, Option, Some, None, is_some, option_and_then, option_map, refl, sym, ap, ap₂, ◌∙◌}
use Rattle.std.proofs.lemmas.Bool.{false≢true, and_parts}
use Rattle.std.specs.List.{cons_option, filter, filter_map, list_all}
use Rattle.mg_value.specs.Value.{Value}
use Rattle.mg_path.specs.Part.{part_of}
use Rattle.mg_normal.specs.Atoms.{Atom, atom_holds}
use Rattle.mg_normal.specs.Condition.{Condition}
use Rattle.mg_normal.specs.Normal.{NormalForm, all_hold, normal_holds, rest_holds}
use Rattle.mg_index.specs.Bound.{bound_on, is_fixed}
use Rattle.mg_index.specs.Definition.{Steps}
use Rattle.mg_index.specs.Key.{key_of}
use Rattle.mg_range.proofs.Bounded.{bounds_hold}
use Rattle.mg_range.proofs.Contained.{contained}
use Rattle.mg_range.proofs.Limits.{and_true, and_swap_inner}
use Rattle.mg_range.specs.Decided.{decides_of, is_decided}
use Rattle.mg_range.specs.Laws.{HasKey, RangeDecides, RangeDecidesAtoms, RangeDecidesForm}
use Rattle.mg_range.specs.RangeSide.{has_key}
use Rattle.mg_range.specs.Range.{in_range, range_of}

-- ---- tests of each element

all_same : {X : Type 0} (p q : X → Bool) → ((x : X) → p x ≡ q x) → (xs : List X) → list_all p xs ≡ list_all q xs
all_same p q e [] = refl
all_same p q e (x ∷ xs) = ap₂ (λ s t. s && t) (e x) (all_same p q e xs)

all_both : {X : Type 0} (p q : X → Bool) (xs : List X) → list_all (λ x. p x && q x) xs ≡ (list_all p xs && list_all q xs)
all_both p q [] = refl
all_both p q (x ∷ xs) = ap (λ t. (p x && q x) && t) (all_both p q xs) ∙ and_swap_inner (p x) (q x) (list_all p xs) (list_all q xs)

all_true : {X : Type 0} (xs : List X) → list_all (λ x. true) xs ≡ true
all_true [] = refl
all_true (x ∷ xs) = all_true xs

left_at : {X : Type 0} (h : X → Bool) (x : X) (rest : List X) (all : Bool) → list_all h rest ≡ all → (d : Bool) → list_all h (cond (not d) (x ∷ rest) rest) ≡ ((d || h x) && all)
left_at h x rest all e true = e
left_at h x rest all e false = ap (λ t. h x && t) e

-- those left by the filter all have h exactly if each element has d or h
left_hold : {X : Type 0} (d h : X → Bool) (xs : List X) → list_all h (filter (λ x. not (d x)) xs) ≡ list_all (λ x. d x || h x) xs
left_hold d h [] = refl
left_hold d h (x ∷ xs) = left_at h x (filter (λ y. not (d y)) xs) (list_all (λ y. d y || h y) xs) (left_hold d h xs) (d x)

none_left_at : (d h r : Bool) → d ≡ true → r ≡ true → ((d || h) && r) ≡ true
none_left_at true h r e f = f
none_left_at false h r e f = absurd (false≢true e)

none_left : {X : Type 0} (d h : X → Bool) (xs : List X) → list_all d xs ≡ true → list_all (λ x. d x || h x) xs ≡ true
none_left d h [] e = refl
none_left d h (x ∷ xs) e =
    let p = and_parts (d x) (list_all d xs) e in
    none_left_at (d x) (h x) (list_all (λ y. d y || h y) xs) p.0 (none_left d h xs p.1)

both_cases : (d h : Bool) → h ≡ ((not d || h) && (d || h))
both_cases true h = and_true h
both_cases false h = refl

-- ---- the key

-- the parts of a key that has at least one value
record Parts (o : Option Value) (os : Option (List Value)) (key : List Value) : Type 0 where
  first : Value
  more : List Value
  is_first : o ≡ Some first
  is_more : os ≡ Some more
  is : key ≡ first ∷ more

parts : (o : Option Value) (os : Option (List Value)) (key : List Value) → option_and_then (λ y. option_map (λ ys. y ∷ ys) os) o ≡ Some key → Parts o os key
parts None os key e = absurd cc
parts (Some w) None key e = absurd cc
parts (Some w) (Some ws) key e = record { first = w; more = ws; is_first = refl; is_more = refl; is = cc e }

key_length : (columns : List Steps) (v : Value) (key : List Value) → HasKey columns v key → length key ≡ length columns
key_length [] v key e = let e : [] ≡ key = cc e in ap length (sym e)
key_length (c ∷ cs) v key e =
    let p = parts (part_of c v) (key_of cs v) key e in
    ap length p.is ∙ ap suc (key_length cs v p.more p.is_more)

in_both : (b f d h : Bool) → (not (b || (f && d)) || h) ≡ ((not b || h) && cond f (not d || h) true)
in_both true true true true = refl
in_both true true false true = refl
in_both true false d true = refl
in_both true f d false = refl
in_both false true d h = refl
in_both false false d h = refl

where_fixed : {X : Type 0} (f : Bool) (p : X → Bool) (xs : List X) (r : Bool) → list_all p xs ≡ r → list_all (λ x. cond f (p x) true) xs ≡ cond f r true
where_fixed true p xs r e = e
where_fixed false p xs r e = all_true xs

-- the decided atoms hold exactly if the key is in the range
decided_hold : (atoms : List Atom) (columns : List Steps) (v : Value) (key : List Value) → HasKey columns v key
    → list_all (λ a. not (is_decided atoms columns a) || atom_holds (Some v) a) atoms ≡ in_range atoms columns key
decided_hold atoms [] v key e = all_true atoms
decided_hold atoms (c ∷ cs) v key e =
    let p = parts (part_of c v) (key_of cs v) key e in
    let bounds = λ (a : Atom). is_some (bound_on c a) in
    let fixed = is_fixed atoms c in
    let decided = is_decided atoms cs in
    let holds = atom_holds (Some v) in
    all_same (λ a. not (bounds a || (fixed && decided a)) || holds a) (λ a. (not (bounds a) || holds a) && cond fixed (not (decided a) || holds a) true)
    (λ a. in_both (bounds a) fixed (decided a) (holds a)) atoms
    ∙ all_both (λ a. not (bounds a) || holds a) (λ a. cond fixed (not (decided a) || holds a) true) atoms
    ∙ ap₂ (λ s t. s && t) (bounds_hold v c p.first p.is_first atoms)
    (where_fixed fixed (λ a. not (decided a) || holds a) atoms (in_range atoms cs p.more) (decided_hold atoms cs v p.more p.is_more))
    ∙ ap (in_range atoms (c ∷ cs)) (sym p.is)

-- ---- the laws

pub decides_atoms : RangeDecidesAtoms
decides_atoms atoms columns v key e =
    let decided = is_decided atoms columns in
    let holds = atom_holds (Some v) in
    all_same holds (λ a. (not (decided a) || holds a) && (decided a || holds a)) (λ a. both_cases (decided a) (holds a)) atoms
    ∙ all_both (λ a. not (decided a) || holds a) (λ a. decided a || holds a) atoms
    ∙ ap₂ (λ s t. s && t) (decided_hold atoms columns v key e ∙ sym (contained atoms columns key (key_length columns v key e))) (sym (left_hold decided holds atoms))

none_besides : {X : Type 0} (o : Option X) → is_some o ≡ false → o ≡ None
none_besides None e = refl
none_besides (Some x) e = absurd (false≢true (sym e))

pub decides_form : RangeDecidesForm
decides_form n columns v key none all e =
    let atoms = n.atoms in
    let holds = atom_holds (Some v) in
    ap (λ (o : Option Condition). all_hold (Some v) atoms && rest_holds o (Some v)) (none_besides n.rest none)
    ∙ sym (and_true (all_hold (Some v) atoms))
    ∙ decides_atoms atoms columns v key e
    ∙ ap (λ t. has_key (range_of atoms columns) key && t) (left_hold (is_decided atoms columns) holds atoms ∙ none_left (is_decided atoms columns) holds atoms all)
    ∙ sym (and_true (has_key (range_of atoms columns) key))

pub decides : RangeDecides
decides s n columns v key is none all e = sym (is.meaning (Some v)) ∙ decides_form n columns v key none all e

-- ---- rows

row_step : {D R : Type 0} (row : D → Option R) (in_it : R → Bool) (d : D) (ds : List D) (rows : List R) (o : Option R) (holds : Bool) → row d ≡ o → ((r : R) → o ≡ Some r → holds ≡ in_it r)
    → filter in_it rows ≡ filter_map row ds → filter in_it (cons_option o rows) ≡ filter_map row (cond holds (d ∷ ds) ds)
row_step row in_it d ds rows None true is same e = e ∙ ap (λ o. cons_option o (filter_map row ds)) (sym is)
row_step row in_it d ds rows None false is same e = e
row_step row in_it d ds rows (Some r) true is same e =
    ap (λ b. cond b (r ∷ filter in_it rows) (filter in_it rows)) (sym (same r refl)) ∙ ap (λ rs. r ∷ rs) e ∙ ap (λ o. cons_option o (filter_map row ds)) (sym is)
row_step row in_it d ds rows (Some r) false is same e = ap (λ b. cond b (r ∷ filter in_it rows) (filter in_it rows)) (sym (same r refl)) ∙ e

-- of documents with rows by their keys, the rows in the range are those of the documents that the form holds of
pub decides_rows : {D R : Type 0} (served : D → Value) (row : D → Option R) (key : R → List Value) (n : NormalForm) (columns : List Steps) → is_some n.rest ≡ false
    → decides_of n.atoms columns ≡ true → ((d : D) (r : R) → row d ≡ Some r → HasKey columns (served d) (key r)) → (ds : List D)
    → filter (λ r. has_key (range_of n.atoms columns) (key r)) (filter_map row ds) ≡ filter_map row (filter (λ d. normal_holds n (Some (served d))) ds)
decides_rows served row key n columns none all keyed [] = refl
decides_rows served row key n columns none all keyed (d ∷ ds) =
    row_step row (λ r. has_key (range_of n.atoms columns) (key r)) d (filter (λ x. normal_holds n (Some (served x))) ds) (filter_map row ds) (row d) (normal_holds n (Some (served d))) refl
    (λ r e. decides_form n columns (served d) (key r) none all (keyed d r e)) (decides_rows served row key n columns none all keyed ds)
