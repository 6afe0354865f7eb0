-- What a bound says: an atom that bounds a column holds of a document exactly if the value of the column meets the bound.
use Rattle.std.proofs.Common.{◌≡◌, Bool, true, false, cond, not, ◌&&◌, ◌||◌, List, [], ◌∷◌, Option, Some, None, is_some, Ordering, Less, Equal, Greater, refl, sym, subst, ap, ◌∙◌}
use Rattle.std.specs.List.{list_all, cons_option}
use Rattle.std.specs.Ordering.{is_lt, is_le, is_eq, is_ne, is_ge, is_gt}
use Rattle.mg_value.specs.Value.{Value}
use Rattle.mg_collate.specs.Order.{value_order}
use Rattle.mg_path.specs.Equal.{path_eq}
use Rattle.mg_path.specs.Part.{part_of}
use Rattle.mg_selector.specs.Meaning.{operator_holds}
use Rattle.mg_selector.specs.Selector.{Operator, less, at_most, equal, unequal, at_least, greater, exists, of_type, among, not_among, size, modulo, containing, some_element, each_element}
use Rattle.mg_selector.specs.declared.sense.Sense.{Sense}
use Rattle.mg_selector.specs.declared.sense.Sense.TheVariants.{Plain, Negated}
use Rattle.mg_normal.specs.Atoms.{Atom, atom_holds}
use Rattle.mg_index.specs.Bound.{Bound, bound_in, bound_on, bounds_on, meets, meets_all}
use Rattle.mg_index.specs.Definition.{Steps}
use Rattle.mg_index.proofs.Paths.{path_eq-Decides}

not_lt : (o : Ordering) → not (is_lt o) ≡ is_ge o
not_lt Less = refl
not_lt Equal = refl
not_lt Greater = refl

not_le : (o : Ordering) → not (is_le o) ≡ is_gt o
not_le Less = refl
not_le Equal = refl
not_le Greater = refl

not_ne : (o : Ordering) → not (is_ne o) ≡ is_eq o
not_ne Less = refl
not_ne Equal = refl
not_ne Greater = refl

not_ge : (o : Ordering) → not (is_ge o) ≡ is_lt o
not_ge Less = refl
not_ge Equal = refl
not_ge Greater = refl

not_gt : (o : Ordering) → not (is_gt o) ≡ is_le o
not_gt Less = refl
not_gt Equal = refl
not_gt Greater = refl

-- `holds` is whether w meets the bound, if there is one
abbrev AgreesWithBound : Value → Bool → Option Bound → Type 0
AgreesWithBound w holds None = Unit {0}
AgreesWithBound w holds (Some b) = holds ≡ meets w b

bound_tells : (sense : Sense) (o : Operator) (w : Value) → AgreesWithBound w (operator_holds o sense (Some w)) (bound_in sense o)
bound_tells Plain (less x) w = refl
bound_tells Plain (at_most x) w = refl
bound_tells Plain (equal x) w = refl
bound_tells Plain (unequal x) w = tt
bound_tells Plain (at_least x) w = refl
bound_tells Plain (greater x) w = refl
bound_tells Plain (exists x) w = tt
bound_tells Plain (of_type x) w = tt
bound_tells Plain (among x) w = tt
bound_tells Plain (not_among x) w = tt
bound_tells Plain (size x) w = tt
bound_tells Plain (modulo x y) w = tt
bound_tells Plain (containing x) w = tt
bound_tells Plain (some_element x) w = tt
bound_tells Plain (each_element x) w = tt
bound_tells Negated (less x) w = not_lt (value_order w x)
bound_tells Negated (at_most x) w = not_le (value_order w x)
bound_tells Negated (equal x) w = tt
bound_tells Negated (unequal x) w = not_ne (value_order w x)
bound_tells Negated (at_least x) w = not_ge (value_order w x)
bound_tells Negated (greater x) w = not_gt (value_order w x)
bound_tells Negated (exists x) w = tt
bound_tells Negated (of_type x) w = tt
bound_tells Negated (among x) w = tt
bound_tells Negated (not_among x) w = tt
bound_tells Negated (size x) w = tt
bound_tells Negated (modulo x y) w = tt
bound_tells Negated (containing x) w = tt
bound_tells Negated (some_element x) w = tt
bound_tells Negated (each_element x) w = tt

atom_tells : (v : Value) (c : Steps) (w : Value) (a : Atom) → part_of c v ≡ Some w → (b : Bool) → path_eq a.steps c ≡ b
    → AgreesWithBound w (atom_holds (Some v) a) (cond b (bound_in a.sense a.operator) None)
atom_tells v c w a e true f =
    subst (λ o. AgreesWithBound w (operator_holds a.operator a.sense o) (bound_in a.sense a.operator))
    (sym e ∙ ap (λ s. part_of s v) (sym ((path_eq-Decides a.steps c).0 f))) (bound_tells a.sense a.operator w)
atom_tells v c w a e false f = tt

one_more : (w : Value) (o : Option Bound) (holds rest : Bool) (bounds : List Bound) → AgreesWithBound w holds o → rest ≡ meets_all w bounds
    → ((not (is_some o) || holds) && rest) ≡ meets_all w (cons_option o bounds)
one_more w None holds rest bounds t e = e
one_more w (Some b) holds rest bounds t e = ap (λ h. h && rest) t ∙ ap (λ r. meets w b && r) e

-- the atoms that bound a column hold exactly if its value meets all of their bounds
pub bounds_hold : (v : Value) (c : Steps) (w : Value) → part_of c v ≡ Some w → (atoms : List Atom)
    → list_all (λ a. not (is_some (bound_on c a)) || atom_holds (Some v) a) atoms ≡ meets_all w (bounds_on atoms c)
bounds_hold v c w e [] = refl
bounds_hold v c w e (a ∷ atoms) =
    one_more w (bound_on c a) (atom_holds (Some v) a) (list_all (λ b. not (is_some (bound_on c b)) || atom_holds (Some v) b) atoms) (bounds_on atoms c)
    (atom_tells v c w a e (path_eq a.steps c) refl) (bounds_hold v c w e atoms)
