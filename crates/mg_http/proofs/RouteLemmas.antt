-- The rests of routes, and the segments of a path.
use Rattle.std.proofs.Common.{◌≡◌, ◌+◌, ◌<◌, ℕ, ◌==◌, List, [], ◌∷◌, ◌++◌, length, map, get_or, take, drop, Option, Some, None, refl, sym, ap, ◌∙◌}
use Rattle.std.specs.List.{filter_map, cons_option, slice_split, position_or_len}
use Rattle.std.proofs.lemmas.List.Splits.{slice_split_first, slice_split_none}
use Rattle.std.specs.Prelude.{option_to_list}
use Rattle.std.specs.Option.{option_map}
use Rattle.std.proofs.lemmas.List.{take_more}
use Rattle.std.proofs.lemmas.List.Elements.{filter_map-append}
use Rattle.std.proofs.lemmas.List.Sums.{fails_before_first}

-- `filter_map` of the images is `filter_map` of the elements
pub filter_map-map : {X Y Z : Type 0} (h : Y → Option Z) (f : X → Y) (xs : List X) → filter_map h (map f xs) ≡ filter_map (λ x. h (f x)) xs
filter_map-map h f [] = refl
filter_map-map h f (x ∷ xs) = ap (cons_option (h (f x))) (filter_map-map h f xs)

-- the first segment ends at the first slash
pub first_segment : (rest : List ℕ) (i : ℕ) → position_or_len (λ b. b == 47) rest ≡ i → i < length rest
    → slice_split (λ c. c == 47) rest ≡ take i rest ∷ slice_split (λ c. c == 47) (drop (i + 1) rest)
first_segment rest i e inside =
    slice_split_first (λ c. c == 47) rest 0 (rw e inside)
    ∙ ap (λ (k : ℕ). take k rest ∷ slice_split (λ c. c == 47) (drop (k + 1) rest)) e

-- a rest without a slash is one segment
pub whole_segment : (rest : List ℕ) → position_or_len (λ b. b == 47) rest ≡ length rest → slice_split (λ c. c == 47) rest ≡ rest ∷ []
whole_segment rest e =
    slice_split_none (λ c. c == 47) rest (λ k d inside. fails_before_first (λ c. c == 47) rest k d (rw e inside))

one_or_none : {X : Type 0} (o : Option X) → option_to_list o ≡ cons_option o []
one_or_none None = refl
one_or_none (Some x) = refl

-- one step of the loop over routes: the rests so far, and then the rest of one more route
pub one_behind : {X Y : Type 0} (f : X → Y) (h : Y → Option Y) (xs : List X) (i : ℕ) (d : X) (before after : List X) (found : Option X) → i < length xs
    → map f before ≡ filter_map (λ r. h (f r)) (take i xs) → option_map f found ≡ h (f (get_or xs i d)) → map f after ≡ map f before ++ option_to_list (option_map f found)
    → map f after ≡ filter_map (λ r. h (f r)) (take (i + 1) xs)
one_behind {Y = Y} f h xs i d before after found inside was e pushed =
    pushed ∙ ap (λ (o : Option Y). map f before ++ option_to_list o) e
    ∙ ap (λ (t : List Y). t ++ option_to_list (h (f (get_or xs i d)))) was
    ∙ ap (λ (t : List Y). filter_map (λ r. h (f r)) (take i xs) ++ t) (one_or_none (h (f (get_or xs i d))))
    ∙ sym (filter_map-append (λ r. h (f r)) (take i xs) (get_or xs i d ∷ [])) ∙ ap (filter_map (λ r. h (f r))) (sym (take_more xs i d inside))
