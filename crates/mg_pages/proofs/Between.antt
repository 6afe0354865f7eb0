-- The elements between two ends that are read towards each other.
use Rattle.std.proofs.Common.{◌≡◌, ℕ, zero, suc, ◌+◌, List, [], ◌∷◌, ◌++◌, length, take, reverse, Ordering, refl, sym, ap, ap₂, ◌∙◌, arith, append_assoc, append-nil, if◌then◌else◌}
use Rattle.std.proofs.lemmas.List.{length-append, length-reverse, reverse-append, reverse-reverse, take_all, take_at}
use Rattle.mg_pages.specs.Order.{Ascends, IsProbe, above, below}
use Rattle.mg_collate.specs.declared.direction.Direction.{Direction}
use Rattle.mg_collate.specs.declared.direction.Direction.TheVariants.{Asc, Desc}
use Rattle.mg_pages.specs.Reading.{AreBetween, left_of}
use Rattle.mg_pages.proofs.Lent.{empty_of_length}
use Rattle.mg_pages.proofs.Sorted.{above_suffix, below_prefix}

-- a whole list lies between its ends
pub between_whole : {T : Type 0} (xs : List T) → AreBetween xs (reverse xs) (length xs)
between_whole xs = record { between = xs; rest_up = []; rest_down = []; upwards = sym (append-nil xs); downwards = sym (append-nil (reverse xs)); number = refl }

-- the same of ends that are given as other terms
pub between_as : {T : Type 0} {up down us vs : List T} {left k : ℕ} → up ≡ us → down ≡ vs → left ≡ k → AreBetween us vs k → AreBetween up down left
between_as e f m it = record { between = it.between; rest_up = it.rest_up; rest_down = it.rest_down; upwards = e ∙ it.upwards; downwards = f ∙ it.downwards; number = m ∙ it.number }

module _ {T : Type 0} (order : T → T → Ordering) (against : T → Ordering) (probe : IsProbe order against) (xs : List T) (s : Ascends order xs) where
  -- what is below a key is the first part of the list
  pub first_below : take (length (below against xs)) xs ≡ below against xs
  first_below =
      let cut = below_prefix order against probe xs s in
      let ys = below against xs in
      ap (take (length ys)) cut.1 ∙ take_at ys cut.0 (length ys) refl

  -- what is above a key lies between the key and the end
  pub between_above : AreBetween (above against xs) (reverse xs) (length (above against xs))
  between_above =
      let cut = above_suffix order against probe xs s in
      let ys = above against xs in
      record { between = ys; rest_up = []; rest_down = reverse cut.0; upwards = sym (append-nil ys); downwards = ap reverse cut.1 ∙ reverse-append cut.0 ys; number = refl }

  -- what is below a key lies between the start and the key
  pub between_below : AreBetween xs (reverse (below against xs)) (length (below against xs))
  between_below =
      let cut = below_prefix order against probe xs s in
      let ys = below against xs in
      record { between = ys; rest_up = cut.0; rest_down = []; upwards = cut.1; downwards = sym (append-nil (reverse ys)); number = refl }

module _ {T : Type 0} (up down : List T) (left : ℕ) (it : AreBetween up down left) where
  -- upwards, the elements between are read first
  pub between_upwards : take left up ≡ it.between
  between_upwards = ap (take left) it.upwards ∙ take_at it.between it.rest_up left (sym it.number)

  -- nothing lies between if nothing is left downwards
  pub none_between : down ≡ [] → take left up ≡ []
  none_between e =
      let none : length it.between ≡ 0 = omega (arith, ap length (sym e ∙ it.downwards), length-append (reverse it.between) it.rest_down, length-reverse it.between) in
      between_upwards ∙ empty_of_length it.between none

  -- seen from the other end, they are the same in reverse
  abbrev turned : AreBetween down up left
  turned = record {
    between = reverse it.between;
    rest_up = it.rest_down;
    rest_down = it.rest_up;
    upwards = it.downwards;
    downwards = it.upwards ∙ ap (λ us. us ++ it.rest_up) (sym (reverse-reverse it.between));
    number = it.number ∙ sym (length-reverse it.between);
  }

-- the first element upwards is taken
taken : {T : Type 0} (x : T) (between rest_up rest down rest_down : List T) (left n : ℕ) → x ∷ rest ≡ between ++ rest_up → down ≡ reverse between ++ rest_down → left ≡ length between → left ≡ suc n → AreBetween rest down n
taken x [] rest_up rest down rest_down left n e d l m = absurd (omega (arith, l, m))
taken x (y ∷ ys) rest_up rest down rest_down left n e d l m = record {
  between = ys;
  rest_up = rest_up;
  rest_down = y ∷ rest_down;
  upwards = cc;
  downwards = d ∙ ap (λ us. us ++ rest_down) (reverse-append (y ∷ []) ys) ∙ append_assoc (reverse ys) (y ∷ []) rest_down;
  number = omega (arith, l, m);
}

pub take_whole : {T : Type 0} (xs : List T) → take (length xs) xs ≡ xs
take_whole xs = take_all (length xs) xs (omega arith)

pub take_none : {T : Type 0} (n : ℕ) → ◌≡◌ {A = List T} (take n []) []
take_none zero = refl
take_none (suc n) = refl

module _ {T : Type 0} (x : T) (rest : List T) (n : ℕ) where
  pub first_between : (up : List T) (left : ℕ) → up ≡ x ∷ rest → left ≡ n + 1 → take left up ≡ x ∷ take n rest
  first_between up left e m = let number : left ≡ suc n = omega (arith, m) in ap₂ take number e

  pub between_first : (up down : List T) (left : ℕ) → AreBetween up down left → up ≡ x ∷ rest → left ≡ n + 1 → AreBetween rest down n
  between_first up down left it e m = taken x it.between it.rest_up rest down it.rest_down left n (sym e ∙ it.upwards) it.downwards it.number (omega (arith, m))

  -- the first element downwards is taken
  pub between_last : (up down : List T) (left : ℕ) → AreBetween up down left → down ≡ x ∷ rest → left ≡ n + 1 → AreBetween up rest n
  between_last up down left it e m = turned rest up n (between_first down up left (turned up down left it) e m)

  -- and it is the last of the elements between
  pub last_between : (up down : List T) (left : ℕ) → AreBetween up down left → down ≡ x ∷ rest → left ≡ n + 1 → take left up ≡ take n up ++ x ∷ []
  last_between up down left it e m =
      let back = turned up down left it in
      let before : AreBetween up rest n = between_last up down left it e m in
      let behind = turned up rest n before in
      let number : left ≡ suc n = omega (arith, m) in
      let all : take left down ≡ x ∷ take n rest = ap₂ take number e in
      between_upwards up down left it ∙ sym (reverse-reverse it.between) ∙ ap reverse (sym (between_upwards down up left back) ∙ all)
      ∙ reverse-append (x ∷ []) (take n rest) ∙ ap (λ us. reverse us ++ x ∷ []) (between_upwards rest up n behind) ∙ ap (λ us. us ++ x ∷ []) (reverse-reverse before.between ∙ sym (between_upwards up rest n before))

pub reversed_length : {A : Type 0} (xs : List A) → length xs ≡ length (reverse xs)
reversed_length xs = sym (length-reverse xs)

-- nothing is left while a cursor holds no run
pub left_none : {T : Type 0} (order : T → T → Ordering) (direction : Direction) (xs run : List T) → length run ≡ 0 → left_of order direction xs run ≡ []
left_none order Asc xs [] e = refl
left_none order Desc xs [] e = refl
left_none order direction xs (x ∷ run) e = absurd (omega (arith, e))
