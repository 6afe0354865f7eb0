-- How the logic stores an operator: as a program for a machine with two stacks, one of selectors and one of arms.
use Rattle.std.specs.Prelude.{◌≡◌, ◌==◌, ◌⊎◌, ℕ, ℤ, pos, List, [], ◌∷◌, ◌++◌, Bool, false, cond, refl}
use Rattle.std.proofs.Common.{inl, inr, ap, sym, ◌∙◌, append_assoc, append-nil}
use Rattle.std.specs.Coded.{Coded, code_by, coded×, coded⊎, coded_ℕ, coded_list}
use Rattle.mg_value.specs.Code.{value_code}
use Rattle.mg_value.specs.Value.{Value, null, flag, whole, list, Items, no_items, item}
use Rattle.mg_selector.specs.Selector.{Selector, members, every, some, none, opposite, at, asks, Arms, no_arms, arm, Operator, less, at_most, equal, unequal, at_least, greater, exists, of_type, among, not_among, size, modulo, containing, some_element, each_element}
use Rattle.mg_selector.specs.contracts.json_type.JsonType as json_type
use Rattle.mg_selector.specs.declared.json_type.JsonType.{JsonType}

-- an instruction: push an operator (by number) with its argument, push a `$type` with its type, put the selector on top at a path,
-- or one of the other instructions (by number)
abbrev pub Instruction : Type 0
Instruction = ((ℕ × Value) ⊎ JsonType) ⊎ (List (List ℕ) ⊎ ℕ)

-- the stack of selectors, and the stack of arms
abbrev pub Stacks : Type 0
Stacks = List Selector × List Arms

-- ---- operators with an argument

-- the flag that the value is; false for any other value
abbrev flag_in : Value → Bool
flag_in (flag b) = b
flag_in v = false

-- the number that the value is; 0 for any other value
abbrev number_in : Value → ℤ
number_in (whole z) = z
number_in v = pos 0

-- the number, or 0 if it is negative
abbrev size_in : ℤ → ℕ
size_in (pos n) = n
size_in z = 0

-- the items of the value; no items if it is not an array
abbrev items_in : Value → Items
items_in (list vs) = vs
items_in v = no_items

-- the first item; null without items
abbrev first_in : Items → Value
first_in no_items = null
first_in (item v vs) = v

-- the items after the first
abbrev behind_first : Items → Items
behind_first no_items = no_items
behind_first (item v vs) = vs

-- the operator of this number and argument; `$mod` for every number from 11 up
abbrev operator_by : ℕ → Value → Operator
operator_by n v =
    cond (n == 0) (less v) (cond (n == 1) (at_most v) (cond (n == 2) (equal v) (cond (n == 3) (unequal v)
    (cond (n == 4) (at_least v) (cond (n == 5) (greater v) (cond (n == 6) (exists (flag_in v)) (cond (n == 7) (among (items_in v))
    (cond (n == 8) (not_among (items_in v)) (cond (n == 9) (size (size_in (number_in v))) (cond (n == 10) (containing (items_in v))
    (modulo (number_in (first_in (items_in v))) (number_in (first_in (behind_first (items_in v)))))))))))))))

-- ---- the machine; an instruction that needs more than the stacks hold changes nothing

-- replaces the selector on top by f of it
abbrev on_top : (Selector → Selector) → List Selector → List Selector
on_top f [] = []
on_top f (x ∷ xs) = f x ∷ xs

-- pops arms, and pushes f of them as one selector
abbrev close : (Arms → Selector) → List Selector → List Arms → Stacks
close f a [] = (a, [])
close f a (ss ∷ b) = (f ss ∷ a, b)

-- pops a selector, and puts it at the front of the arms on top
abbrev join : List Selector → List Arms → Stacks
join [] b = ([], b)
join (x ∷ a) [] = (x ∷ a, [])
join (x ∷ a) (ss ∷ b) = (a, arm x ss ∷ b)

-- runs an instruction
abbrev run : Instruction → Stacks → Stacks
run (inl (inl p)) s = (asks (operator_by p.0 p.1) ∷ s.0, s.1)
run (inl (inr t)) s = (asks (of_type t) ∷ s.0, s.1)
run (inr (inl path)) s = (on_top (at path) s.0, s.1)
run (inr (inr n)) s =
    cond (n == 0) (close members s.0 s.1) (cond (n == 1) (close every s.0 s.1) (cond (n == 2) (close some s.0 s.1)
    (cond (n == 3) (close none s.0 s.1) (cond (n == 4) (on_top opposite s.0, s.1) (cond (n == 5) (s.0, no_arms ∷ s.1)
    (cond (n == 6) (join s.0 s.1) (cond (n == 7) (on_top (λ x. asks (some_element x)) s.0, s.1) (on_top (λ x. asks (each_element x)) s.0, s.1))))))))

-- runs instructions in turn
abbrev run_all : List Instruction → Stacks → Stacks
run_all [] s = s
run_all (x ∷ xs) s = run_all xs (run x s)

-- the one instruction that pushes the operator of this number and argument
abbrev numbered : ℕ → Value → List Instruction
numbered n v = inl (inl (n, v)) ∷ []

abbrev mutual
  -- the instructions that push a selector
  selector_instructions : Selector → List Instruction
  selector_instructions (members ss) = arms_instructions ss ++ inr (inr 0) ∷ []
  selector_instructions (every ss) = arms_instructions ss ++ inr (inr 1) ∷ []
  selector_instructions (some ss) = arms_instructions ss ++ inr (inr 2) ∷ []
  selector_instructions (none ss) = arms_instructions ss ++ inr (inr 3) ∷ []
  selector_instructions (opposite x) = selector_instructions x ++ inr (inr 4) ∷ []
  selector_instructions (at path x) = selector_instructions x ++ inr (inl path) ∷ []
  selector_instructions (asks o) = operator_instructions o

  -- the instructions that push arms
  arms_instructions : Arms → List Instruction
  arms_instructions no_arms = inr (inr 5) ∷ []
  arms_instructions (arm x ss) = selector_instructions x ++ (arms_instructions ss ++ inr (inr 6) ∷ [])

  -- the instructions that push an operator, as a selector
  operator_instructions : Operator → List Instruction
  operator_instructions (less v) = numbered 0 v
  operator_instructions (at_most v) = numbered 1 v
  operator_instructions (equal v) = numbered 2 v
  operator_instructions (unequal v) = numbered 3 v
  operator_instructions (at_least v) = numbered 4 v
  operator_instructions (greater v) = numbered 5 v
  operator_instructions (exists there) = numbered 6 (flag there)
  operator_instructions (of_type t) = inl (inr t) ∷ []
  operator_instructions (among vs) = numbered 7 (list vs)
  operator_instructions (not_among vs) = numbered 8 (list vs)
  operator_instructions (size n) = numbered 9 (whole (pos n))
  operator_instructions (containing vs) = numbered 10 (list vs)
  operator_instructions (modulo d r) = numbered 11 (list (item (whole d) (item (whole r) no_items)))
  operator_instructions (some_element x) = selector_instructions x ++ inr (inr 7) ∷ []
  operator_instructions (each_element x) = selector_instructions x ++ inr (inr 8) ∷ []

-- the operator on top; `$exists` of false if there is no operator on top
abbrev top : List Selector → Operator
top (asks o ∷ xs) = o
top xs = exists false

-- the operator that the instructions leave on top
abbrev operator_from : List Instruction → Operator
operator_from xs = top (run_all xs ([], [])).0

-- if running the instructions and then `last ∷ xs` from s ends as running `last ∷ xs` from t does, then so does running from s the
-- instructions with `last` appended, and then xs
then_one : (instructions : List Instruction) (last : Instruction) (xs : List Instruction) (s t : Stacks) → run_all (instructions ++ last ∷ xs) s ≡ run_all (last ∷ xs) t → run_all ((instructions ++ last ∷ []) ++ xs) s ≡ run_all (last ∷ xs) t
then_one instructions last xs s t e = ap (λ ys. run_all ys s) (append_assoc instructions (last ∷ []) xs) ∙ e

-- running a selector's instructions pushes that selector; likewise for arms and operators
mutual
  run_selector : (x : Selector) (xs : List Instruction) (s : Stacks) → run_all (selector_instructions x ++ xs) s ≡ run_all xs (x ∷ s.0, s.1)
  run_selector (members ss) xs s = then_one (arms_instructions ss) (inr (inr 0)) xs s (s.0, ss ∷ s.1) (run_arms ss (inr (inr 0) ∷ xs) s)
  run_selector (every ss) xs s = then_one (arms_instructions ss) (inr (inr 1)) xs s (s.0, ss ∷ s.1) (run_arms ss (inr (inr 1) ∷ xs) s)
  run_selector (some ss) xs s = then_one (arms_instructions ss) (inr (inr 2)) xs s (s.0, ss ∷ s.1) (run_arms ss (inr (inr 2) ∷ xs) s)
  run_selector (none ss) xs s = then_one (arms_instructions ss) (inr (inr 3)) xs s (s.0, ss ∷ s.1) (run_arms ss (inr (inr 3) ∷ xs) s)
  run_selector (opposite x) xs s = then_one (selector_instructions x) (inr (inr 4)) xs s (x ∷ s.0, s.1) (run_selector x (inr (inr 4) ∷ xs) s)
  run_selector (at path x) xs s = then_one (selector_instructions x) (inr (inl path)) xs s (x ∷ s.0, s.1) (run_selector x (inr (inl path) ∷ xs) s)
  run_selector (asks o) xs s = run_operator o xs s

  run_arms : (ss : Arms) (xs : List Instruction) (s : Stacks) → run_all (arms_instructions ss ++ xs) s ≡ run_all xs (s.0, ss ∷ s.1)
  run_arms no_arms xs s = refl
  run_arms (arm x ss) xs s =
      ap (λ ys. run_all ys s) (append_assoc (selector_instructions x) (arms_instructions ss ++ inr (inr 6) ∷ []) xs ∙ ap (λ ys. selector_instructions x ++ ys) (append_assoc (arms_instructions ss) (inr (inr 6) ∷ []) xs))
      ∙ run_selector x (arms_instructions ss ++ inr (inr 6) ∷ xs) s ∙ run_arms ss (inr (inr 6) ∷ xs) (x ∷ s.0, s.1)

  run_operator : (o : Operator) (xs : List Instruction) (s : Stacks) → run_all (operator_instructions o ++ xs) s ≡ run_all xs (asks o ∷ s.0, s.1)
  run_operator (less v) xs s = refl
  run_operator (at_most v) xs s = refl
  run_operator (equal v) xs s = refl
  run_operator (unequal v) xs s = refl
  run_operator (at_least v) xs s = refl
  run_operator (greater v) xs s = refl
  run_operator (exists there) xs s = refl
  run_operator (of_type t) xs s = refl
  run_operator (among vs) xs s = refl
  run_operator (not_among vs) xs s = refl
  run_operator (size n) xs s = refl
  run_operator (containing vs) xs s = refl
  run_operator (modulo d r) xs s = refl
  run_operator (some_element x) xs s = then_one (selector_instructions x) (inr (inr 7)) xs s (x ∷ s.0, s.1) (run_selector x (inr (inr 7) ∷ xs) s)
  run_operator (each_element x) xs s = then_one (selector_instructions x) (inr (inr 8)) xs s (x ∷ s.0, s.1) (run_selector x (inr (inr 8) ∷ xs) s)

-- running the instructions of an operator gives the operator back
pub operator_from-instructions : (o : Operator) → operator_from (operator_instructions o) ≡ o
operator_from-instructions o = ap (λ xs. top (run_all xs ([], [])).0) (sym (append-nil (operator_instructions o))) ∙ ap (λ s. top s.0) (run_operator o [] ([], []))

-- how the logic stores an operator
abbrev pub operator_code : Coded Operator
operator_code =
    code_by (List Instruction) (coded_list (coded⊎ (coded⊎ (coded× coded_ℕ value_code) json_type.the_row.coded) (coded⊎ (coded_list (coded_list coded_ℕ)) coded_ℕ)))
    operator_instructions operator_from operator_from-instructions
