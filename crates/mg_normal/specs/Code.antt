-- How the logic stores atoms and conditions: a condition is a program for a machine with two stacks, one of conditions and one of lists of
-- conditions.
use Rattle.std.specs.Prelude.{◌≡◌, ◌==◌, ◌⊎◌, ℕ, List, [], ◌∷◌, ◌++◌, cond, refl}
use Rattle.std.proofs.Common.{inl, inr, ap, sym, ◌∙◌, append_assoc, append-nil}
use Rattle.std.specs.Coded.{Coded, code_by, coded×, coded⊎, coded_ℕ, coded_list}
use Rattle.mg_selector.specs.Code.{operator_code}
use Rattle.mg_selector.specs.Selector.{Operator}
use Rattle.mg_selector.specs.contracts.sense.Sense as sense_row
use Rattle.mg_selector.specs.declared.sense.Sense.{Sense}
use Rattle.mg_normal.specs.Atoms.{Atom}
use Rattle.mg_normal.specs.Condition.{Condition, all_of, any_of, within, asked, Conditions, no_conditions, condition}

-- the code of an atom
abbrev pub atom_code : Coded Atom
atom_code =
    code_by (List (List ℕ) × (Operator × Sense)) (coded× (coded_list (coded_list coded_ℕ)) (coded× operator_code sense_row.the_row.coded))
    (λ a. (a.steps, (a.operator, a.sense))) (λ p. record { steps = p.0; operator = p.1.0; sense = p.1.1 }) (λ _. refl)

-- an instruction: push an operator in a sense; wrap the condition on top in a path; or, by number: pop a list and push a condition that
-- requires all conditions of the list (0) or any of them (1); begin a list (2); move the condition on top to the front of the list on top
-- (any other number; 3 is the one in use)
abbrev pub Instruction : Type 0
Instruction = (Operator × Sense) ⊎ (List (List ℕ) ⊎ ℕ)

-- the stack of conditions, and the stack of lists of conditions
abbrev pub Stacks : Type 0
Stacks = List Condition × List Conditions

-- wraps the condition on top in the path; changes nothing without a condition
abbrev below_path : List (List ℕ) → List Condition → List Condition
below_path path [] = []
below_path path (f ∷ a) = within path f ∷ a

-- pops a list of conditions, and pushes one condition made of it; changes nothing without a list
abbrev close : (Conditions → Condition) → List Condition → List Conditions → Stacks
close make a [] = (a, [])
close make a (fs ∷ b) = (make fs ∷ a, b)

-- pops a condition, and puts it at the front of the list of conditions on top; changes nothing without a condition or a list
abbrev join : List Condition → List Conditions → Stacks
join [] b = ([], b)
join (f ∷ a) [] = (f ∷ a, [])
join (f ∷ a) (fs ∷ b) = (a, condition f fs ∷ b)

-- runs an instruction
abbrev run : Instruction → Stacks → Stacks
run (inl p) s = (asked p.0 p.1 ∷ s.0, s.1)
run (inr (inl path)) s = (below_path path s.0, s.1)
run (inr (inr n)) s = cond (n == 0) (close all_of s.0 s.1) (cond (n == 1) (close any_of s.0 s.1) (cond (n == 2) (s.0, no_conditions ∷ s.1) (join s.0 s.1)))

-- runs instructions in turn
abbrev run_all : List Instruction → Stacks → Stacks
run_all [] s = s
run_all (x ∷ xs) s = run_all xs (run x s)

abbrev mutual
  -- the instructions that push a condition
  condition_instructions : Condition → List Instruction
  condition_instructions (all_of fs) = conditions_instructions fs ++ inr (inr 0) ∷ []
  condition_instructions (any_of fs) = conditions_instructions fs ++ inr (inr 1) ∷ []
  condition_instructions (within path f) = condition_instructions f ++ inr (inl path) ∷ []
  condition_instructions (asked o sense) = inl (o, sense) ∷ []

  -- the instructions that push a list of conditions
  conditions_instructions : Conditions → List Instruction
  conditions_instructions no_conditions = inr (inr 2) ∷ []
  conditions_instructions (condition f fs) = condition_instructions f ++ (conditions_instructions fs ++ inr (inr 3) ∷ [])

-- the condition on top; of an empty stack, one that always holds
abbrev top : List Condition → Condition
top [] = all_of no_conditions
top (f ∷ a) = f

-- the condition that the instructions leave on top
abbrev condition_from : List Instruction → Condition
condition_from xs = top (run_all xs ([], [])).0

-- the instructions of a condition push that condition, and the instructions of a list of conditions push that list
mutual
  run_condition : (f : Condition) (xs : List Instruction) (s : Stacks) → run_all (condition_instructions f ++ xs) s ≡ run_all xs (f ∷ s.0, s.1)
  run_condition (all_of fs) xs s = ap (λ ys. run_all ys s) (append_assoc (conditions_instructions fs) (inr (inr 0) ∷ []) xs) ∙ run_conditions fs (inr (inr 0) ∷ xs) s
  run_condition (any_of fs) xs s = ap (λ ys. run_all ys s) (append_assoc (conditions_instructions fs) (inr (inr 1) ∷ []) xs) ∙ run_conditions fs (inr (inr 1) ∷ xs) s
  run_condition (within path f) xs s = ap (λ ys. run_all ys s) (append_assoc (condition_instructions f) (inr (inl path) ∷ []) xs) ∙ run_condition f (inr (inl path) ∷ xs) s
  run_condition (asked o sense) xs s = refl

  run_conditions : (fs : Conditions) (xs : List Instruction) (s : Stacks) → run_all (conditions_instructions fs ++ xs) s ≡ run_all xs (s.0, fs ∷ s.1)
  run_conditions no_conditions xs s = refl
  run_conditions (condition f fs) xs s =
      ap (λ ys. run_all ys s) (append_assoc (condition_instructions f) (conditions_instructions fs ++ inr (inr 3) ∷ []) xs ∙ ap (λ ys. condition_instructions f ++ ys) (append_assoc (conditions_instructions fs) (inr (inr 3) ∷ []) xs))
      ∙ run_condition f (conditions_instructions fs ++ inr (inr 3) ∷ xs) s ∙ run_conditions fs (inr (inr 3) ∷ xs) (f ∷ s.0, s.1)

-- the instructions of a condition give the condition back
pub condition_from-instructions : (f : Condition) → condition_from (condition_instructions f) ≡ f
condition_from-instructions f = ap (λ xs. top (run_all xs ([], [])).0) (sym (append-nil (condition_instructions f))) ∙ ap (λ s. top s.0) (run_condition f [] ([], []))

-- the code of a condition
abbrev pub condition_code : Coded Condition
condition_code = code_by (List Instruction) (coded_list (coded⊎ (coded× operator_code sense_row.the_row.coded) (coded⊎ (coded_list (coded_list coded_ℕ)) coded_ℕ))) condition_instructions condition_from condition_from-instructions
