-- How the logic stores a value: as the steps that build it on three stacks.
use Rattle.std.specs.Prelude.{◌≡◌, ◌==◌, ◌⊎◌, ℕ, ℤ, List, [], ◌∷◌, ◌++◌, Bool, cond, refl}
use Rattle.std.proofs.Common.{inl, inr, ap, sym, ◌∙◌, append_assoc, append-nil}
use Rattle.std.specs.Coded.{Coded, code_by, coded⊎, coded_ℕ, coded_ℤ, coded_bool, coded_list}
use Rattle.mg_value.specs.Value.{Value, null, flag, whole, text, list, object, Items, no_items, item, Members, no_members, member}

-- a step: a flag or a number; a text, or the name at which a member is joined; or the tag of one of the other steps (see `build`)
abbrev pub Step : Type 0
Step = (Bool ⊎ ℤ) ⊎ ((List ℕ ⊎ List ℕ) ⊎ ℕ)

-- the stacks of values, arrays and objects that are not yet part of a larger value
abbrev pub Stacks : Type 0
Stacks = List Value × List Items × List Members

-- a finished value goes on its stack
abbrev push : Value → Stacks → Stacks
push v s = (v ∷ s.0, s.1, s.2)

-- the value on top becomes the first item of the array on top; nothing changes if either is missing
abbrev join_item : List Value → List Items → List Members → Stacks
join_item (v ∷ a) (vs ∷ b) c = (a, item v vs ∷ b, c)
join_item [] b c = ([], b, c)
join_item (v ∷ a) [] c = (v ∷ a, [], c)

-- the array on top becomes a value; nothing changes without an array
abbrev join_list : List Value → List Items → List Members → Stacks
join_list a (vs ∷ b) c = (list vs ∷ a, b, c)
join_list a [] c = (a, [], c)

-- the value on top becomes the first member of the object on top, at the name k; nothing changes if either is missing
abbrev join_member : List ℕ → List Value → List Items → List Members → Stacks
join_member k (v ∷ a) b (ms ∷ c) = (a, b, member k v ms ∷ c)
join_member k [] b c = ([], b, c)
join_member k (v ∷ a) b [] = (v ∷ a, b, [])

-- the object on top becomes a value; nothing changes without an object
abbrev join_object : List Value → List Items → List Members → Stacks
join_object a b (ms ∷ c) = (object ms ∷ a, b, c)
join_object a b [] = (a, b, [])

-- the stacks after one step; the tags: 0 null, 1 a new array, 2 joins an item, 3 ends an array, 4 a new object, any other (`steps` has 5)
-- ends an object
abbrev build : Step → Stacks → Stacks
build (inl (inl b)) s = push (flag b) s
build (inl (inr z)) s = push (whole z) s
build (inr (inl (inl t))) s = push (text t) s
build (inr (inl (inr k))) s = join_member k s.0 s.1 s.2
build (inr (inr n)) s =
    cond (n == 0) (push null s)
    (cond (n == 1) (s.0, no_items ∷ s.1, s.2) (cond (n == 2) (join_item s.0 s.1 s.2) (cond (n == 3) (join_list s.0 s.1 s.2)
    (cond (n == 4) (s.0, s.1, no_members ∷ s.2) (join_object s.0 s.1 s.2)))))

-- the stacks after all the steps
abbrev built : List Step → Stacks → Stacks
built [] s = s
built (x ∷ xs) s = built xs (build x s)

-- the steps that build a value; those of items leave an array, and those of members an object, on the stack of these
abbrev mutual
  steps : Value → List Step
  steps null = inr (inr 0) ∷ []
  steps (flag b) = inl (inl b) ∷ []
  steps (whole z) = inl (inr z) ∷ []
  steps (text t) = inr (inl (inl t)) ∷ []
  steps (list vs) = items_steps vs ++ inr (inr 3) ∷ []
  steps (object ms) = members_steps ms ++ inr (inr 5) ∷ []

  items_steps : Items → List Step
  items_steps no_items = inr (inr 1) ∷ []
  items_steps (item v vs) = steps v ++ (items_steps vs ++ inr (inr 2) ∷ [])

  members_steps : Members → List Step
  members_steps no_members = inr (inr 4) ∷ []
  members_steps (member k v ms) = steps v ++ (members_steps ms ++ inr (inl (inr k)) ∷ [])

-- the value on top, or null
abbrev top : List Value → Value
top [] = null
top (v ∷ a) = v

-- the value that the steps, from empty stacks, leave on top; null if they leave none
abbrev from_steps : List Step → Value
from_steps xs = top (built xs ([], [], [])).0

-- the steps of a value leave it on top
mutual
  run_value : (v : Value) (xs : List Step) (s : Stacks) → built (steps v ++ xs) s ≡ built xs (push v s)
  run_value null xs s = refl
  run_value (flag b) xs s = refl
  run_value (whole z) xs s = refl
  run_value (text t) xs s = refl
  run_value (list vs) xs s = ap (λ ys. built ys s) (append_assoc (items_steps vs) (inr (inr 3) ∷ []) xs) ∙ run_items vs (inr (inr 3) ∷ xs) s
  run_value (object ms) xs s = ap (λ ys. built ys s) (append_assoc (members_steps ms) (inr (inr 5) ∷ []) xs) ∙ run_members ms (inr (inr 5) ∷ xs) s

  run_items : (vs : Items) (xs : List Step) (s : Stacks) → built (items_steps vs ++ xs) s ≡ built xs (s.0, vs ∷ s.1, s.2)
  run_items no_items xs s = refl
  run_items (item v vs) xs s =
      ap (λ ys. built ys s) (append_assoc (steps v) (items_steps vs ++ inr (inr 2) ∷ []) xs ∙ ap (λ ys. steps v ++ ys) (append_assoc (items_steps vs) (inr (inr 2) ∷ []) xs))
      ∙ run_value v (items_steps vs ++ inr (inr 2) ∷ xs) s ∙ run_items vs (inr (inr 2) ∷ xs) (push v s)

  run_members : (ms : Members) (xs : List Step) (s : Stacks) → built (members_steps ms ++ xs) s ≡ built xs (s.0, s.1, ms ∷ s.2)
  run_members no_members xs s = refl
  run_members (member k v ms) xs s =
      ap (λ ys. built ys s) (append_assoc (steps v) (members_steps ms ++ inr (inl (inr k)) ∷ []) xs ∙ ap (λ ys. steps v ++ ys) (append_assoc (members_steps ms) (inr (inl (inr k)) ∷ []) xs))
      ∙ run_value v (members_steps ms ++ inr (inl (inr k)) ∷ xs) s ∙ run_members ms (inr (inl (inr k)) ∷ xs) (push v s)

-- the steps of a value build the value
pub from_steps-steps : (v : Value) → from_steps (steps v) ≡ v
from_steps-steps v = ap (λ xs. top (built xs ([], [], [])).0) (sym (append-nil (steps v))) ∙ ap (λ s. top s.0) (run_value v [] ([], [], []))

-- the encoding that a `Model` of values needs
abbrev pub value_code : Coded Value
value_code = code_by (List Step) (coded_list (coded⊎ (coded⊎ coded_bool coded_ℤ) (coded⊎ (coded⊎ (coded_list coded_ℕ) (coded_list coded_ℕ)) coded_ℕ))) steps from_steps from_steps-steps

-- ---- items and members are stored as the values that they make

-- an array's items; another value has no items
abbrev pub items_of_value : Value → Items
items_of_value (list vs) = vs
items_of_value v = no_items

-- an object's members; another value has no members
abbrev pub members_of_value : Value → Members
members_of_value (object ms) = ms
members_of_value v = no_members

-- the encoding that a `Model` of items needs
abbrev pub items_code : Coded Items
items_code = code_by Value value_code (λ vs. list vs) items_of_value (λ _. refl)

-- the encoding that a `Model` of members needs
abbrev pub members_code : Coded Members
members_code = code_by Value value_code (λ ms. object ms) members_of_value (λ _. refl)
