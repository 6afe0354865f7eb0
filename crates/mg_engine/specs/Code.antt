-- How the logic stores what commands ask.
use Rattle.std.specs.Prelude.{◌≡◌, ◌⊎◌, ℕ, List, Bool, refl}
use Rattle.std.proofs.Common.{inl, inr}
use Rattle.std.specs.Coded.{Coded, code_by, coded×, coded⊎, coded_ℕ, coded_bool, coded_list}
use Rattle.mg_value.specs.Code.{value_code}
use Rattle.mg_value.specs.Value.{Value}
use Rattle.mg_engine.specs.Commands.{Asked, bulk, create_index, drop_index, list_indexes, find, explain, get, reshard}

-- the body of a command, for the five kinds of commands that have one
abbrev pub Bodies : Type 0
Bodies = (Value ⊎ Value) ⊎ (Value ⊎ (Value ⊎ Value))

-- what other commands carry: the names of an index; a document's id and a flag; or, for `list_indexes`, an unused number
abbrev pub Names : Type 0
Names = (List ℕ × List ℕ) ⊎ ((List ℕ × Bool) ⊎ ℕ)

-- what a command carries: its body, or names
abbrev pub parts_of : Asked → Bodies ⊎ Names
parts_of (bulk v) = inl (inl (inl v))
parts_of (create_index v) = inl (inl (inr v))
parts_of (find v) = inl (inr (inl v))
parts_of (explain v) = inl (inr (inr (inl v)))
parts_of (reshard v) = inl (inr (inr (inr v)))
parts_of (drop_index ddoc name) = inr (inl (ddoc, name))
parts_of (get id conflicts) = inr (inr (inl (id, conflicts)))
parts_of list_indexes = inr (inr (inr 0))

-- the command that carries this
abbrev pub asked_from : Bodies ⊎ Names → Asked
asked_from (inl (inl (inl v))) = bulk v
asked_from (inl (inl (inr v))) = create_index v
asked_from (inl (inr (inl v))) = find v
asked_from (inl (inr (inr (inl v)))) = explain v
asked_from (inl (inr (inr (inr v)))) = reshard v
asked_from (inr (inl p)) = drop_index p.0 p.1
asked_from (inr (inr (inl p))) = get p.0 p.1
asked_from (inr (inr (inr n))) = list_indexes

-- from what a command carries, `asked_from` makes the command again
pub asked_from_parts : (c : Asked) → asked_from (parts_of c) ≡ c
asked_from_parts (bulk v) = refl
asked_from_parts (create_index v) = refl
asked_from_parts (find v) = refl
asked_from_parts (explain v) = refl
asked_from_parts (reshard v) = refl
asked_from_parts (drop_index ddoc name) = refl
asked_from_parts (get id conflicts) = refl
asked_from_parts list_indexes = refl

-- how the logic stores a command
abbrev pub asked_code : Coded Asked
asked_code =
    code_by (Bodies ⊎ Names) (coded⊎ (coded⊎ (coded⊎ value_code value_code) (coded⊎ value_code (coded⊎ value_code value_code))) (coded⊎ (coded× (coded_list coded_ℕ) (coded_list coded_ℕ)) (coded⊎ (coded× (coded_list coded_ℕ) coded_bool) coded_ℕ)))
    parts_of asked_from asked_from_parts
