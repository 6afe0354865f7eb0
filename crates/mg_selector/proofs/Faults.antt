-- The fault of a reading, made up of the faults of its steps.
use Rattle.std.proofs.Common.{◌≡◌, ℕ, List, Option, Some, None, is_some, Result, Ok, Err, unwrap_or, false, true, refl}
use Rattle.std.specs.Option.{option_map_or}
use Rattle.std.specs.Result.{result_err}
use Rattle.mg_value.specs.Results.{◌>>=◌}
use Rattle.mg_selector.specs.Fault.{fmap}
use Rattle.mg_selector.specs.Reading.{ReadsAs}
use Rattle.mg_selector.specs.Selector.{Selector, at, Arms, arm}
use Rattle.mg_selector.specs.declared.error.SelError.{SelError}
use Rattle.mg_selector.specs.declared.error.SelError.TheVariants.{InvalidOperator, BadArg, Shape, NoMemory}

-- `fmap` keeps the fault
pub fault_mapped : {A B : Type 0} (f : A → B) (r : Result A SelError) → result_err (fmap f r) ≡ result_err r
fault_mapped f (Ok x) = refl
fault_mapped f (Err e) = refl

-- if the first arm has no fault, the fault is that of the rest
pub fault_later : (first : Result Selector SelError) (rest : Result Arms SelError) → result_err first ≡ None → result_err (first >>= λ s. fmap (arm s) rest) ≡ result_err rest
fault_later (Ok s) rest none = fault_mapped (arm s) rest
fault_later (Err e) rest none = absurd cc

-- if the first arm has a fault, it is the fault
pub fault_here : (first : Result Selector SelError) (rest : Result Arms SelError) (fault : Option SelError) → fault ≡ result_err first → is_some fault ≡ true → fault ≡ result_err (first >>= λ s. fmap (arm s) rest)
fault_here (Ok s) rest fault is some = absurd cc
fault_here (Err e) rest fault is some = is

-- a reading may return the fault of its value, or `NoMemory` if the value has none
pub fault_or_no_memory : {A B : Type 0} (item_view : A → B) (r : Result B SelError) → ReadsAs item_view (Err (unwrap_or (result_err r) NoMemory)) r
fault_or_no_memory item_view (Ok x) = tt
fault_or_no_memory item_view (Err InvalidOperator) = refl
fault_or_no_memory item_view (Err BadArg) = refl
fault_or_no_memory item_view (Err Shape) = refl
fault_or_no_memory item_view (Err NoMemory) = tt

-- an option that is not `Some` is `None`
pub none_unless_some : {A : Type 0} (o : Option A) → is_some o ≡ false → o ≡ None
none_unless_some None h = refl
none_unless_some (Some x) h = absurd cc

-- if the path is valid, a selector on the part there has the fault of the path's argument
pub fault_at_path : (path : Option (List (List ℕ))) (r : Result Selector SelError) → is_some path ≡ true → result_err (option_map_or (λ steps. fmap (at steps) r) path (Err BadArg)) ≡ result_err r
fault_at_path None r there = absurd cc
fault_at_path (Some steps) r there = fault_mapped (at steps) r
