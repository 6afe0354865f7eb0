-- Elements in order as a finite map, each under its key.
use Rattle.std.specs.Prelude.{List, map}
use Rattle.std.specs.FinMap.{FinMap, from_sorted}
use Rattle.std.specs.declared.cmp.Ordering.{Ordering}

-- the map from the key of each element to what the element stands for; the elements ascend by their keys
abbrev pub finite : {E K X : Type 0} (R : K → K → Ordering) → (E → K) → (E → X) → List E → FinMap R X
finite R key value xs = from_sorted (map (λ x. (key x, value x)) xs)
