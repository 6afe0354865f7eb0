-- The lengths of what a merge was given, and of its result.
use Rattle.std.specs.Prelude.{ℕ, List, refl}
use Rattle.std.specs.Coded.{Coded, code_by, coded×, coded_list, coded_ℕ}

-- the lengths of the lists of a merge, in their order, and of its result
pub record WorkView : Type 0 where
  pub handed : List ℕ
  pub taken : ℕ

-- how the logic stores a `WorkView`: as a pair
abbrev pub work_view_code : Coded WorkView
work_view_code = code_by (List ℕ × ℕ) (coded× (coded_list coded_ℕ) coded_ℕ) (λ w. (w.handed, w.taken)) (λ p. record { handed = p.0; taken = p.1 }) (λ _. refl)
