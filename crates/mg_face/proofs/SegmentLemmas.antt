-- Paths of three, of five and of six segments.
use Rattle.std.proofs.Common.{◌≡◌, ℕ, ◌<◌, ◌≤◌, List, [], ◌∷◌, length, map, get_or, Option, refl, ap, ◌∙◌, arith}
use Rattle.std.specs.Prelude.{codes}
use Rattle.mg_face.specs.declared.route.Resource.{Resource}
use Rattle.mg_face.specs.Routes.{resource_of, three_resource, index_resource, design_resource}
use Rattle.mg_face.specs.Plan.{text_in, index_of, drop_design_plan, design_of, read_design}

pub three_segments : {A : Type 0} (f : A → List ℕ) (xs : List A) (d : A) (r : Resource) → r ≡ three_resource (f (get_or xs 1 d)) → 3 ≤ length xs → length xs < 4
    → r ≡ resource_of (map f xs)
three_segments f [] d r is least most = absurd (omega arith)
three_segments f (x0 ∷ []) d r is least most = absurd (omega arith)
three_segments f (x0 ∷ x1 ∷ []) d r is least most = absurd (omega arith)
three_segments f (x0 ∷ x1 ∷ x2 ∷ []) d r is least most = is
three_segments f (x0 ∷ x1 ∷ x2 ∷ x3 ∷ xs) d r is least most = absurd (omega arith)

pub five_segments : {A : Type 0} (f : A → List ℕ) (xs : List A) (d e : A) (r : Resource) → r ≡ index_resource (f (get_or xs 1 d)) (f (get_or xs 3 e))
    → 5 ≤ length xs → length xs < 6 → r ≡ resource_of (map f xs)
five_segments f [] d e r is least most = absurd (omega arith)
five_segments f (x0 ∷ []) d e r is least most = absurd (omega arith)
five_segments f (x0 ∷ x1 ∷ []) d e r is least most = absurd (omega arith)
five_segments f (x0 ∷ x1 ∷ x2 ∷ []) d e r is least most = absurd (omega arith)
five_segments f (x0 ∷ x1 ∷ x2 ∷ x3 ∷ []) d e r is least most = absurd (omega arith)
five_segments f (x0 ∷ x1 ∷ x2 ∷ x3 ∷ x4 ∷ []) d e r is least most = is
five_segments f (x0 ∷ x1 ∷ x2 ∷ x3 ∷ x4 ∷ x5 ∷ xs) d e r is least most = absurd (omega arith)

pub six_segments : {A : Type 0} (f : A → List ℕ) (xs : List A) (d e g : A) (r : Resource)
    → r ≡ design_resource (f (get_or xs 1 d)) (f (get_or xs 2 e)) (f (get_or xs 4 g)) → 6 ≤ length xs → length xs < 7 → r ≡ resource_of (map f xs)
six_segments f [] d e g r is least most = absurd (omega arith)
six_segments f (x0 ∷ []) d e g r is least most = absurd (omega arith)
six_segments f (x0 ∷ x1 ∷ []) d e g r is least most = absurd (omega arith)
six_segments f (x0 ∷ x1 ∷ x2 ∷ []) d e g r is least most = absurd (omega arith)
six_segments f (x0 ∷ x1 ∷ x2 ∷ x3 ∷ []) d e g r is least most = absurd (omega arith)
six_segments f (x0 ∷ x1 ∷ x2 ∷ x3 ∷ x4 ∷ []) d e g r is least most = absurd (omega arith)
six_segments f (x0 ∷ x1 ∷ x2 ∷ x3 ∷ x4 ∷ x5 ∷ []) d e g r is least most = is
six_segments f (x0 ∷ x1 ∷ x2 ∷ x3 ∷ x4 ∷ x5 ∷ x6 ∷ xs) d e g r is least most = absurd (omega arith)

-- the index that the fourth and the sixth of six segments name
named_by : {A : Type 0} (f : A → List ℕ) (xs : List A) (d e : A) → 6 ≤ length xs → length xs < 7
    → index_of (codes "_design/") (text_in (f (get_or xs 3 d))) (text_in (f (get_or xs 5 e))) ≡ drop_design_plan (map f xs)
named_by f [] d e least most = absurd (omega arith)
named_by f (x0 ∷ []) d e least most = absurd (omega arith)
named_by f (x0 ∷ x1 ∷ []) d e least most = absurd (omega arith)
named_by f (x0 ∷ x1 ∷ x2 ∷ []) d e least most = absurd (omega arith)
named_by f (x0 ∷ x1 ∷ x2 ∷ x3 ∷ []) d e least most = absurd (omega arith)
named_by f (x0 ∷ x1 ∷ x2 ∷ x3 ∷ x4 ∷ []) d e least most = absurd (omega arith)
named_by f (x0 ∷ x1 ∷ x2 ∷ x3 ∷ x4 ∷ x5 ∷ []) d e least most = refl
named_by f (x0 ∷ x1 ∷ x2 ∷ x3 ∷ x4 ∷ x5 ∷ x6 ∷ xs) d e least most = absurd (omega arith)

pub design_index : {A : Type 0} (f : A → List ℕ) (xs : List A) (d e : A) (ddoc name : Option (List ℕ)) → ddoc ≡ text_in (f (get_or xs 3 d))
    → name ≡ text_in (f (get_or xs 5 e)) → 6 ≤ length xs → length xs < 7 → index_of (codes "_design/") ddoc name ≡ drop_design_plan (map f xs)
design_index f xs d e ddoc name is named least most =
    ap (λ o. index_of (codes "_design/") o name) is ∙ ap (index_of (codes "_design/") (text_in (f (get_or xs 3 d)))) named
    ∙ named_by f xs d e least most

-- the design document that the third of three segments names
pub design_named : {A : Type 0} (f : A → List ℕ) (xs : List A) (d : A) (name : Option (List ℕ)) → name ≡ text_in (f (get_or xs 2 d)) → 3 ≤ length xs → length xs < 4
    → design_of name ≡ read_design (map f xs)
design_named f [] d name is least most = absurd (omega arith)
design_named f (x0 ∷ []) d name is least most = absurd (omega arith)
design_named f (x0 ∷ x1 ∷ []) d name is least most = absurd (omega arith)
design_named f (x0 ∷ x1 ∷ x2 ∷ []) d name is least most = ap design_of is
design_named f (x0 ∷ x1 ∷ x2 ∷ x3 ∷ xs) d name is least most = absurd (omega arith)
