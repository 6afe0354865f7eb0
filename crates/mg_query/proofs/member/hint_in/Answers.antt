use Rattle.std.proofs.Common.{◌≡◌, ◌≤◌, length, List, [], ◌∷◌, Some, None, refl, arith, map}
use Rattle.mg_value.specs.Value.{Value, list, text}
use Rattle.mg_value.specs.View.{items_of, view}
use Rattle.mg_value.specs.declared.value.Json.{Json}
use Rattle.mg_query.specs.Query.{hint_given}
use Rattle.mg_query.proofs.member.hint_in.Goals as goal

of_three : (v w u : Value) (vs : List Value) → None ≡ hint_given (Some (list (items_of (v ∷ w ∷ u ∷ vs))))
of_three (text ddoc) (text name) u vs = refl
of_three (text ddoc) w u vs = refl
of_three v w u vs = refl

of_more : (parts : List Json) → 3 ≤ length parts → None ≡ hint_given (Some (list (items_of (map view parts))))
of_more [] h = absurd (omega arith)
of_more (v ∷ []) h = absurd (omega arith)
of_more (v ∷ w ∷ []) h = absurd (omega arith)
of_more (v ∷ w ∷ u ∷ vs) h = of_three (view v) (view w) (view u) (map view vs)

pub returns-in_default : goal.returns-in_default
returns-in_default c = of_more c.args.parts.now (omega arith)
