use Rattle.std.proofs.Common.{Option, Some, None}
use Rattle.std.specs.Prelude.{IfSome}
use Rattle.json.specs.Value.{value_view}
use Rattle.mg_value.specs.Borrowed.{IsTreeOf}
use Rattle.mg_value.specs.Text.{Reads}
use Rattle.mg_value.specs.View.{view}
use Rattle.mg_value.specs.declared.value.Json.{Json}
use Rattle.mg_value.proofs.borrowed.read_with.Goals as goal

weaker : (P Q : Json → Type 0) (o : Option Json) → ((v : Json) → P v → Q v) → IfSome o P → IfSome o Q
weaker P Q None step h = tt
weaker P Q (Some v) step h = step v h

pub returns : goal.returns
returns c =
    weaker (λ v. IsTreeOf (value_view c.in_ok-tree.tree) (view v)) (λ v. Reads c.args.text.now (view v)) c.whole.result (λ v w. c.in_ok-tree.ensures (view v) w) c.whole.ensures
