-- What a whole number of the code stands for.
use Rattle.std.proofs.Common.{◌≡◌, ℤ, rules}
use Rattle.mg_value.specs.Value as value
use Rattle.mg_value.specs.View.{view}
use Rattle.mg_value.specs.declared.value.Json.{the_lemmas}
use Rattle.mg_value.specs.declared.value.Json as made

pub view-Whole : (z : ℤ) → view (made.Whole z) ≡ value.whole z
view-Whole z = search (rules, the_lemmas)
