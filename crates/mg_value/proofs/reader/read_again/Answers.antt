use Rattle.std.proofs.Common.{◌≡◌, ◌<◌, ℕ, List, [], ◌∷◌, length, Some, arith}
use Rattle.serde_json.specs.Data.{Data}
use Rattle.serde_json.specs.Read.{read}
use Rattle.serde_json.proofs.OnLiterals.{serde_json_on_literals}
use Rattle.serde_json.specs.View.{view as data_view}
use Rattle.mg_value.proofs.reader.read_again.Goals as goal

-- the empty text is not a JSON text
is_some_text : (text : List ℕ) (d : Data) → read text ≡ Some d → 0 < length text
unfolding serde_json_on_literals
is_some_text [] d h = absurd cc
is_some_text (c ∷ text) d h = omega arith

pub returns-in-Ok-clause-no_memory : goal.returns-in-Ok-clause-no_memory
returns-in-Ok-clause-no_memory c h = is_some_text c.args.text.now (data_view c.in-Ok.value) c.in-Ok.ensures.ok
