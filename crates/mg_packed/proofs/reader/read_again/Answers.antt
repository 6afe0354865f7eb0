use Rattle.std.proofs.Common.{◌≡◌, ◌<◌, ℕ, List, [], ◌∷◌, length, Result, Ok, Err, Some, sym, subst, arith}
use Rattle.std.specs.Prelude.{IfOk}
use Rattle.serde_json.specs.Data.{Data}
use Rattle.serde_json.specs.Read.{read}
use Rattle.serde_json.proofs.OnLiterals.{serde_json_on_literals}
use Rattle.mg_value.specs.Text.{Reads}
use Rattle.mg_packed.proofs.reader.read_again.Goals as goal

-- the empty text is not a JSON text
is_some_text : (text : List ℕ) (d : Data) → read text ≡ Some d → 0 < length text
unfolding serde_json_on_literals
is_some_text [] d h = absurd cc
is_some_text (c ∷ text) d h = omega arith

weaker : {A E : Type 0} (P Q : A → Type 0) (r : Result A E) → ((v : A) → P v → Q v) → IfOk r P → IfOk r Q
weaker P Q (Ok v) step h = step v h
weaker P Q (Err e) step h = tt

pub returns-in-Ok-clause-ok : goal.returns-in-Ok-clause-ok
returns-in-Ok-clause-ok c = weaker _ (λ packed. Reads c.args.bytes.now packed) c.pack.result (λ v is. subst (λ x. Reads c.args.bytes.now x) (sym is) c.in-Ok.ensures.ok) c.pack.ensures.ok

pub returns-in-Ok-clause-no_memory : goal.returns-in-Ok-clause-no_memory
returns-in-Ok-clause-no_memory c h = (c.in-Ok.ensures.ok.1.0, is_some_text c.args.bytes.now c.in-Ok.ensures.ok.0 c.in-Ok.ensures.ok.1.1)
