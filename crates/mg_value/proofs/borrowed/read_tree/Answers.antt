use Rattle.std.proofs.Common.{◌≡◌, [], Some, option_and_then, ap, ◌∙◌, rules}
use Rattle.json.specs.Json as json
use Rattle.json.specs.Lex.{tokens}
use Rattle.json.specs.Value.{value_view}
use Rattle.serde_json.specs.Read.{of_json}
use Rattle.mg_value.proofs.borrowed.read_tree.Goals as goal

pub returns : goal.returns
returns c =
    let text = c.args.text.now in
    let tree = c.in-Ok-read.tree in
    let all : c.in-Ok.reader ≡ tokens text = search rules in
    let first : json.value 127 (tokens text) ≡ Some (value_view tree, []) = search rules in
    let parsed = ap (λ r. option_and_then of_json (option_and_then (λ p. json.if_last p.0 p.1) r)) first in
    λ v w. (w.0, (c.utf8.text, parsed ∙ w.1), w.2)
