use Rattle.std.proofs.Common.{◌≡◌, ◌+◌, ◌++◌, List, ◌∷◌, drop, map, option_map, ap, sym, ◌∙◌, add-one}
use Rattle.std.proofs.Math.Seq.{drop-cons}
use Rattle.mg_value.specs.View.{view}
use Rattle.mg_value.specs.declared.value.Json.{Json}
use Rattle.mg_index.specs.Definition.{Steps}
use Rattle.mg_index.specs.Reading.{each_of}
use Rattle.mg_query.specs.Query.{path_of}
use Rattle.mg_query.proofs.Each.{one_more}
use Rattle.mg_query.proofs.field.read_paths.Goals as goal

pub loop-text-preserved : goal.loop-text-preserved
loop-text-preserved c =
    let l = c.loop-text in
    let texts = c.args.texts.now in
    let text = c.text-item.result in
    let rest = drop (l.text-index + 1) texts in
    let first : drop l.text-index texts ≡ text ∷ rest = drop-cons texts l.text-index text c.loop-text-test.true ∙ rw (add-one, ← c.text-item.is) in
    l.invariant ∙ ap (λ (xs : List Json). option_map (λ ps. l.paths.items ++ ps) (each_of path_of (map view xs))) first
    ∙ one_more path_of l.paths.items (view text) (map view rest) c.in_ok-path.path c.in_ok-path.ensures
    ∙ ap (λ (xs : List Steps). option_map (λ ps. xs ++ ps) (each_of path_of (map view rest))) (sym c.in_ok-push.ensures.items)
