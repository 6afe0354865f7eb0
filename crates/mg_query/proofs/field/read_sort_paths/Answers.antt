use Rattle.std.proofs.Common.{◌≡◌, ◌+◌, ◌++◌, List, ◌∷◌, drop, map, option_map, ap, sym, ◌∙◌, add-one}
use Rattle.std.proofs.Math.Seq.{drop-cons}
use Rattle.mg_value.specs.View.{view}
use Rattle.mg_value.specs.declared.value.Json.{Json}
use Rattle.mg_index.specs.Definition.{Steps}
use Rattle.mg_index.specs.Reading.{each_of}
use Rattle.mg_query.specs.Query.{sort_path}
use Rattle.std.proofs.Common.{Vec, Global}
use Rattle.std.proofs.lemmas.Result.{err_from_is_err_and}
use Rattle.std.specs.Prelude.{ok_or}
use Rattle.mg_path.specs.declared.path.Path.{Path}
use Rattle.mg_query.specs.declared.error.QueryError.TheVariants.{Shape}
use Rattle.mg_query.proofs.Exits.{exits}
use Rattle.mg_query.proofs.Each.{failed, none_more, one_more}
use Rattle.mg_query.proofs.field.read_sort_paths.Goals as goal

pub loop-field-preserved : goal.loop-field-preserved
loop-field-preserved c =
    let l = c.loop-field in
    let fields = c.args.fields.now in
    let field = c.field-item.result in
    let rest = drop (l.field-index + 1) fields in
    let first : drop l.field-index fields ≡ field ∷ rest = drop-cons fields l.field-index field c.loop-field-test.true ∙ rw (add-one, ← c.field-item.is) in
    l.invariant ∙ ap (λ (xs : List Json). option_map (λ ps. l.paths.items ++ ps) (each_of sort_path (map view xs))) first
    ∙ one_more sort_path l.paths.items (view field) (map view rest) c.in_ok-path.path c.in_ok-path.ensures
    ∙ ap (λ (xs : List Steps). option_map (λ ps. xs ++ ps) (each_of sort_path (map view rest))) (sym c.in_ok-push.ensures.items)

pub returns-in_err-path : goal.returns-in_err-path
returns-in_err-path c =
    let l = c.loop-field in
    let fields = c.args.fields.now in
    let field = c.field-item.result in
    let rest = drop (l.field-index + 1) fields in
    let first : drop l.field-index fields ≡ field ∷ rest = drop-cons fields l.field-index field c.loop-field-test.true ∙ rw (add-one, ← c.field-item.is) in
    let exit = err_from_is_err_and c.from_residual-in_err-path.result c.from_residual-in_err-path.ensures.1 in
    exits (λ (v : Vec Path Global). v.items) c.from_residual-in_err-path.result c.in_err-path.field-0.0 exit.0 (ok_or (each_of sort_path (map view fields)) Shape) exit.1 exit.2
    (failed c.in_err-path.field-0.0 (sort_path (view field)) (each_of sort_path (map view fields)) c.in_err-path.ensures
    (λ e. l.invariant ∙ ap (λ (xs : List Json). option_map (λ ps. l.paths.items ++ ps) (each_of sort_path (map view xs))) first ∙ none_more sort_path l.paths.items (view field) (map view rest) e))
