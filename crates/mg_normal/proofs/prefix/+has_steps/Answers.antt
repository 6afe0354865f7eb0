use Rattle.std.proofs.Common.{◌≡◌, map, string_bytes, sym, ap, ap₂, ◌∙◌}
use Rattle.std.specs.Arc.{arc_value}
use Rattle.mg_path.specs.Equal.{path_eq}
use Rattle.mg_normal.specs.View.{above_steps}
use Rattle.mg_normal.specs.declared.prefix.Prefix.{out-Prefix}
use Rattle.mg_normal.proofs.Ends.{steps_below, texts_end, texts_end_not}
use Rattle.mg_normal.proofs.prefix.+has_steps.Goals as goal

pub returns-in-Some-strip_suffix : goal.returns-in-Some-strip_suffix
returns-in-Some-strip_suffix t c =
    let p = arc_value c.in-Some.prefix in
    let front = above_steps (out-Prefix p).above in
    let last = c.steps.result.now in
    let steps = c.args.steps.now in
    let own : map string_bytes last ≡ arc_value (out-Prefix p).path = c.steps.ensures ∙ c.deref-2.ensures ∙ ap (λ q. arc_value (out-Prefix q).path) c.deref.ensures in
    let whole = steps_below c.args.above.now c.in-Some.prefix (map string_bytes last) c.in-Some.is own in
    c.has_steps.ensures
    ∙ ap₂ path_eq (ap (λ q. above_steps (out-Prefix q).above) c.deref-in-Some-strip_suffix.ensures) (ap (map string_bytes) c.in-Some-strip_suffix.ensures.cases.1)
    ∙ sym (texts_end front last steps c.in-Some-strip_suffix.ensures.cases.0)
    ∙ sym (ap (λ ys. path_eq ys (map string_bytes steps)) whole)

pub returns-in-None : goal.returns-in-None
returns-in-None t c =
    let p = arc_value c.in-Some.prefix in
    let front = above_steps (out-Prefix p).above in
    let last = c.steps.result.now in
    let steps = c.args.steps.now in
    let own : map string_bytes last ≡ arc_value (out-Prefix p).path = c.steps.ensures ∙ c.deref-2.ensures ∙ ap (λ q. arc_value (out-Prefix q).path) c.deref.ensures in
    let whole = steps_below c.args.above.now c.in-Some.prefix (map string_bytes last) c.in-Some.is own in
    sym (ap (λ ys. path_eq ys (map string_bytes steps)) whole ∙ texts_end_not front last steps c.in-None.ensures.cases)
