use Rattle.std.proofs.Common.{Some, option_and_then, refl, sym, ap, ap₂, ◌∙◌}
use Rattle.std.specs.Arc.{arc_value}
use Rattle.mg_path.specs.Part.{part_of}
use Rattle.mg_normal.specs.View.{above_steps}
use Rattle.mg_normal.specs.declared.prefix.Prefix.{out-Prefix}
use Rattle.mg_normal.proofs.Ends.{steps_below}
use Rattle.mg_normal.proofs.Necessary.{part_of-append}
use Rattle.mg_normal.proofs.prefix.+part_below.Goals as goal

pub returns-in-Some-above : goal.returns-in-Some-above
returns-in-Some-above g t c =
    let p = arc_value c.in-Some.prefix in
    let front = above_steps (out-Prefix p).above in
    let own = arc_value (out-Prefix p).path in
    let v = g.L.LentValue.value c.args.document in
    let whole = steps_below c.args.above.now c.in-Some.prefix own c.in-Some.is refl in
    let part = c.part_below.ensures ∙ ap (λ q. part_of (above_steps (out-Prefix q).above) v) c.deref-in-Some-above-3.ensures in
    let path = c.deref-in-Some-above-2.ensures ∙ ap (λ q. arc_value (out-Prefix q).path) c.deref-in-Some-above.ensures in
    c.get_in.ensures ∙ ap₂ (λ ys x. option_and_then (part_of ys) x) path part ∙ sym (part_of-append front own (Some v)) ∙ ap (λ ys. part_of ys v) (sym whole)
