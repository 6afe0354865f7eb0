use Rattle.std.proofs.Common.{◌≡◌, Bool, false, None, refl, rules}
use Rattle.mg_selector.specs.Meaning.{operator_holds}
use Rattle.mg_selector.specs.View.{operator_of}
use Rattle.mg_selector.specs.declared.operator.Op.{Op, Exists, the_lemmas}
use Rattle.mg_selector.specs.declared.operator.Op.TheVariants.{outs-ElemMatch', outs-AllMatch'}
use Rattle.mg_selector.specs.declared.sense.Sense.{Sense}
use Rattle.mg_selector.proofs.meaning.holds_on_missing.Goals as goal

holds_on_missing-other : (op : Op) (sense : Sense) → ((there : Bool) → op ≡ Exists there → ⊥) → false ≡ operator_holds (operator_of op) sense None
holds_on_missing-other (Exists there) sense other = absurd (other there refl)
holds_on_missing-other op sense other = search (rules, the_lemmas, outs-ElemMatch', outs-AllMatch')

pub returns-in_default : goal.returns-in_default
returns-in_default c = holds_on_missing-other c.args.op.now c.args.sense c.in_default.not-Exists
