use Rattle.std.proofs.Common.{ap, subst, sym, ◌∙◌}
use Rattle.mg_normal.specs.View.{atoms_view}
use Rattle.mg_range.proofs.Contained.{contained}
use Rattle.mg_range.proofs.SpanEnds.{range_uncrossed}
use Rattle.mg_range.specs.SpanEnds.{IsUncrossed}
use Rattle.mg_range.specs.RangeSide.{has_key}
use Rattle.mg_range.specs.Range.{Range, range_of}
use Rattle.mg_range.proofs.range.KeyRange.of.Goals as goal

pub returns-clause-keys : goal.returns-clause-keys
returns-clause-keys c =
    λ key h. ap (λ r. has_key r key) (c.in_ok-span_of.ensures ∙ ap (λ atoms. range_of atoms c.args.columns.now) c.atoms.ensures) ∙ contained _ c.args.columns.now key h

pub invariant_of-result : goal.invariant_of-result
invariant_of-result c =
    subst (λ (r : Range). IsUncrossed r) (sym c.in_ok-span_of.ensures) (range_uncrossed (atoms_view c.atoms.result.now) c.args.columns.now)
