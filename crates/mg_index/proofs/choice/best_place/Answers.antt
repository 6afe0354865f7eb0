use Rattle.std.proofs.Common.{◌+◌, drop, None, sym, ap, ◌∙◌, subst, arith}
use Rattle.mg_normal.specs.View.{atoms_view}
use Rattle.mg_index.specs.Bound.{bounded_count}
use Rattle.mg_index.specs.Candidates.{DescribesBest, least_with}
use Rattle.mg_index.specs.Choice.{is_usable, least, preference, usable_of}
use Rattle.mg_index.specs.View.{hint_of}
use Rattle.mg_index.proofs.Best.{goes_on, goes_past, ends, read_at}
use Rattle.mg_index.proofs.choice.best_place.Goals as goal
use Rattle.mg_index.proofs.choice.best_place.Goals.{then-is_usable, else-is_usable}

pub loop-place-preserved : goal.loop-place-preserved
loop-place-preserved c =
    let atoms = atoms_view c.args.atoms.now in
    let hint = hint_of c.args.hint.now in
    let ds = c.args.definitions.now in
    let d = c.index-definitions-place.result in
    let place = c.loop-place.place in
    let here = read_at ds place d (omega arith) c.index-definitions-place.is in
    let rest = least (preference atoms hint) (usable_of atoms c.args.sort.now (drop (place + 1) ds)) in
    let usable = ap (is_usable atoms c.args.sort.now) (sym c.columns-columns.ensures) ∙ sym c.is_usable.ensures in
    elim c.if-is_usable.branch [
      | then-is_usable w ↦
          let hinted = w.names.ensures in
          let bounded = w.bounded_count.ensures.count ∙ ap (bounded_count atoms) c.columns-columns.ensures in
          let kept = w.better.ensures.described atoms hint ds c.loop-place.invariant.0 (record { ranked = record { hinted = hinted; bounded = bounded }; at = here }) in
          let chosen = w.better.ensures.least atoms hint ds c.loop-place.invariant.0 (record { ranked = record { hinted = hinted; bounded = bounded }; at = here }) in (
            subst (DescribesBest atoms hint ds) (sym w.best-is) kept,
            goes_on atoms hint c.args.sort.now ds place d c.loop-place.best w.better.result _ (omega arith) c.index-definitions-place.is (usable ∙ w.if-is_usable.true) chosen c.loop-place.invariant.1
                ∙ ap (λ b. least_with atoms hint b rest) (sym w.best-is),
          )
      | else-is_usable w ↦ (
        subst (DescribesBest atoms hint ds) (sym w.best-is) c.loop-place.invariant.0,
        goes_past atoms hint c.args.sort.now ds place d c.loop-place.best _ (omega arith) c.index-definitions-place.is (usable ∙ w.if-is_usable.false) c.loop-place.invariant.1
            ∙ ap (λ b. least_with atoms hint b rest) (sym w.best-is),
      )
    ]

pub returns-in-Some : goal.returns-in-Some
returns-in-Some c =
    let atoms = atoms_view c.args.atoms.now in
    let hint = hint_of c.args.hint.now in
    let ds = c.args.definitions.now in
    let kept = subst (DescribesBest atoms hint ds) c.in-Some.is c.loop-place.invariant.0 in (
      c.in-Some.candidate.definition.now,
      kept.at,
      ends atoms hint c.args.sort.now ds c.loop-place.place c.loop-place.best _ (omega arith) c.loop-place.invariant.1 ∙ ap (λ b. least_with atoms hint b None) c.in-Some.is,
    )
