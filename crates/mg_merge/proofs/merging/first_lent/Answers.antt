use Rattle.std.proofs.Common.{All, ap, map, subst, sym, ◌∙◌}
use Rattle.mg_merge.specs.declared.source.Rest.{Rest}
use Rattle.mg_merge.specs.Merged.{IsInOrderBy, merged_by}
use Rattle.mg_merge.proofs.merging.first_lent.Goals as goal

pub merge_sources-requires : goal.merge_sources-requires
merge_sources-requires g c =
    subst (All (IsInOrderBy g.T.Ranked.row_of c.args.direction)) (sym (ap (map (λ (r : Rest _). r.items.now)) c.deref_mut.ensures.value ∙ c.in_ok-rests.ensures)) c.requires

pub returns : goal.returns
returns g c =
    c.in_ok-lent.ensures.items
    ∙ ap (merged_by g.T.Ranked.row_of c.args.direction c.args.take) (ap (map (λ (r : Rest _). r.items.now)) c.deref_mut.ensures.value ∙ c.in_ok-rests.ensures)
