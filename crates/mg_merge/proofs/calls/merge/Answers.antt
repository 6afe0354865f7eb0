use Rattle.std.proofs.Common.{ap, ◌∙◌}
use Rattle.mg_collate.specs.Row.{row_view, rows_view}
use Rattle.mg_merge.specs.Merged.{contents_of, lent_view, merged}
use Rattle.mg_merge.proofs.Rows.{all_by_rows, rows_of_merged, views}
use Rattle.mg_merge.proofs.calls.merge.Goals as goal

pub first_lent-requires : goal.first_lent-requires
first_lent-requires c = all_by_rows c.args.direction c.args.lists.now c.requires

pub returns-clause-rows : goal.returns-clause-rows
returns-clause-rows c =
    c.in_ok-rows.ensures ∙ ap (λ l. rows_view (lent_view l)) c.deref.ensures.value ∙ ap rows_view c.in_ok-lent.ensures
    ∙ rows_of_merged row_view c.args.direction c.args.take (contents_of c.args.lists.now) ∙ ap (merged c.args.direction c.args.take) (views c.args.lists.now)
