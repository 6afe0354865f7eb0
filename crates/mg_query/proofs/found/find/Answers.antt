use Rattle.std.proofs.Common.{ap, ◌∙◌}
use Rattle.std.specs.Arc.{arc_value}
use Rattle.std.proofs.lemmas.List.{length-map}
use Rattle.mg_normal.specs.Atoms.{atoms_of}
use Rattle.mg_shard.specs.Shard.{shards_view}
use Rattle.mg_query.specs.Page.{source_columns}
use Rattle.mg_query.specs.Paged.{counts_handed}
use Rattle.mg_query.specs.Read.{is_decided}
use Rattle.mg_query.specs.View.{query_view}
use Rattle.mg_query.specs.Served.{source_view}
use Rattle.mg_query.proofs.Counts.{as_many, listed_counts, read_same}
use Rattle.mg_query.proofs.Handed.{rows_merged}
use Rattle.mg_query.proofs.Indexed.{listed_in_each}
use Rattle.mg_query.proofs.Lent.{lend_first}
use Rattle.mg_query.proofs.Serving.{choice_served}
use Rattle.mg_query.proofs.Usable.{choice_usable}
use Rattle.mg_query.proofs.found.find.Goals as goal

pub page_hits-requires-after_bounds : goal.page_hits-requires-after_bounds
page_hits-requires-after_bounds g c = λ κs within. record {
  plan = c.in_ok-plan.ensures.plan;
  range = c.in_ok-range.ensures;
  listed = listed_in_each c.args.catalog.now (source_view c.in_ok-plan.plan.source) (shards_view c.args.shards.now) c.in_ok-plan.ensures.listed c.definitions_are_catalogs.ensures c.requires.indexes;
}

pub returns-clause-hits : goal.returns-clause-hits
returns-clause-hits g c = λ place hs stands whole.
    let q = query_view c.args.query.now in
    let ds = c.args.catalog.now in
    let plan = c.in_ok-plan.plan in
    let s = source_view plan.source in
    let columns = source_columns s in
    let shards = shards_view c.args.shards.now in
    let page = c.in_ok-page.page in
    let first = c.in_ok-page.ensures.hits in
    let usable = choice_usable ds (atoms_of q.selector) q.sort q.hint s (choice_served ds q s c.in_ok-plan.ensures.answers) in
    lend_first columns q place hs shards page.skip page.hits.items stands first.hits
    (first.rows ∙ rows_merged q columns plan.normal.now c.in_ok-plan.ensures.plan.normal c.ranges_are_complete.ensures usable place shards hs stands whole)

pub returns-clause-read : goal.returns-clause-read
returns-clause-read g c = λ place hs stands whole.
    let q = query_view c.args.query.now in
    let ds = c.args.catalog.now in
    let plan = c.in_ok-plan.plan in
    let s = source_view plan.source in
    let columns = source_columns s in
    let shards = shards_view c.args.shards.now in
    let page = c.in_ok-page.page in
    let is = c.in_ok-plan.ensures.plan in
    let usable = choice_usable ds (atoms_of q.selector) q.sort q.hint s (choice_served ds q s c.in_ok-plan.ensures.answers) in
    read_same _ _ _ _ _ _ page.reads
    (is.decided ∙ ap (is_decided columns) c.in_ok-plan.ensures.normal)
    (as_many columns page.skip page.hits.items _ (c.in_ok-page.ensures.hits.rows ∙ rows_merged q columns plan.normal.now is.normal c.ranges_are_complete.ensures usable place shards hs stands whole))
    (listed_counts c.ranges_are_complete.ensures q columns plan.normal.now is.normal usable place shards hs stands whole
    ∙ ap (λ n. counts_handed columns q place n hs) (length-map c.args.shards.now arc_value))
    c.in_ok-page.ensures.read
