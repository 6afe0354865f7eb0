use Rattle.std.proofs.Common.{◌+◌, List, All, Vec, Global, length, map, ap, sym, subst, ◌∙◌}
use Rattle.std.specs.Arc.{arc_value}
use Rattle.std.proofs.lemmas.List.{length-map}
use Rattle.mg_merge.specs.Merged.{IsInOrderBy, contents_of}
use Rattle.mg_shard.specs.Shard.{shards_view}
use Rattle.mg_scan.specs.Hit.{AreHitsIn, hit_row}
use Rattle.mg_scan.specs.declared.hit.Hit.{Hit}
use Rattle.mg_query.specs.Plan.{rows_asked_of}
use Rattle.mg_query.specs.Page.{source_columns}
use Rattle.mg_query.specs.Paged.{IsWorkWithin}
use Rattle.mg_query.specs.View.{query_view}
use Rattle.mg_query.specs.Served.{source_view}
use Rattle.mg_query.proofs.Counts.{sizes}
use Rattle.mg_query.proofs.Handed.{handed_in_order, handed_within, merged_rows, merged_same}
use Rattle.mg_query.proofs.Lent.{merged_in}
use Rattle.mg_query.proofs.page_search.PageSearch.merge_first.Goals as goal

pub merge_items-requires : goal.merge_items-requires
merge_items-requires g c =
    let q = query_view c.args.self.now.query.now in
    let plan = c.args.self.now.plan.now in
    let columns = source_columns (source_view plan.source) in
    subst (λ (lists : List (Vec Hit Global)). All (IsInOrderBy hit_row q.direction) (contents_of lists)) (sym c.deref.ensures.value)
    (handed_in_order q columns plan.normal.now c.requires.plan.normal c.in_ok-lists.lists.items (shards_view c.args.self.now.shards.now) c.in_ok-lists.ensures.rows)

pub returns-clause-hits : goal.returns-clause-hits
returns-clause-hits g c =
    let q = query_view c.args.self.now.query.now in
    let plan = c.args.self.now.plan.now in
    let shards = shards_view c.args.self.now.shards.now in
    let lists = c.in_ok-lists.lists.items in
    let hits = c.in_ok-hits.hits.items in
    let merge = merged_same q.direction hits c.row_count.result (q.skip + q.limit) c.deref.result.now lists c.in_ok-hits.ensures.items c.row_count.ensures c.deref.ensures.value in
    record {
      rows = merged_rows q.direction (q.skip + q.limit) hits lists (map (rows_asked_of q plan) shards) merge c.in_ok-lists.ensures.rows;
      hits = subst (AreHitsIn shards) (sym merge) (merged_in shards lists q.direction (q.skip + q.limit) c.in_ok-lists.ensures.hits);
    }

pub returns-clause-work : goal.returns-clause-work
returns-clause-work g c =
    let q = query_view c.args.self.now.query.now in
    let plan = c.args.self.now.plan.now in
    let columns = source_columns (source_view plan.source) in
    let lists = c.in_ok-lists.lists.items in
    let merge = merged_same q.direction c.in_ok-hits.hits.items c.row_count.result (q.skip + q.limit) c.deref.result.now lists c.in_ok-hits.ensures.items c.row_count.ensures c.deref.ensures.value in
    subst (λ n. IsWorkWithin n (q.skip + q.limit) c.in_ok-hits.work) (length-map c.args.self.now.shards.now arc_value)
    (handed_within q columns plan.normal.now c.requires.plan.normal lists (shards_view c.args.self.now.shards.now) c.in_ok-lists.ensures.rows c.in_ok-hits.hits.items merge c.in_ok-hits.work
    (c.in_ok-hits.ensures.handed ∙ ap (map (λ (l : Vec Hit Global). length l.items)) c.deref.ensures.value) c.in_ok-hits.ensures.taken)

pub returns-clause-handed : goal.returns-clause-handed
returns-clause-handed g c =
    let q = query_view c.args.self.now.query.now in
    let plan = c.args.self.now.plan.now in
    c.in_ok-hits.ensures.handed ∙ ap (map (λ (l : Vec Hit Global). length l.items)) c.deref.ensures.value
    ∙ sizes (rows_asked_of q plan) c.in_ok-lists.lists.items (shards_view c.args.self.now.shards.now) c.in_ok-lists.ensures.rows
