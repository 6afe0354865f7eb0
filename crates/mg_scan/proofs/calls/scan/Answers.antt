use Rattle.std.proofs.Common.{List, Vec, Global, map, ap, option_map, ◌∙◌}
use Rattle.mg_collate.specs.Row.{RowValue, row_view}
use Rattle.mg_shard.specs.Shard.{ShardView, shards_view}
use Rattle.mg_scan.specs.Found.{input_of_parts}
use Rattle.mg_scan.specs.Hit.{hit_rows}
use Rattle.mg_scan.specs.declared.hit.Hit.{Hit}
use Rattle.mg_scan.proofs.Made.{same_found, same_named}
use Rattle.mg_scan.proofs.calls.scan.Goals as goal

pub returns : goal.returns
returns g c =
    let a = c.args in
    c.in_ok-lists.ensures
    ∙ ap (map (λ (hits : Vec Hit Global). hit_rows hits.items)) c.deref.ensures.value
    ∙ c.in_ok-found.ensures.rows
    ∙ ap (λ (f : ShardView → List RowValue). map f (shards_view a.shards.now))
    (same_found c.lend.result a.normal.now c.in_ok-row_range.row_range a.range.now (option_map (λ r. r.now) c.as_ref.result) (option_map (λ r. row_view r.now) a.after) a.take a.direction
    c.in_ok-row_range.ensures (c.as_ref.ensures.value ∙ c.in_ok-after_row.ensures))
    ∙ same_named c.lend.result a.target.now (input_of_parts a.normal.now a.range.now (option_map (λ r. row_view r.now) a.after) a.take a.direction) c.lend.ensures (shards_view a.shards.now)
