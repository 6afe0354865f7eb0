use Rattle.std.proofs.Common.{◌≡◌, ◌∙◌, ℕ, List, Option, Some, ap, ap₂, map, string_bytes, sym}
use Rattle.std.proofs.lemmas.Simd.{map-map}
use Rattle.std.specs.FinMap as finite
use Rattle.mg_value.specs.View.{view}
use Rattle.mg_shard.specs.Shard.{shards_view}
use Rattle.mg_engine.specs.Bodies.{line_of}
use Rattle.mg_engine.specs.Commands.{Answer}
use Rattle.mg_engine.specs.Counted.{docs_counted}
use Rattle.mg_engine.specs.Questions.{doc_count, row_of_key, rows_value}
use Rattle.mg_engine.specs.Stands.{StateView}
use Rattle.mg_engine.proofs.Counting.{docs_all}
use Rattle.mg_engine.proofs.state.State.list_keys.Goals as goal

pub returns : goal.returns
returns g c = λ w h.
    let place = g.P.Placement.place c.args.placement.now in
    let documents = c.args.documents in
    let ids = c.args.ids.now in
    let shards = c.args.self.now.shards in
    let first : shards_view c.deref.result.now ≡ shards = ap shards_view c.deref.ensures.value ∙ ap (λ (s : StateView). s.shards) c.self.view_is in
    let total : c.in_ok-total.total ≡ doc_count w.docs = c.in_ok-total.ensures ∙ ap docs_counted first ∙ docs_all place shards w.docs h.documents in
    let rows : map view c.in_ok-rows.rows.items ≡ map (λ id. row_of_key documents id (finite.get w.docs id)) (map string_bytes ids) =
    c.in_ok-rows.ensures w h ∙ sym (map-map (λ id. row_of_key documents id (finite.get w.docs id)) string_bytes ids) in
    ap (λ (b : List ℕ). (let o : Option Answer = Some (record { status = 200; body = b }) in o))
    (c.in_ok-body.ensures ∙ ap line_of (c.in_ok-listed.ensures ∙ ap₂ (rows_value 0) total rows))
