use Rattle.std.proofs.Common.{◌∙◌, Some, ap, sym}
use Rattle.std.specs.Option.{option_map}
use Rattle.std.specs.String.{string_bytes}
use Rattle.mg_shard.specs.Shard.{shards_view}
use Rattle.mg_engine.specs.Listing.{count_before}
use Rattle.mg_engine.proofs.Ranging.{before_all}
use Rattle.mg_engine.proofs.range.count_before.Goals as goal

pub returns-in_ok-count-in-Some : goal.returns-in_ok-count-in-Some
returns-in_ok-count-in-Some c = λ place hs stands.
    let direction = c.args.direction in
    c.in_ok-count-in-Some.ensures ∙ before_all place direction c.deref.result.now (shards_view c.args.shards.now) hs stands
    ∙ ap (λ s. count_before direction (Some s) hs) c.deref.ensures
    ∙ ap (λ o. count_before direction (option_map string_bytes o) hs) (sym c.in-Some.is)
