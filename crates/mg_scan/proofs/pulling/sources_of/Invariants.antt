use Rattle.std.proofs.Common.{option_map, take}
use Rattle.std.specs.List.{AllZip}
use Rattle.mg_shard.specs.Shard.{shards_view}
use Rattle.mg_scan.specs.Sourced.{IsSourceOf, asked}
use Rattle.mg_scan.proofs.pulling.sources_of.Given as goal

abbrev pub invariant-loop-i : goal.invariant-loop-i
invariant-loop-i l = AllZip (IsSourceOf l.search (asked (option_map (λ n. n.now) l.selector))) (take l.i (shards_view l.shards)) l.sources.items
