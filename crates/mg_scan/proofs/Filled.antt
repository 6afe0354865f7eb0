-- The hits that a worker took of a shard's source are those that its search finds.
use Rattle.std.proofs.Common.{◌≡◌, ◌≤◌, List, [], ◌++◌, length, take, append-nil, ap, sym, ◌∙◌, arith}
use Rattle.std.proofs.lemmas.List.{length-map, take_all, take_at}
use Rattle.mg_collate.specs.Row.{RowValue}
use Rattle.mg_scan.specs.Hit.{hit_row, hit_rows}
use Rattle.mg_scan.specs.Search.{found_by}
use Rattle.mg_scan.specs.Way.{all_found_by}
use Rattle.mg_scan.specs.declared.hit.Hit.{Hit}
use Rattle.mg_scan.specs.declared.search.Search.{Search}
use Rattle.mg_scan.proofs.Sources.{found_first}
use Rattle.mg_shard.specs.Shard.{ShardView}

module _ (s : Search) (shard : ShardView) (hits : List Hit) (rest : List RowValue) (all : all_found_by s shard ≡ hit_rows hits ++ rest) where
  -- nothing is left
  pub finished : rest ≡ [] → length hits ≤ s.take → hit_rows hits ≡ found_by s shard
  finished none few =
      sym (found_first s shard ∙ ap (take s.take) (all ∙ ap (λ rows. hit_rows hits ++ rows) none ∙ append-nil (hit_rows hits)) ∙ take_all s.take (hit_rows hits) (omega (arith, few, length-map hits hit_row)))

  -- there are as many as the search finds at most
  pub filled : length hits ≡ s.take → hit_rows hits ≡ found_by s shard
  filled enough = sym (found_first s shard ∙ ap (take s.take) all ∙ take_at (hit_rows hits) rest s.take (length-map hits hit_row ∙ enough))
