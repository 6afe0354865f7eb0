use Rattle.mg_shard.specs.Dealt.{ShardStandsFor}
use Rattle.mg_shard.specs.Draft.{DraftStandsFor}
use Rattle.mg_shard.proofs.Dealing.{all_dealt}
use Rattle.mg_shard.proofs.laws.drafts_become_shards.Goals as goal

pub returns : goal.returns
returns c = λ place drafts shards hs long each st. all_dealt DraftStandsFor ShardStandsFor place drafts shards hs long each st
