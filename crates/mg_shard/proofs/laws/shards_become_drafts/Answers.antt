use Rattle.mg_shard.specs.Dealt.{ShardStandsFor}
use Rattle.mg_shard.specs.Draft.{DraftStandsFor}
use Rattle.mg_shard.proofs.Dealing.{all_dealt}
use Rattle.mg_shard.proofs.laws.shards_become_drafts.Goals as goal

pub returns : goal.returns
returns c = λ place shards drafts hs long each st. all_dealt ShardStandsFor DraftStandsFor place shards drafts hs long each st
