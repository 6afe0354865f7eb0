use Rattle.std.proofs.Common.{length, refl}
use Rattle.mg_shard.specs.Dealt.{histories_on}
use Rattle.mg_shard.specs.Edits.{id_in}
use Rattle.mg_shard.proofs.Dealing.{same_outcome}
use Rattle.mg_shard.proofs.laws.its_shard_decides_each_edit.Goals as goal

pub returns : goal.returns
returns c = λ place drafts hs e d is st.
    let i = place (id_in e) (length drafts) in
    (histories_on place (length drafts) i hs, st.each i d is, same_outcome place (length drafts) i hs e refl)
