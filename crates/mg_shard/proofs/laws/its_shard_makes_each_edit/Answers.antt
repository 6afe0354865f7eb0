use Rattle.std.proofs.Common.{length, refl}
use Rattle.std.proofs.lemmas.Option.{slice_get_within}
use Rattle.mg_shard.specs.Dealt.{histories_on}
use Rattle.mg_shard.specs.Draft.{DraftStandsFor}
use Rattle.mg_shard.specs.Edits.{id_in}
use Rattle.mg_shard.proofs.Dealing.{edit_dealt}
use Rattle.mg_shard.proofs.laws.its_shard_makes_each_edit.Goals as goal

pub returns : goal.returns
returns c = λ place drafts hs e before after is did st.
    let i = place (id_in e) (length drafts) in
    edit_dealt DraftStandsFor place drafts hs e i after st refl (slice_get_within drafts i before is) (did (histories_on place (length drafts) i hs) (st.each i before is))
