use Rattle.mg_shard.proofs.calls.redeal.Goals as goal

pub returns : goal.returns
returns g c =
    c.in_ok-dealt.ensures.dealt c.in_ok-made.made.items c.in_ok-made.ensures.number
    (rw (c.deref.ensures.value, c.deref-2.ensures.value, c.deref-3.ensures.value) at c.in_ok-made.ensures.made)
