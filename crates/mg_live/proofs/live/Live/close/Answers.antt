use Rattle.std.proofs.Common.{◌∙◌}
use Rattle.mg_machine.proofs.Beginnings.{in_turn}
use Rattle.mg_live.proofs.live.Live.close.Goals as goal

pub returns-clause-closed : goal.returns-clause-closed
returns-clause-closed g c =
    let begins = rw c.as_slice-3.ensures.value at c.longest-seen.ensures.begins in (
      c.deref_mut.result.now,
      record {
        begin = λ k d less. in_turn _ _ _ (begins k d less) c.count_commits-commits.ensures.begins;
        number = c.count_commits-commits.ensures.commits.0;
        sum = c.count_commits-commits.ensures.commits.1 ∙ c.join_all-all.ensures.amount;
      },
    )
