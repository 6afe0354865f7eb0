-- For private clauses: how a write changes what is published.
use Rattle.std.specs.Prelude.{◌≡◌, ◌++◌, ◌∷◌, [], ℕ, List, true, false, Option, Some, None}
use Rattle.mg_engine.specs.Commands.{Answer}
use Rattle.mg_engine.specs.Settled.{is_accepted}
use Rattle.mg_machine.specs.Laws.{IsPrefix}
use Rattle.mg_machine.specs.Machine.{Commit, after_write, write_reply}
use Rattle.mg_live.specs.View.{commits_view}
use Rattle.mg_live.specs.SeatView.{tally_after}
use Rattle.mg_live.specs.declared.commit_log.Prefix.{Prefix}

-- a write after the commits `cs` gets the answer `a`. If it is accepted, the last argument is the list of all commits with the write at its
-- end, otherwise `None`. If the reply is `NoMemory`, both the answer and the list are `None`
abbrev pub WriteLeaves : List ℕ → List Commit → Commit → Option Answer → Option (List Commit) → Type 0
WriteLeaves name cs write None None = Unit {0}
WriteLeaves name cs write None (Some new) = ⊥
WriteLeaves name cs write (Some a) None = (a ≡ write_reply name cs write.1) × (is_accepted a ≡ false)
WriteLeaves name cs write (Some a) (Some new) = (a ≡ write_reply name cs write.1) × (is_accepted a ≡ true) × (new ≡ cs ++ write ∷ [])

-- the published commits, what a seat has seen of them, and its tally
pub record Standing : Type 0 where
  pub published : List Commit
  pub seen : List Commit
  pub tally : ℕ

-- the standing of a seat that has seen this prefix and has this tally
abbrev pub standing : List Commit → Prefix → ℕ → Standing
standing cs prefix tally = record { published = cs; seen = commits_view prefix.seen.log; tally = tally }

-- a write is answered after the published commits, of which its seat had seen a prefix. An accepted write is published as the last commit,
-- and its seat's tally counts it. The seat has then seen all that is published
pub record IsWriteAnswered (name : List ℕ) (write : Commit) (old : Standing) (a : Answer) (new : Standing) : Type 0 where
  pub later : IsPrefix old.seen old.published
  pub answer : a ≡ write_reply name old.published write.1
  pub published : new.published ≡ after_write name old.published write.0 write.1
  pub seen : new.seen ≡ new.published
  pub tally : new.tally ≡ tally_after old.tally a

-- a write is answered; or the reply is `NoMemory`, and nothing has changed
abbrev pub Publishes : List ℕ → Commit → Standing → Option Answer → Standing → Type 0
Publishes name write old None new = new ≡ old
Publishes name write old (Some a) new = IsWriteAnswered name write old a new
