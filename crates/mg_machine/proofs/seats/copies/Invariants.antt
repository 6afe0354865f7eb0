use Rattle.std.proofs.Common.{◌≡◌, ℕ, List, All, vec_len}
use Rattle.mg_machine.specs.Machine.{Commit}
use Rattle.mg_machine.specs.Seats.{by_md5}
use Rattle.mg_machine.specs.Points.{IsAfter}
use Rattle.mg_machine.proofs.seats.copies.Given as goal

-- one copy for each turn so far, and each is at the point
abbrev pub invariant-loop : goal.invariant-loop
invariant-loop l =
    record {
      after : (name : List ℕ) (cs : List Commit) → IsAfter by_md5 name l.point cs → All (λ p. IsAfter by_md5 name p cs) l.copies.items;
      number : vec_len l.copies ≡ l.counter;
    }
