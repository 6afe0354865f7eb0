-- For private clauses: the machine that the code's seats stand for.
use Rattle.std.specs.Prelude.{ℕ, List, [], ◌∷◌}
use Rattle.mg_shard.specs.Placement.{md5_place}
use Rattle.mg_shard.specs.declared.placement.Md5Placement.{Md5Placement}
use Rattle.mg_machine.specs.Machine.{Commit, Machine}
use Rattle.mg_machine.specs.Points.{IsAfter}
use Rattle.mg_machine.specs.declared.point.Point.{Point}
use Rattle.mg_machine.specs.declared.seats.Seats.{Seats}

-- the placement of the code's seats: by MD5
abbrev pub by_md5 : Md5Placement → List ℕ → ℕ → ℕ
by_md5 p id shards = md5_place id shards

-- each point comes after the list of commits at its position, and there is one point for each list
abbrev pub AreAfter : List ℕ → List (Point Md5Placement) → List (List Commit) → Type 0
AreAfter name [] [] = Unit {0}
AreAfter name [] (cs ∷ css) = ⊥
AreAfter name (p ∷ ps) [] = ⊥
AreAfter name (p ∷ ps) (cs ∷ css) = IsAfter by_md5 name p cs × AreAfter name ps css

-- seats stand for a machine: the latest point comes after all commits, and the point of each seat after the commits that the seat has seen
pub record SeatsStandFor (name : List ℕ) (s : Seats) (m : Machine) : Type 0 where
  pub latest : IsAfter by_md5 name s.latest m.commits
  pub each : AreAfter name s.each.items m.seen
