-- For public clauses: which commits come before a point of a database's commit log.
use Rattle.std.specs.Prelude.{◌≡◌, ℕ, List, length}
use Rattle.std.specs.Arc.{arc_value}
use Rattle.mg_engine.specs.Stands.{Stands, shard_count}
use Rattle.mg_machine.specs.Machine.{Commit, shards_of, world_of}
use Rattle.mg_machine.specs.declared.point.Point.{Point}

-- a point of the database `name`, whose documents are placed by `place`, comes after these commits: its engine stands for the world that
-- the commits leave, and the point has their number
pub record IsAfter {P : Type 0} (place : P → List ℕ → ℕ → ℕ) (name : List ℕ) (p : Point P) (cs : List Commit) : Type 0 where
  pub engine : Stands place (arc_value p.engine) (world_of name cs)
  pub commits : p.commits ≡ length cs

-- a point after commits has as many shards as the last reshard asked for, or `first`, as the database was opened with, if there was no
-- reshard
abbrev pub HasShardsAfter : {P : Type 0} → ℕ → Point P → List Commit → Type 0
HasShardsAfter first p cs = shard_count (arc_value p.engine) ≡ shards_of first cs
