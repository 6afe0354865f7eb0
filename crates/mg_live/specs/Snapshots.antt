-- For public clauses: a snapshot shows a database as some of its commits leave it.
use Rattle.std.specs.Prelude.{◌≡◌, ℕ, List, length}
use Rattle.std.specs.Arc.{arc_value}
use Rattle.logbook.specs.Pages.{Book}
use Rattle.mg_engine.specs.Stands.{StateView, Stands}
use Rattle.mg_machine.specs.Machine.{Commit, shards_of, world_of}
use Rattle.mg_machine.specs.Points.{IsAfter, HasShardsAfter}
use Rattle.mg_live.specs.View.{commits_view}
use Rattle.mg_live.specs.declared.snapshot.Snapshot.{Snapshot}

-- the commits after which a snapshot was taken
abbrev pub commits_of : {P : Type 0} → Snapshot P → List Commit
commits_of s = commits_view s.prefix.seen.log

-- what a snapshot's engine holds
abbrev pub state_of : {P : Type 0} → Snapshot P → StateView
state_of s = (arc_value s.point.engine).1

-- a snapshot of the database with this commit log and name, whose documents are placed by `place` and which was opened with `opened`
-- shards: the snapshot's point comes after its commits
pub record IsSnapshotOf {P : Type 0} (place : P → List ℕ → ℕ → ℕ) (log : Book) (name : List ℕ) (opened : ℕ) (s : Snapshot P) : Type 0 where
  pub book : s.prefix.seen.book ≡ log
  pub after : IsAfter place name s.point (commits_of s)
  pub dealt : HasShardsAfter opened s.point (commits_of s)

-- a snapshot, after these commits, of a database of this name, whose documents are placed by `place` and which was opened with `opened`
-- shards: it stands for the world that the commits leave, with the number of shards that they leave, and it has their number
pub record StandsAfter {P : Type 0} (place : P → List ℕ → ℕ → ℕ) (name : List ℕ) (opened : ℕ) (s : Snapshot P) (cs : List Commit) : Type 0 where
  pub commits : commits_of s ≡ cs
  pub stands : Stands place (arc_value s.point.engine) (world_of name cs)
  pub shards : length (state_of s).shards ≡ shards_of opened cs
  pub number : s.point.commits ≡ length cs

-- there is a snapshot right after these commits
abbrev pub HasSnapshot : {P : Type 0} → (P → List ℕ → ℕ → ℕ) → List ℕ → ℕ → List Commit → Type 0
HasSnapshot place name opened cs = (s : Snapshot _) × StandsAfter place name opened s cs
