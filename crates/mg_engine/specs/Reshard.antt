-- Resharding, a command of this project's own: how many shards a body asks for. A world has no shards.
use Rattle.std.specs.Prelude.{ℕ, pos, ◌&&◌, codes, Option, Some, None, if◌then◌else◌, nat_le}
use Rattle.mg_value.specs.Value.{Value, whole, member_of}

-- a value as a number of shards; `None` unless it is a whole number from 1 to 64
abbrev pub shard_number : Option Value → Option ℕ
shard_number (Some (whole (pos n))) = if nat_le 1 n && nat_le n 64 then Some n else None
shard_number v = None

-- the number of shards that a body asks for in its member `shards`; other members are ignored. `None` if there is no such number
abbrev pub shards_asked : Value → Option ℕ
shards_asked v = shard_number (member_of (codes "shards") v)
