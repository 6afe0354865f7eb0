-- Where documents are kept: the shard of an id, by its MD5 digest (RFC 1321).
use Rattle.std.specs.Prelude.{ℕ, ◌%◌, List, take}
use Rattle.std.specs.Int.{w64, from_be_bytes}
use Rattle.md5.specs.Md5.{md5}

-- the first eight bytes of the id's MD5 digest (RFC 1321), as a big-endian number, modulo the number of shards
abbrev pub md5_place : List ℕ → ℕ → ℕ
md5_place id shards = from_be_bytes w64 (take 8 (md5 id)) % shards
