use Rattle.std.proofs.Common.{◌≡◌, drop}
use Rattle.mg_packed.specs.Tables.{is_plain}
use Rattle.mg_packed.proofs.build.is_plain.Given as goal

-- the bytes so far need no escape
abbrev pub invariant-loop-byte : goal.invariant-loop-byte
invariant-loop-byte l = is_plain l.bytes ≡ is_plain (drop l.byte-index l.bytes)
