use Rattle.std.proofs.Common.{◌≡◌}
use Rattle.mg_rows.proofs.Inside.{raised}
use Rattle.mg_rows.proofs.write.raise.Given as goal

abbrev pub invariant-loop-byte : goal.invariant-loop-byte
invariant-loop-byte l = l.bytes ≡ raised l.byte-index l.initial.bytes
