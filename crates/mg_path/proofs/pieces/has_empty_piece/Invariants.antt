use Rattle.std.proofs.Common.{◌≡◌, drop}
use Rattle.std.specs.List.{list_any}
use Rattle.mg_path.specs.Part.{pieces_of, is_empty}
use Rattle.mg_path.proofs.Cutting.{empty_from}
use Rattle.mg_path.proofs.pieces.has_empty_piece.Given as goal

-- the piece begun and the bytes left decide
abbrev pub invariant-loop-byte : goal.invariant-loop-byte
invariant-loop-byte l = list_any is_empty (pieces_of l.text) ≡ empty_from l.is_empty l.escaped (drop l.byte-index l.bytes)
