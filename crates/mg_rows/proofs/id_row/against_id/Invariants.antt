use Rattle.std.proofs.Common.{◌≡◌, ◌∷◌, drop}
use Rattle.mg_rows.specs.Bytes.{bytes_order, text_before}
use Rattle.mg_rows.proofs.id_row.against_id.Given as goal

-- the bytes left decide the order
abbrev pub invariant-loop-byte : goal.invariant-loop-byte
invariant-loop-byte l = bytes_order l.bytes (text_before l.id (0 ∷ l.id)) ≡ bytes_order l.left (text_before (drop l.byte-index l.id) (0 ∷ l.id))
