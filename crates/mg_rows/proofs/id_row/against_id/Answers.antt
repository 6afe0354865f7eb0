use Rattle.std.proofs.Common.{◌≡◌, ◌<◌, ◌∷◌, length, drop, sym, ◌∙◌, arith, rules}
use Rattle.mg_rows.proofs.Bounds.{below_text}
use Rattle.mg_rows.proofs.Low.{utf8_low}
use Rattle.mg_rows.proofs.id_row.against_id.Goals as goal

pub overflow_add-byte : goal.overflow_add-byte
overflow_add-byte c =
    let low : c.loop-byte.byte-index < length c.as_bytes-byte-items.result.now = omega arith in
    let small = utf8_low c.as_bytes-byte-items.result.now c.loop-byte.byte-index c.as_bytes-byte-items.ensures.utf8 low in
    omega (arith, small)

pub returns-in_default : goal.returns-in_default
returns-in_default c =
    let l = c.loop-byte in
    let none : length l.left.now ≡ 0 = search (rules, arith) in
    let id = c.args.id.now in
    sym (l.invariant ∙ below_text l.left.now (drop l.byte-index id) (0 ∷ id) none)
