use Rattle.std.proofs.Common.{◌≡◌, ◌+◌, ◌<◌, suc, length, set, get_or, ap, sym, ◌∙◌, arith, add-one}
use Rattle.mg_rows.proofs.Inside.{raised, raised_at, raised_more}
use Rattle.mg_rows.proofs.Low.{utf8_low}
use Rattle.mg_rows.proofs.write.raise.Goals as goal

pub loop-byte-preserved : goal.loop-byte-preserved
loop-byte-preserved c =
    let l = c.loop-byte in
    let s = c.args.bytes.now in
    let i = l.byte-index in
    let low : i < length s = omega arith in
    let now : get_or l.bytes i 0 ≡ get_or s i 0 = ap (λ xs. get_or xs i 0) l.invariant ∙ raised_at s i low in
    let byte : get_or l.bytes i 0 + 1 ≡ suc (get_or s i 0) = omega (arith, now) in
    ap (λ xs. set xs i (get_or l.bytes i 0 + 1)) l.invariant ∙ raised_more s i (get_or l.bytes i 0 + 1) low byte ∙ ap (λ n. raised n s) (sym (add-one i))

pub overflow_add-byte : goal.overflow_add-byte
overflow_add-byte c =
    let l = c.loop-byte in
    let s = c.args.bytes.now in
    let i = l.byte-index in
    let low : i < length s = omega arith in
    let now : get_or l.bytes i 0 ≡ get_or s i 0 = ap (λ xs. get_or xs i 0) l.invariant ∙ raised_at s i low in
    let small = utf8_low s i c.requires low in
    omega (arith, now, small)
