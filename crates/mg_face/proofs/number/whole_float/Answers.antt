-- The whole part is an i64, so it is the one that the lemmas speak of.
use Rattle.std.proofs.Common.{◌≡◌, Some, unsigned_abs, to_z, of_z, w64, to_z-of_z, sym, ap, ◌∙◌, arith}
use Rattle.std.specs.Float.{Float, binary64}
use Rattle.std.specs.Float.Ieee
use Rattle.mg_face.proofs.NumberLemmas.{is_whole, is_broken, is_past}
use Rattle.mg_face.proofs.number.whole_float.Goals as goal
use Rattle.mg_face.proofs.number.whole_float.Goals.{else-unsigned_abs-le-GREATEST-via-then-unsigned_abs-le-GREATEST+else-nearest_i64_to_f64-x, else-unsigned_abs-le-GREATEST-via-else-unsigned_abs-le-GREATEST}

pub returns-then-nearest_i64_to_f64-x : goal.returns-then-nearest_i64_to_f64-x
returns-then-nearest_i64_to_f64-x c =
    let x = c.args.x in
    let call = c.saturating_f64_to_i64-whole in
    let z : to_z w64 (of_z w64 call.result) ≡ Ieee.to_signed 63 x = to_z-of_z {w = w64} (record { sfits = call.type_inv }) ∙ call.ensures in
    let size : c.unsigned_abs.result ≡ unsigned_abs (Ieee.to_signed 63 x) = c.unsigned_abs.ensures.value ∙ ap unsigned_abs z in
    let float : c.nearest_i64_to_f64.result ≡ Ieee.of_int binary64 (Ieee.to_signed 63 x) = c.nearest_i64_to_f64.ensures ∙ ap (Ieee.of_int binary64) z in
    ap Some z ∙ sym (is_whole x (omega arith) (ap (λ (y : Float). Ieee.eq y x) (sym float) ∙ c.if-nearest_i64_to_f64-x.true))

pub returns-else-unsigned_abs-le-GREATEST : goal.returns-else-unsigned_abs-le-GREATEST
returns-else-unsigned_abs-le-GREATEST c =
    let x = c.args.x in
    let call = c.saturating_f64_to_i64-whole in
    let z : to_z w64 (of_z w64 call.result) ≡ Ieee.to_signed 63 x = to_z-of_z {w = w64} (record { sfits = call.type_inv }) ∙ call.ensures in
    let size : c.unsigned_abs.result ≡ unsigned_abs (Ieee.to_signed 63 x) = c.unsigned_abs.ensures.value ∙ ap unsigned_abs z in
    elim c.else-unsigned_abs-le-GREATEST.branch [
      | else-unsigned_abs-le-GREATEST-via-then-unsigned_abs-le-GREATEST+else-nearest_i64_to_f64-x w ↦
          let float : w.nearest_i64_to_f64.result ≡ Ieee.of_int binary64 (Ieee.to_signed 63 x) = w.nearest_i64_to_f64.ensures ∙ ap (Ieee.of_int binary64) z in
          sym (is_broken x (omega arith) (ap (λ (y : Float). Ieee.eq y x) (sym float) ∙ w.if-nearest_i64_to_f64-x.false))
      | else-unsigned_abs-le-GREATEST-via-else-unsigned_abs-le-GREATEST w ↦ sym (is_past x (omega arith))
    ]
