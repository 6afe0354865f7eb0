use Rattle.std.proofs.Common.{◌≡◌, ◌<◌, ◌^◌, ℤ, pos, negsuc, FitsSigned, w64, is_ok, sym, ap, ◌∙◌, subst, arith}
use Rattle.std.proofs.lemmas.Fmt.{IsAscii-signed, parse-signed_decimal}
use Rattle.std.proofs.lemmas.Int.{to_z-of_z}
use Rattle.std.proofs.lemmas.Str.{IsUtf8-from_ascii}
use Rattle.std.specs.Fmt.{signed_decimal}
use Rattle.std.specs.Str.{IsUtf8}
use lib.Signed.{mag}
use mir.Val.{SFits}
use Rattle.mg_packed.proofs.read.whole.Goals as goal

small : (z : ℤ) → FitsSigned w64 z → mag z < 2 ^ 63
small (pos n) h = grind arith
small (negsuc n) h = grind arith

pub from_utf8_unchecked-text-requires : goal.from_utf8_unchecked-text-requires
from_utf8_unchecked-text-requires c =
    let z = c.requires.0 in
    let ascii = IsAscii-signed z (small z c.requires.1) in
    subst IsUtf8 (sym c.requires.2) (IsUtf8-from_ascii (signed_decimal z) ascii)

pub unwrap-requires : goal.unwrap-requires
unwrap-requires c =
    let z = c.requires.0 in
    ap is_ok (parse-signed_decimal w64 z _ c.parse.result c.requires.1 (small z c.requires.1) (c.from_utf8_unchecked-text.ensures ∙ c.requires.2) c.parse.ensures.value.0)

pub returns : goal.returns
returns c =
    let z = c.requires.0 in
    let read = sym c.unwrap.ensures ∙ parse-signed_decimal w64 z _ c.parse.result c.requires.1 (small z c.requires.1) (c.from_utf8_unchecked-text.ensures ∙ c.requires.2) c.parse.ensures.value.0 in
    let fits : SFits w64 c.unwrap.result = omega (arith, c.unwrap.type_inv) in
    let same : c.unwrap.result ≡ z = grind (arith, read) in
    c.requires.2 ∙ ap signed_decimal (sym same ∙ sym (to_z-of_z w64 c.unwrap.result fits))
