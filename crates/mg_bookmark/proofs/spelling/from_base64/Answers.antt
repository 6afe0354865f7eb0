use Rattle.std.proofs.Common.{◌≡◌, Err, ap, subst}
use Rattle.std.specs.Result.{result_ok}
use Rattle.base64.specs.Engines.{url_safe_no_pad}
use Rattle.base64.specs.GeneralPurpose.{decode_of, decoded_of}
use Rattle.mg_bookmark.proofs.spelling.from_base64.Goals as goal

pub returns-in-Err-DecodeError-clause-invalid : goal.returns-in-Err-DecodeError-clause-invalid
unfolding decoded_of
returns-in-Err-DecodeError-clause-invalid c = λ _.
    let failed : decode_of url_safe_no_pad c.as_bytes.result.now ≡ Err c.in-Err-DecodeError.field-0-0 = rw c.in-Err-DecodeError.field-0-is at c.in-Err-DecodeError.ensures.err in
    ap result_ok (subst (λ t. decode_of url_safe_no_pad t ≡ Err c.in-Err-DecodeError.field-0-0) c.as_bytes.ensures.value failed)
