use Rattle.std.proofs.Common.{◌≡◌, Err, sym, subst, ◌∙◌}
use Rattle.std.proofs.lemmas.Bool.{iff_false}
use Rattle.std.proofs.lemmas.Result.{err_from_is_err_and}
use Rattle.mg_value.specs.Text.{Reads}
use Rattle.mg_value.specs.View.{view}
use Rattle.mg_bookmark.specs.Decoding.{IsDecoded}
use Rattle.mg_bookmark.specs.View.{bookmark_place}
use Rattle.mg_bookmark.specs.declared.error.BookmarkError.TheVariants.{Invalid}
use Rattle.mg_bookmark.proofs.Unspelled.{undecoded, unread_bytes, unread_value, unread_spelling}
use Rattle.mg_bookmark.proofs.spelling.read_spelling.Goals as goal

pub returns-in_err-bytes-clause-invalid : goal.returns-in_err-bytes-clause-invalid
returns-in_err-bytes-clause-invalid c = λ h.
    let r = err_from_is_err_and c.from_residual.result c.from_residual.ensures.1 in
    let refused : c.from_base64.result ≡ Err Invalid = cc (h, r.1, r.2, c.in_err-bytes.was) in
    undecoded c.args.text.now (c.from_base64.ensures.invalid refused)

pub returns-in_err-value-clause-invalid : goal.returns-in_err-value-clause-invalid
returns-in_err-value-clause-invalid c = λ h.
    let r = err_from_is_err_and c.from_residual-in_err-value.result c.from_residual-in_err-value.ensures.1 in
    let refused : c.from_json.result ≡ Err Invalid = cc (h, r.1, r.2, c.in_err-value.was) in
    let decoded = subst (IsDecoded c.args.text.now) (sym c.deref.ensures.value) c.in_ok-bytes.ensures.ok in
    unread_bytes c.args.text.now c.deref.result.now decoded (c.from_json.ensures.invalid refused)

pub returns-in_err-bookmark-clause-invalid : goal.returns-in_err-bookmark-clause-invalid
returns-in_err-bookmark-clause-invalid c = λ h.
    let r = err_from_is_err_and c.from_residual-in_err-bookmark.result c.from_residual-in_err-bookmark.ensures.1 in
    let refused : c.bookmark_in.result ≡ Err Invalid = cc (h, r.1, r.2, c.in_err-bookmark.was) in
    let decoded = subst (IsDecoded c.args.text.now) (sym c.deref.ensures.value) c.in_ok-bytes.ensures.ok in
    unread_value c.args.text.now c.deref.result.now (view c.in_ok-value.value) decoded c.in_ok-value.ensures.ok (c.bookmark_in.ensures.invalid refused)

pub returns-clause-invalid : goal.returns-clause-invalid
returns-clause-invalid c = λ _.
    let bytes = c.in_ok-bytes.bytes.items in
    let value = view c.in_ok-value.value in
    let read = subst (λ b. Reads b value) c.deref.ensures.value c.in_ok-value.ensures.ok in
    unread_spelling c.args.text.now bytes value (bookmark_place c.in_ok-bookmark.bookmark) c.in_ok-bytes.ensures.ok read c.in_ok-bookmark.ensures.ok
    (λ same. iff_false c.in_ok-same.ensures c.if-same.false (c.deref-2.ensures.value ∙ same))
