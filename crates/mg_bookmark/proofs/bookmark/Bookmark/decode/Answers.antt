use Rattle.std.proofs.Common.{◌≡◌, Err}
use Rattle.std.proofs.lemmas.Result.{err_from_is_err_and}
use Rattle.mg_bookmark.specs.declared.error.BookmarkError.TheVariants.{Invalid}
use Rattle.mg_bookmark.proofs.Readings.{bookmark_of_place, none_read, read_of_spelled}
use Rattle.mg_bookmark.proofs.bookmark.Bookmark.decode.Goals as goal

pub returns-in_ok-read_spelling-in_default-clause-read : goal.returns-in_ok-read_spelling-in_default-clause-read
returns-in_ok-read_spelling-in_default-clause-read c = bookmark_of_place c.args.text.now _ c.in_default.not-nil (read_of_spelled c.args.text.now _ c.in_ok-read_spelling-in_default.ensures.ok)

pub returns-in_err-read_spelling-in_default-clause-invalid : goal.returns-in_err-read_spelling-in_default-clause-invalid
returns-in_err-read_spelling-in_default-clause-invalid c = λ h.
    let r = err_from_is_err_and c.from_residual.result c.from_residual.ensures.1 in
    let refused : c.read_spelling.result ≡ Err Invalid = cc (h, r.1, r.2, c.in_err-read_spelling-in_default.was) in
    (c.in_default.not-nil, c.read_spelling.ensures.invalid refused)

pub returns-in_err-read_spelling-in_default-clause-unread : goal.returns-in_err-read_spelling-in_default-clause-unread
returns-in_err-read_spelling-in_default-clause-unread c = λ h.
    let r = err_from_is_err_and c.from_residual.result c.from_residual.ensures.1 in
    let refused : c.read_spelling.result ≡ Err Invalid = cc (h, r.1, r.2, c.in_err-read_spelling-in_default.was) in
    bookmark_of_place c.args.text.now _ c.in_default.not-nil (none_read c.args.text.now (c.read_spelling.ensures.invalid refused))
