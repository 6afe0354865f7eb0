use Rattle.std.proofs.Common.{Err, ap}
use Rattle.mg_bookmark.proofs.spelling.from_json.Goals as goal

pub returns-in-Err-NotJson-clause-invalid : goal.returns-in-Err-NotJson-clause-invalid
returns-in-Err-NotJson-clause-invalid c = λ _ v r. c.in-Err-NotJson.ensures.not_json (ap Err c.in-Err-NotJson.field-0-is) r.0 r.1
