use Rattle.std.proofs.Common.{ap, Err}
use Rattle.mg_http.proofs.HeadLemmas.{never_so_many}
use Rattle.mg_http.proofs.request.head.read_head.Goals as goal

pub unreachable-requires : goal.unreachable-requires
unreachable-requires c = never_so_many c.args.bytes.now _ c.requires (c.in-Err-TooManyHeaders.ensures.too_many (ap Err c.in-Err-TooManyHeaders.field-0-is))

pub returns-in-Err : goal.returns-in-Err
returns-in-Err c = c.read_rejected.ensures c.args.db.now
