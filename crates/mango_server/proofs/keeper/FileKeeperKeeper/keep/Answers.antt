use Rattle.std.proofs.Common.{ap}
use Rattle.mg_live.specs.Keeping.{IsRecordOf}
use Rattle.mg_log.specs.Entry.{entry_of, kind_name}
use Rattle.mango_server.specs.Kept.{IsRowOf}
use Rattle.mango_server.proofs.Rows.{kept_row, same_rows}
use Rattle.mango_server.proofs.keeper.FileKeeperKeeper.keep.Goals as goal

pub returns-in-Ok-clause-kept : goal.returns-in-Ok-clause-kept
returns-in-Ok-clause-kept g c = λ cs d keeps text not_lost.
    let row = c.row_of.result in
    let had = (rw c.in-Some.is at keeps) not_lost in
    let is : IsRecordOf c.in-Some-text.text d = rw c.in-Some-text.is at text in
    let is_row : IsRowOf (entry_of row) d = (c.in-Some-text.text.kind, ap kind_name c.row_of.ensures.kind, rw c.row_of.ensures.body is) in
    kept_row c.in-Some.log c.append.new.self cs d (entry_of row) had is_row c.in-Ok.ensures.honest c.in-Ok.ensures.was_open (λ honest es kept. rw c.as_slice.ensures at (c.in-Ok.ensures.appended honest es kept))

pub returns-in-Err-NoMemory-clause-refused : goal.returns-in-Err-NoMemory-clause-refused
returns-in-Err-NoMemory-clause-refused g c = λ cs keeps not_lost.
    let had = (rw c.in-Some.is at keeps) not_lost in
    same_rows c.in-Some.log c.append.new.self cs had c.in-Err-NoMemory.ensures.honest (λ honest. c.in-Err-NoMemory.ensures.stays_shut honest cc) c.in-Err-NoMemory.ensures.refused
