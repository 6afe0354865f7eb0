use Rattle.std.proofs.Common.{rules}
use Rattle.mg_rows.specs.StandsFor.{the_row}
use Rattle.mg_rows.proofs.Joined.{made_row}
use Rattle.mg_rows.proofs.row.RowBytes.of_columns.Goals as goal

pub invariant_of-result : goal.invariant_of-result
invariant_of-result c =
    let id = c.args.id.now in
    (((c.requires.0, id), made_row c.in_ok-bytes.bytes c.args.column_bytes.now c.requires.0 id c.requires.1 c.utf8.id (search rules)), tt)

pub returns : goal.returns
returns c key h =
    let id = c.args.id.now in
    let row = made_row c.in_ok-bytes.bytes c.args.column_bytes.now key id h c.utf8.id (search rules) in
    search (the_row c.in_ok-bytes.bytes)
