use Rattle.std.proofs.Common.{subst, sym}
use Rattle.mg_rows.specs.StandsFor.{the_row}
use Rattle.mg_rows.specs.Stored.{IsRow}
use Rattle.mg_rows.proofs.row.RowBytes.again.Goals as goal

pub returns : goal.returns
returns c =
    let row = c.self.inside.row in
    let same = subst (λ parts. IsRow parts c.args.self.now) (sym c.in_ok-bytes.ensures) (subst (IsRow c.self.inside.bytes) c.self.view_is row.1) in
    search (the_row c.in_ok-bytes.bytes)
