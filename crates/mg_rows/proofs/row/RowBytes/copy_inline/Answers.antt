use Rattle.std.proofs.Common.{subst, sym}
use Rattle.mg_rows.specs.StandsFor.{the_row}
use Rattle.mg_rows.specs.Stored.{IsRow}
use Rattle.mg_rows.proofs.row.RowBytes.copy_inline.Goals as goal

pub returns-in-Some : goal.returns-in-Some
returns-in-Some c =
    let row = c.self.inside.row in
    let same = subst (λ parts. IsRow parts c.args.self.now) (sym c.in-Some.ensures) (subst (IsRow c.self.inside.bytes) c.self.view_is row.1) in
    search (the_row c.in-Some.bytes)
