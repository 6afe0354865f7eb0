use Rattle.std.proofs.Common.{◌≡◌, ◌++◌, rules}
use Rattle.mg_rows.specs.RowBound.{edge_bytes}
use Rattle.mg_rows.specs.StandsFor.{the_bound}
use Rattle.mg_rows.proofs.Joined.{made_bound}
use Rattle.mg_rows.proofs.row_bound.RowBound.of_bytes.Goals as goal

pub invariant_of-result : goal.invariant_of-result
invariant_of-result c =
    let bytes = c.write_edge.new.bytes.items in
    let e : bytes ≡ c.args.column_bytes.items ++ edge_bytes c.args.edge = search rules in
    (((c.args.edge, c.requires.0), made_bound bytes c.args.column_bytes.items c.args.edge c.requires.0 c.requires.1 e), tt)

pub returns : goal.returns
returns c values h =
    let bytes = c.write_edge.new.bytes.items in
    let e : bytes ≡ c.args.column_bytes.items ++ edge_bytes c.args.edge = search rules in
    let place = made_bound bytes c.args.column_bytes.items c.args.edge values h e in
    search (the_bound bytes)
