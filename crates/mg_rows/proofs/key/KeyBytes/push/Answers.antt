use Rattle.std.proofs.Common.{subst}
use Rattle.mg_value.specs.Value.{no_items}
use Rattle.mg_rows.specs.StandsFor.{the_key}
use Rattle.mg_rows.specs.Stored.{IsKey}
use Rattle.mg_rows.proofs.Joined.{made_key, on_err_when}
use Rattle.mg_rows.proofs.key.KeyBytes.push.Goals as goal

pub invariant_of-self-inside : goal.invariant_of-self-inside
invariant_of-self-inside g c = (c.write_column.ensures.key c.self.inside.key.0 c.self.inside.key.1, tt)

pub returns-in_err-write_column-clause-refused : goal.returns-in_err-write_column-clause-refused
returns-in_err-write_column-clause-refused g c =
    let new = c.write_column.new.out.items in
    let key : IsKey new no_items = (tt, c.in_err-write_column.ensures.refused) in
    on_err_when c.from_residual.result (search (the_key new))

pub returns-clause-pushed : goal.returns-clause-pushed
returns-clause-pushed g c =
    let key = c.self.inside.key in
    let v = g.L.LentValue.value c.args.value in
    let new = c.write_column.new.out.items in
    let old = subst (IsKey c.self.inside.bytes.items) c.self.view_is key.1 in
    let more = made_key c.self.inside.bytes.items new c.args.self.now v old c.in_ok-write_column.ensures.stored c.in_ok-write_column.ensures.bytes in
    search (the_key new)
