use Rattle.mg_value.specs.Value.{no_items, item}
use Rattle.mg_rows.specs.Laws.{joined_items}
use Rattle.mg_rows.proofs.Joined.{made_key}
use Rattle.mg_rows.proofs.write.write_column.Goals as goal

pub returns-in-Ok-clause-key : goal.returns-in-Ok-clause-key
returns-in-Ok-clause-key g c key h =
    let v = g.L.LentValue.value c.args.value in
    (joined_items key (item v no_items), made_key c.args.out.now.items c.write_value.new.out.items key v h c.in-Ok.ensures.stored c.in-Ok.ensures.bytes)

pub returns-in-Err-clause-key : goal.returns-in-Err-clause-key
returns-in-Err-clause-key g c key h = (no_items, (tt, c.clear.ensures.items))
