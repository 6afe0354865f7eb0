use Rattle.mg_value.specs.Value.{no_items}
use Rattle.mg_rows.specs.StandsFor.{the_key}
use Rattle.mg_rows.specs.Stored.{IsKey}
use Rattle.mg_rows.proofs.key.KeyBytes.new.Goals as goal

pub invariant_of-result : goal.invariant_of-result
invariant_of-result c = ((no_items, (tt, c.new.ensures.items)), tt)

pub returns : goal.returns
returns c = let key : IsKey c.new.result.items no_items = (tt, c.new.ensures.items) in search (the_key c.new.result.items)
