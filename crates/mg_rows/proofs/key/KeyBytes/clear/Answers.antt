use Rattle.mg_value.specs.Value.{no_items}
use Rattle.mg_rows.specs.StandsFor.{the_key}
use Rattle.mg_rows.specs.Stored.{IsKey}
use Rattle.mg_rows.proofs.key.KeyBytes.clear.Goals as goal

pub invariant_of-self-inside : goal.invariant_of-self-inside
invariant_of-self-inside c = ((no_items, (tt, c.clear.ensures.items)), tt)

pub returns : goal.returns
returns c = let key : IsKey c.clear.new.self.items no_items = (tt, c.clear.ensures.items) in search (the_key c.clear.new.self.items)
