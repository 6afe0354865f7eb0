use Rattle.mg_collate.proofs.Flat.{items_order-item, items_order-below}
use Rattle.mg_collate.proofs.laws.arrays_item_by_item.Goals as goal

pub returns-clause-ended : goal.returns-clause-ended
returns-clause-ended c = items_order-below

pub returns-clause-first_difference : goal.returns-clause-first_difference
returns-clause-first_difference c = items_order-item
