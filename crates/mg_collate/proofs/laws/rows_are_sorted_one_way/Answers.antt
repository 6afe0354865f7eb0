use Rattle.mg_collate.specs.Row.{directed_order}
use Rattle.mg_collate.specs.Sorted.{sorted_rows}
use Rattle.mg_collate.proofs.Directed.{directed_total, directed_ties, sorted_descending}
use Rattle.mg_collate.proofs.Sorting.{in_order, rises_sorted, permutation_sorted, one_in_order}
use Rattle.mg_collate.proofs.laws.rows_are_sorted_one_way.Goals as goal

pub returns-clause-in_order : goal.returns-clause-in_order
returns-clause-in_order c direction rows = in_order (directed_order direction) (directed_total direction) (sorted_rows direction rows) (rises_sorted (directed_order direction) (directed_total direction) rows)

pub returns-clause-same_rows : goal.returns-clause-same_rows
returns-clause-same_rows c direction rows = permutation_sorted (directed_order direction) rows

pub returns-clause-no_other : goal.returns-clause-no_other
returns-clause-no_other c direction rows others same ordered = one_in_order (directed_order direction) (directed_total direction) (directed_ties direction) rows others same ordered

pub returns-clause-descending : goal.returns-clause-descending
returns-clause-descending c = sorted_descending
