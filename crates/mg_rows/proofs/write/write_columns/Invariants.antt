use Rattle.std.proofs.Common.{◌≡◌, [], ◌++◌, drop}
use Rattle.mg_rows.specs.Bytes.{columns_before}
use Rattle.mg_value.specs.Stored.{AreStored}
use Rattle.mg_value.specs.View.{items_view}
use Rattle.mg_rows.proofs.write.write_columns.Given as goal

-- the bytes so far and those of the values left are all the bytes to write
abbrev pub invariant-loop-value : goal.invariant-loop-value
invariant-loop-value l =
    let left = items_view (drop l.value-index l.values) in
    (l.initial.out.items ++ columns_before (items_view l.values) [] ≡ l.out.items ++ columns_before left [])
    × (AreStored left → AreStored (items_view l.values))
