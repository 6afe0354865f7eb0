use Rattle.std.proofs.Common.{◌≡◌, map, take}
use Rattle.mg_value.specs.View.{view}
use Rattle.mg_doc.specs.Conflicts.{leaf_text}
use Rattle.mg_doc.proofs.conflicts.revision_texts.Given as goal

abbrev pub invariant-loop-leaf : goal.invariant-loop-leaf
invariant-loop-leaf l = map view l.texts.items ≡ map (λ x. leaf_text x.now) (take l.leaf-index l.leaves)
