use Rattle.std.proofs.Common.{◌≡◌, filter, map, take}
use Rattle.mg_value.specs.View.{view}
use Rattle.mg_doc.specs.Conflicts.{leaf_text}
use Rattle.mg_engine.proofs.more.texts_of_deleted.Given as goal

-- the texts so far
abbrev pub invariant-loop-leaf : goal.invariant-loop-leaf
invariant-loop-leaf l = map view l.texts.items ≡ map leaf_text (filter (λ x. x.deleted) (map (λ x. x.now) (take l.leaf-index l.leaves)))
