use Rattle.std.proofs.Common.{◌≡◌, ◌++◌, take}
use Rattle.mg_pages.proofs.element.append_elements.Given as goal

-- the elements so far were appended
abbrev pub invariant-loop-element : goal.invariant-loop-element
invariant-loop-element g l = l.list.items ≡ l.initial.list.items ++ take l.element-index l.elements
