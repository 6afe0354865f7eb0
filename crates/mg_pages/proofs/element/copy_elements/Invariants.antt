use Rattle.std.proofs.Common.{◌≡◌, ◌≤◌, take, length, vec_len, vec_capacity}
use Rattle.mg_pages.proofs.element.copy_elements.Given as goal

abbrev pub invariant-loop-element : goal.invariant-loop-element
invariant-loop-element g l = record {
  copied : l.copies.items ≡ take l.element-index l.elements;
  some : vec_len l.copies ≡ l.element-index;
  room : length l.elements ≤ vec_capacity l.copies;
}
