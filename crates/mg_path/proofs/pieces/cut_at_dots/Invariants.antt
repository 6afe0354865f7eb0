use Rattle.std.proofs.Common.{◌≡◌, ◌++◌, map, string_bytes}
use Rattle.std.specs.Str.Iter.{chars_rest}
use Rattle.mg_path.specs.Part.{pieces_of}
use Rattle.mg_path.proofs.Cutting.{continued}
use Rattle.mg_path.proofs.pieces.cut_at_dots.Given as goal

-- the pieces of the text are those that are finished, and those from the piece begun on
abbrev pub invariant-loop-letter : goal.invariant-loop-letter
invariant-loop-letter l = record {
  can_next : (goal.iterator-loop-letter).can_next l.letter-iterator;
  is_finite : (goal.iterator-loop-letter).is_finite l.letter-iterator;
  pieces : pieces_of l.fn.text ≡ map string_bytes l.pieces.items ++ continued (string_bytes l.piece) (chars_rest l.letter-iterator);
}
