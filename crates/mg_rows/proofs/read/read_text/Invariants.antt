use Rattle.std.proofs.Common.{◌≡◌, ◌≤◌, ℕ, List, ◌++◌, length}
use Rattle.mg_rows.specs.Bytes.{text_before}
use Rattle.mg_rows.proofs.read.read_text.Given as goal

abbrev pub decreases-loop-byte : goal.decreases-loop-byte
decreases-loop-byte l = length l.left

abbrev pub invariant-loop-byte : goal.invariant-loop-byte
invariant-loop-byte l =
    (length l.left ≤ length l.fn.bytes)
    × ((s : List ℕ) (rest : List ℕ) → l.fn.bytes ≡ text_before s rest → (t : List ℕ) × (l.left ≡ text_before t rest) × (l.text.items ++ t ≡ s))
