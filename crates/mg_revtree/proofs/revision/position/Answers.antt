use Rattle.std.proofs.Common.{◌≡◌, ◌<◌, ◌∙◌, length, get_or, true, sym, ap, arith}
use Rattle.std.proofs.lemmas.Grind.{common_steps}
use Rattle.std.specs.List.{list_all}
use Rattle.std.specs.Char.{is_ascii_digit}
use Rattle.mg_revtree.proofs.Positions.{no_text, not_digits, zero_first, position_read}
use Rattle.mg_revtree.proofs.revision.position.Goals as goal
use Rattle.mg_revtree.proofs.revision.position.Goals.{then-is_empty-via-then-is_empty, then-is_empty-via-else-is_empty+then-digits-eq48, then-is_empty-via-else-is_empty+else-digits-eq48+then-not-are_digits}

pub returns-then-is_empty : goal.returns-then-is_empty
returns-then-is_empty c =
    let s = c.args.number.now in
    let e = c.as_bytes-digits.ensures.value in
    elim c.then-is_empty.branch [
      | then-is_empty-via-then-is_empty w ↦
          let n : length s ≡ 0 = ap length (sym e) ∙ grind (arith, common_steps, c.is_empty.ensures, w.if-is_empty.true) in
          sym (no_text s n)
      | then-is_empty-via-else-is_empty+then-digits-eq48 w ↦ sym (zero_first s (ap (λ t. get_or t 0 0) (sym e) ∙ w.if-digits-eq48.true))
      | then-is_empty-via-else-is_empty+else-digits-eq48+then-not-are_digits w ↦ sym (not_digits s (ap (list_all is_ascii_digit) (sym e) ∙ sym w.are_digits.ensures ∙ w.if-not-are_digits.true))
    ]

pub returns : goal.returns
returns c =
    let s = c.args.number.now in
    let e = c.as_bytes-digits.ensures.value in
    let d : list_all is_ascii_digit s ≡ true = ap (list_all is_ascii_digit) (sym e) ∙ sym c.are_digits.ensures ∙ c.if-not-are_digits.false in
    let n : 0 < length s = grind (arith, common_steps, ap length e, c.is_empty.ensures, c.if-is_empty.false) in
    c.ok.ensures.value ∙ position_read s c.parse.result d n (λ z. c.if-digits-eq48.false (ap (λ t. get_or t 0 0) e ∙ z)) c.parse.ensures.value.0
