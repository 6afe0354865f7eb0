use Rattle.std.proofs.Common.{◌≡◌, ◌++◌, map, string_bytes, ap, sym, ◌∙◌}
use Rattle.std.proofs.lemmas.List.{map-append}
use Rattle.std.specs.Str.Iter.{chars_rest}
use Rattle.mg_path.proofs.Cutting.{continued, continued-start, continued-letter, continued-end}
use Rattle.mg_path.proofs.pieces.cut_at_dots.Goals as goal

pub loop-letter-init : goal.loop-letter-init
loop-letter-init c = record {
  can_next = tt;
  is_finite = tt;
  pieces =
      let rest : chars_rest c.into_iter-letter-iterator.result ≡ c.args.text.now = ap chars_rest c.into_iter-letter-iterator.ensures.into_iter_gives ∙ c.chars-letter-items.ensures.rest in
      rw (c.new-pieces.ensures.items, c.new-piece.ensures.bytes, rest) (sym (continued-start c.args.text.now));
}

pub loop-letter-preserved-in-Continue-1 : goal.loop-letter-preserved-in-Continue-1
loop-letter-preserved-in-Continue-1 c = record {
  can_next = tt;
  is_finite = tt;
  pieces =
      c.loop-letter.invariant.pieces ∙ ap (λ ps. map string_bytes c.loop-letter.pieces.items ++ ps)
      (ap (continued (string_bytes c.loop-letter.piece)) c.in-Some.ensures.steps.0
      ∙ continued-letter c.in-Some.letter (string_bytes c.loop-letter.piece) (chars_rest c.next.new.self) c.if-letter-ne46.true
      ∙ ap (λ s. continued s (chars_rest c.next.new.self)) (sym c.in_ok-push.ensures.bytes));
}

pub returns : goal.returns
returns c =
    rw (c.in_ok-push-4.ensures.items, map-append)
    (sym (c.loop-letter.invariant.pieces ∙ ap (λ ps. map string_bytes c.loop-letter.pieces.items ++ ps) (continued-end (string_bytes c.loop-letter.piece) _ c.in-None.ensures.steps.0.0)))
