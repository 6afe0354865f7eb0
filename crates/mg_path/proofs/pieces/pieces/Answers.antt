use Rattle.std.proofs.Common.{◌≡◌, false, eqb, ap, sym, ◌∙◌}
use Rattle.std.specs.List.{list_any}
use Rattle.mg_path.proofs.Cutting.{pieces_of-no_dot}
use Rattle.mg_path.proofs.pieces.pieces.Goals as goal

pub returns : goal.returns
returns c =
    let no_dot : list_any (λ letter. eqb letter 46) c.args.text.now ≡ false =
    ap (list_any (λ letter. eqb letter 46)) (sym c.as_bytes.ensures.value) ∙ sym c.contains.ensures.value ∙ c.if-contains.false in
    rw (c.in_ok-push.ensures.items, c.in_ok-pieces.ensures.items, c.in_ok-from_str.ensures.ok) (sym (pieces_of-no_dot c.args.text.now no_dot))
