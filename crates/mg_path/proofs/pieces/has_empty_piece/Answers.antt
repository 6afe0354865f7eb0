use Rattle.std.proofs.Common.{true, false, ap, sym, ◌∙◌}
use Rattle.mg_path.proofs.Cutting.{empty_from, empty_from-start}
use Rattle.mg_path.proofs.pieces.has_empty_piece.Goals as goal

pub loop-byte-init : goal.loop-byte-init
loop-byte-init c = empty_from-start c.args.text.now ∙ ap (empty_from true false) (sym c.as_bytes-bytes.ensures.value)
