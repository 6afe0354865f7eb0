use Rattle.std.proofs.Common.{refl}
use Rattle.mg_face.proofs.answer.unanswered_body.Goals as goal

pub returns : goal.returns
returns c =
    rw (
      c.in_ok-extend_from_slice-3.ensures.items,
      c.in_ok-extend_from_slice-2.ensures.items,
      c.in_ok-extend_from_slice.ensures.items,
      c.new-body.ensures.items,
      c.as_bytes.ensures.value,
      c.name.ensures,
    )
    refl
