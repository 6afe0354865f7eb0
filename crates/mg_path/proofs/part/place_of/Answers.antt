use Rattle.std.proofs.Common.{arith}
use Rattle.mg_path.proofs.Places.{parsed_place}
use Rattle.mg_path.proofs.part.place_of.Goals as goal

pub returns-in-49-to-57 : goal.returns-in-49-to-57
returns-in-49-to-57 c =
    let first = c.in_ok-first.ensures.value in let bytes = c.as_bytes.ensures.value in
    rw c.ok.ensures.value (parsed_place c.args.step.now c.parse.result c.in_ok-first.field-0.now c.parse.ensures.value.0 (cc) (omega arith))
