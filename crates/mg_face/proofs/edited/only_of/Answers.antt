use Rattle.std.proofs.Common.{◌≢◌, length, arith}
use Rattle.mg_face.proofs.EntryLemmas.{not_one}
use Rattle.mg_face.proofs.edited.only_of.Goals as goal

pub returns : goal.returns
returns c =
    let some : length c.args.values.items ≢ 0 = omega arith in
    let other : length c.args.values.items ≢ 1 = omega arith in
    not_one _ c.args.values.items some other
