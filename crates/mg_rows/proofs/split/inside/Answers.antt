use Rattle.std.proofs.Common.{◌<◌, length, refl, arith}
use Rattle.mg_rows.proofs.Inside.{inside_bytes}
use Rattle.mg_rows.proofs.split.inside.Goals as goal

pub returns : goal.returns
returns c =
    let room : length c.args.front.now < 29 = omega (arith, c.requires) in
    record { bytes = inside_bytes c.args.front.now c.args.back.now _ _ _ c.args.last _ _ c.copy_from_slice.ensures.after c.copy_from_slice-2.ensures.after room refl }
