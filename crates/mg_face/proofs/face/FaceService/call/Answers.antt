use Rattle.std.proofs.Common.{◌≡◌}
use Rattle.mg_face.proofs.face.FaceService.call.Goals as goal

pub returns : goal.returns
returns g c =
    let view = c.self.view_is in
    let is : c.args.self.now ≡ c.self.inside.store = cc in
    record { drawn = c.draw-drawn.result; small = c.draw-drawn.ensures.small; carries = rw is c.answer.ensures }
