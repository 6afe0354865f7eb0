use Rattle.mg_face.proofs.LineLemmas.{tag_shown}
use Rattle.mg_face.proofs.laws.a_tag_is_the_revision_shown.Goals as goal

pub returns : goal.returns
returns c = λ db fields v held deep utf8. tag_shown db fields v held deep utf8
