use Rattle.mg_face.proofs.LineLemmas.{made_shown, refused_shown, replicated_shown}
use Rattle.mg_face.proofs.laws.an_edit_is_shown.Goals as goal

pub returns-clause-made : goal.returns-clause-made
returns-clause-made c = λ db id change r utf8. made_shown db id change r utf8

pub returns-clause-refused : goal.returns-clause-refused
returns-clause-refused c = λ db error id reason change utf8. refused_shown db error id reason change utf8

pub returns-clause-replicated : goal.returns-clause-replicated
returns-clause-replicated c = λ db id revision change. replicated_shown db id revision change
