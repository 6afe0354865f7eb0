use Rattle.mg_revtree.proofs.Winners as proved
use Rattle.mg_revtree.proofs.laws.deleted_do_not_win.Goals as goal

pub returns : goal.returns
returns c = proved.deleted_do_not_win
