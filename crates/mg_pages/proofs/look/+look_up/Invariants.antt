use Rattle.mg_pages.specs.Subtree.{levels_of}
use Rattle.mg_pages.proofs.look.+look_up.Given as goal

abbrev pub decreases-look_up : goal.decreases-look_up
decreases-look_up g l = levels_of l.children.now
