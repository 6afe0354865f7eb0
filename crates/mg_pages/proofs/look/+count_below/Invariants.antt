use Rattle.mg_pages.specs.Subtree.{levels_of}
use Rattle.mg_pages.proofs.look.+count_below.Given as goal

abbrev pub decreases-count_below : goal.decreases-count_below
decreases-count_below g l = levels_of l.children.now
