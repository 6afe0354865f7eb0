use Rattle.mg_pages.specs.Subtree.{levels_of}
use Rattle.mg_pages.proofs.look.+last_run.Given as goal

abbrev pub decreases-last_run : goal.decreases-last_run
decreases-last_run g l = levels_of l.children.now
