use Rattle.mg_pages.specs.Subtree.{levels_of}
use Rattle.mg_pages.proofs.look.+first_run.Given as goal

abbrev pub decreases-first_run : goal.decreases-first_run
decreases-first_run g l = levels_of l.children.now
