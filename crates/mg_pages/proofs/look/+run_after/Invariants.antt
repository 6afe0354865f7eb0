use Rattle.mg_pages.specs.Subtree.{levels_of}
use Rattle.mg_pages.proofs.look.+run_after.Given as goal

abbrev pub decreases-run_after : goal.decreases-run_after
decreases-run_after g l = levels_of l.children.now
