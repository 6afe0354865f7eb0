use Rattle.mg_pages.specs.Subtree.{levels_of}
use Rattle.mg_pages.proofs.look.+run_before.Given as goal

abbrev pub decreases-run_before : goal.decreases-run_before
decreases-run_before g l = levels_of l.children.now
