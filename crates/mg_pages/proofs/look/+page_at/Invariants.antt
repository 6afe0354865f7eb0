use Rattle.mg_pages.specs.Subtree.{levels_of}
use Rattle.mg_pages.proofs.look.+page_at.Given as goal

abbrev pub decreases-page_at : goal.decreases-page_at
decreases-page_at g l = levels_of l.children.now
