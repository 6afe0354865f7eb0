use Rattle.mg_pages.specs.Subtree.{levels_of}
use Rattle.mg_pages.proofs.look.+guessed_page.Given as goal

abbrev pub decreases-guessed_page : goal.decreases-guessed_page
decreases-guessed_page g l = levels_of l.children.now
