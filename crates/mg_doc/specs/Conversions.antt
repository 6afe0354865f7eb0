-- For the conversions of errors: which error of an edit reports an error of its tree.
use Rattle.mg_revtree.specs.declared.error.MergeError.{MergeError}
use Rattle.mg_revtree.specs.declared.error.MergeError.TheVariants.{BadHistory as misfit, NoMemory as merge_refused}
use Rattle.mg_revtree.specs.declared.error.TreeError.{TreeError}
use Rattle.mg_revtree.specs.declared.error.TreeError.TheVariants.{NotLeaf, Full, Known, NoMemory as tree_refused}
use Rattle.mg_doc.specs.declared.error.EditError.{EditError}
use Rattle.mg_doc.specs.declared.error.EditError.TheVariants.{Conflict, BadHistory, NoMemory}

-- the error for a path that was not merged
abbrev pub error_of_merge : MergeError → EditError
error_of_merge misfit = BadHistory
error_of_merge merge_refused = NoMemory

-- the error for a revision that was not made
abbrev pub error_of_tree : TreeError → EditError
error_of_tree NotLeaf = Conflict
error_of_tree Full = BadHistory
error_of_tree Known = Conflict
error_of_tree tree_refused = NoMemory
