use Rattle.mg_query.proofs.Marked.{bookmarks_change_nothing_else}
use Rattle.mg_query.proofs.laws.bookmarks_change_nothing_else.Goals as goal

pub returns : goal.returns
returns c = bookmarks_change_nothing_else
