use Rattle.mg_bookmark.proofs.Spellings.{not_five}
use Rattle.mg_bookmark.proofs.reader.bookmark_of.Goals as goal

pub returns-then-items-ne5-clause-invalid : goal.returns-then-items-ne5-clause-invalid
returns-then-items-ne5-clause-invalid c = λ _. not_five c.args.items.now c.if-items-ne5.true
