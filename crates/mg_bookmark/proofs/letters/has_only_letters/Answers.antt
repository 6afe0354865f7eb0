use Rattle.std.proofs.Common.{sym, ap, ◌∙◌}
use Rattle.mg_bookmark.specs.Letters.{has_only_letters}
use Rattle.mg_bookmark.proofs.Alphabet.{other_byte}
use Rattle.mg_bookmark.proofs.letters.has_only_letters.Goals as goal

pub returns-clause-unread : goal.returns-clause-unread
returns-clause-unread c = λ h. other_byte c.args.text.now (ap has_only_letters (sym c.as_bytes.ensures.value) ∙ sym c.are_letters.ensures ∙ h)
