use Rattle.std.proofs.Common.{IsUtf8, subst}
use Rattle.std.proofs.lemmas.Str.{IsUtf8-string_bytes}
use Rattle.mg_live.proofs.record.text_of.Goals as goal

pub returns-in-Ok-clause-utf8 : goal.returns-in-Ok-clause-utf8
returns-in-Ok-clause-utf8 c = subst (λ b. IsUtf8 b.items) c.in-Ok.ensures.ok (IsUtf8-string_bytes c.in-Ok.text)
