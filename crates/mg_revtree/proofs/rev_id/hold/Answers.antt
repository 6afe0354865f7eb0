use Rattle.std.proofs.Common.{◌≡◌, ◌∙◌, string_bytes, sym, subst, IsUtf8}
use Rattle.std.proofs.lemmas.Str.{IsUtf8-string_bytes}
use Rattle.mg_revtree.proofs.rev_id.hold.Goals as goal

pub returns-in-Some-clause-text : goal.returns-in-Some-clause-text
returns-in-Some-clause-text c =
    let same : c.in-Some.digest ≡ string_bytes c.args.id = c.in-Some.ensures.array ∙ c.as_bytes.ensures.value in
    subst IsUtf8 (sym same) (IsUtf8-string_bytes c.args.id)
