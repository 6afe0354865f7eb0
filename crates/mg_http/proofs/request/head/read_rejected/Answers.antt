use Rattle.std.proofs.Common.{◌≡◌, ◌∙◌, sym, true, false, inr, refl}
use Rattle.mg_http.proofs.MessageLemmas.{never_none}
use Rattle.mg_http.proofs.request.head.read_rejected.Goals as goal

pub returns-then-ends_in_target : goal.returns-then-ends_in_target
returns-then-ends_in_target c = λ db.
    (λ h rest reads. never_none c.args.bytes.now h rest c.requires reads, λ none. none.1 (c.ends_in_target.ensures.0 c.if-ends_in_target.true))

pub returns-else-ends_in_target : goal.returns-else-ends_in_target
returns-else-ends_in_target c = λ db.
    inr ((c.requires, λ ends. let both : false ≡ true = sym c.if-ends_in_target.false ∙ c.ends_in_target.ensures.1 ends in cc), refl, refl)
