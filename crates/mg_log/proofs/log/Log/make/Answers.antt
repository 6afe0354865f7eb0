use Rattle.std.proofs.Common.{string_bytes, refl, sym, subst}
use Rattle.mg_log.specs.Header.{IsHeaderText}
use Rattle.mg_log.proofs.log.Log.make.Goals as goal

pub returns-in-Ok-create-clause-made : goal.returns-in-Ok-create-clause-made
returns-in-Ok-create-clause-made g c clean =
    let says = subst (λ h. IsHeaderText h (string_bytes c.in-Ok.text)) (sym c.in-Ok.ensures.header) c.in-Ok.ensures.text in
    let it = c.in-Ok-create.ensures.made clean _ says in
    (it.0, record { rows = it.1; counted = refl })
