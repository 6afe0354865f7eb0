use Rattle.std.proofs.Common.{ap₂, ◌∙◌}
use Rattle.std.specs.Prelude.{bytes_eq}
use Rattle.mg_http.proofs.NumberLemmas.{compared}
use Rattle.mg_http.proofs.request.fields.same_number.Goals as goal

pub returns : goal.returns
returns c =
    c.eq.ensures ∙ ap₂ bytes_eq c.significant-first.ensures c.significant-second.ensures ∙ compared c.args.a.now c.args.b.now c.requires.a c.requires.b
