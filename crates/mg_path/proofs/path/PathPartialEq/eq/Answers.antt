use Rattle.std.proofs.Common.{string_bytes, nat_eq, ap₂, sym, ◌∙◌}
use Rattle.std.specs.Cmp.Derive.Mapped.{pointwise-map}
use Rattle.std.specs.Cmp.Lexicographic.{pointwise}
use Rattle.mg_path.specs.Equal.{path_eq}
use Rattle.mg_path.proofs.path.PathPartialEq.eq.Goals as goal

pub returns : goal.returns
returns c =
    c.eq.ensures ∙ sym (pointwise-map string_bytes (pointwise nat_eq) c.self.inside.steps.items c.other.inside.steps.items) ∙ ap₂ path_eq c.self.view_is c.other.view_is
