use Rattle.std.proofs.Common.{◌≡◌, string_bytes, sym, ap, ◌∙◌}
use Rattle.mg_query.specs.Query.{query_of}
use Rattle.mg_value.specs.View.{view}
use Rattle.mg_engine.specs.Commands.{explain_answer}
use Rattle.mg_engine.specs.Stands.{StateView}
use Rattle.mg_engine.proofs.state.State.explain.Goals as goal

pub returns : goal.returns
returns c = λ place w h.
    let name : w.name ≡ c.deref-2.result.now = sym (c.deref-2.ensures ∙ ap string_bytes c.deref.ensures ∙ ap (λ (s : StateView). s.name) c.self.view_is ∙ h.name) in
    let catalog : w.indexes ≡ c.deref-3.result.now = sym (c.deref-3.ensures ∙ ap (λ (s : StateView). s.catalog) c.self.view_is ∙ h.indexes) in
    c.in_ok-reply.ensures (explain_answer w (query_of (view c.args.body.now))) (c.explanation_line-line.ensures w name catalog)
