use Rattle.std.proofs.Common.{sym, ◌∙◌, arith}
use Rattle.mg_pages.proofs.Between.{left_none}
use Rattle.mg_pages.proofs.cursor.CursorIterator.next.Goals as goal

pub returns-then-run-eq0 : goal.returns-then-run-eq0
returns-then-run-eq0 g c =
    let it = c.self.inside in
    let none = left_none g.T.Keyed.order it.direction it.pages.now it.run.now (omega arith) in
    record { steps = (sym c.self.view_is ∙ none, sym c.self.view_is ∙ none); goes = record { on = λ _. tt; keeps = tt; rests = λ _. tt } }
