use Rattle.std.proofs.Common.{ap, ◌++◌, ◌∷◌, [], ◌∙◌}
use Rattle.json.specs.Token.{string}
use Rattle.mg_engine.proofs.Entries.{eight}
use Rattle.mg_engine.proofs.bulk.reply.write_done.Goals as goal

pub returns-clause-tokens : goal.returns-clause-tokens
returns-clause-tokens c =
    eight _ _ _ _ _ _ _ _ _ _ _ _ _ _ _ _ _ c.in_ok-begin_object.ensures.ok c.in_ok-key.ensures.ok c.in_ok-string.ensures.ok c.in_ok-key-2.ensures.ok c.in_ok-boolean.ensures.ok
    c.in_ok-key-3.ensures.ok (c.in_ok-string-2.ensures.ok ∙ ap (λ s. c.key-3.new.self.tokens ++ string s ∷ []) (c.deref.ensures ∙ c.in_ok-rev.ensures)) c.in_ok-end_object.ensures.ok
