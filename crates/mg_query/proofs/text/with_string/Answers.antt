use Rattle.std.proofs.Common.{◌≡◌, ◌++◌, ◌∷◌, [], ap, ◌∙◌, append-nil}
use Rattle.json.specs.Print.{print_from, quoted}
use Rattle.json.specs.Token.{string}
use Rattle.mg_query.proofs.text.with_string.Goals as goal

pub returns : goal.returns
unfolding print_from
returns c =
    let token = string c.args.text.now in
    let before : c.string.new.self.before ≡ c.args.out.items = c.in_ok-string.ensures.room.0 ∙ c.new-writer.ensures.before in
    let tokens : c.string.new.self.tokens ≡ token ∷ [] = c.in_ok-string.ensures.ok ∙ ap (λ ts. ts ++ token ∷ []) c.new-writer.ensures.tokens in
    c.into_inner.ensures.items ∙ rw (before, tokens) (ap (λ t. c.args.out.items ++ t) (append-nil (quoted c.args.text.now)))
