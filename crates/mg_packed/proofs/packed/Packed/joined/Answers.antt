use Rattle.std.proofs.Common.{◌≡◌, ◌++◌, length, ap, ◌∙◌, sym, arith, rules}
use Rattle.mg_packed.proofs.Laws.{value_is, block_of}
use Rattle.mg_packed.proofs.Valued.{valued}
use Rattle.mg_packed.specs.Read.{value_in}
use Rattle.mg_packed.proofs.packed.Packed.joined.Goals as goal

pub invariant_of-result : goal.invariant_of-result
invariant_of-result c =
    let b = c.args.text.now in
    let t = c.args.inner.now in
    let all : c.extend_from_slice-2.new.self.items ≡ b ++ t =
    c.in_ok-extend_from_slice-2.ensures.items ∙ ap (λ x. x ++ t) (c.in_ok-extend_from_slice.ensures.items ∙ ap (λ x. x ++ b) c.in_ok-bytes.ensures.items) in
    let r = block_of b t c.extend_from_slice-2.new.self.items (length b) c.requires.0 c.requires.1 c.requires.2 c.requires.3 (search rules) all (omega arith) (omega arith) in
    (r.0, (c.requires.0, r.1))

pub returns : goal.returns
returns c =
    let b = c.args.text.now in
    let t = c.args.inner.now in
    let all : c.extend_from_slice-2.new.self.items ≡ b ++ t =
    c.in_ok-extend_from_slice-2.ensures.items ∙ ap (λ x. x ++ t) (c.in_ok-extend_from_slice.ensures.items ∙ ap (λ x. x ++ b) c.in_ok-bytes.ensures.items) in
    let r = block_of b t c.extend_from_slice-2.new.self.items (length b) c.requires.0 c.requires.1 c.requires.2 c.requires.3 (search rules) all (omega arith) (omega arith) in
    value_is _ _ c.requires.0 r.1 ∙ sym (ap value_in c.requires.2 ∙ valued c.requires.0 c.requires.1)
