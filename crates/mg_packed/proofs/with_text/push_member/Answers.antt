use Rattle.std.proofs.Common.{[], ◌∷◌, ◌++◌, refl, subst, append_assoc}
use Rattle.mg_value.specs.Value.{text}
use Rattle.mg_packed.specs.Writing.{IsOpen}
use Rattle.mg_packed.proofs.Filled.{open_is}
use Rattle.mg_packed.proofs.Parts.{piece_of}
use Rattle.mg_packed.proofs.with_text.push_member.Goals as goal

pub mark-requires-2 : goal.mark-requires-2
mark-requires-2 c =
    let r = c.requires in
    let k = piece_of 44 (text c.args.name.now) in
    (r.0, r.1, r.2, r.3 ++ k ∷ [], open_is _ _ _ _ _ _ _ _ _ _ _ (c.in_ok-mark.ensures.added _ _ _ r.3 k refl r.4) c.in_ok-push_text.ensures.text c.in_ok-push_text.ensures.tables)

pub returns : goal.returns
returns c = λ b t bracket ps h.
    let k = piece_of 44 (text c.args.name.now) in
    let v = piece_of 58 (text c.args.text.now) in
    let one = open_is _ _ _ _ _ _ _ _ _ c.push_text.new.out.items c.push_text.new.inner.items (c.in_ok-mark.ensures.added b t bracket ps k refl h) c.in_ok-push_text.ensures.text c.in_ok-push_text.ensures.tables in
    let two = open_is _ _ _ _ _ _ _ _ _ c.push_text-2.new.out.items c.push_text-2.new.inner.items (c.in_ok-mark-2.ensures.added b t bracket (ps ++ k ∷ []) v refl one) c.in_ok-push_text-2.ensures.text c.in_ok-push_text-2.ensures.tables in
    subst (λ x. IsOpen b t bracket x c.push_text-2.new.out.items c.push_text-2.new.inner.items c.mark-2.new.self.text c.mark-2.new.self.tables c.mark-2.new.self.marks.items) (append_assoc ps (k ∷ []) (v ∷ [])) two
