use Rattle.std.proofs.Common.{◌≡◌, suc, ◌+◌, ◌-◌, [], ◌∷◌, ◌++◌, sym, ap, ◌∙◌, append_assoc, append-nil, arith}
use Rattle.mg_packed.specs.declared.mark.Mark.{Mark}
use Rattle.mg_packed.specs.Writing.{mark_in, moved}
use Rattle.mg_packed.proofs.Marks.{mark}
use Rattle.mg_packed.proofs.range.push_moved.Goals as goal

pub mark-here-requires-clause-has_mark : goal.mark-here-requires-clause-has_mark
mark-here-requires-clause-has_mark c = c.requires.marked.there c.loop-index.index (omega arith) (omega arith)

pub loop-index-preserved : goal.loop-index-preserved
loop-index-preserved c =
    let l = c.loop-index in
    let t = c.args.source.tables.now in
    let from = c.args.from in
    let to = c.args.to in
    let i = l.index in
    let m = c.args.end - (i + 1) in
    let moving = λ (h : Mark). mark (h.at - from.at + to.at) (h.deep - from.deep + to.deep) in
    let next : i + 1 ≡ suc i = omega arith in
    let more : c.args.end - i ≡ suc m = omega arith in
    let ms = l.marks.items in
    ap (λ x. x ++ moved t from to (i + 1) m) c.in_ok-push.ensures.items ∙ append_assoc ms (moving c.mark-here.result ∷ []) (moved t from to (i + 1) m)
    ∙ ap (λ h. ms ++ moving h ∷ moved t from to (i + 1) m) c.mark-here.ensures
    ∙ ap (λ n. ms ++ moving (mark_in t i) ∷ moved t from to n m) next
    ∙ ap (λ n. ms ++ moved t from to i n) (sym more)
    ∙ l.invariant

pub returns : goal.returns
returns c =
    let l = c.loop-index in
    let none : c.args.end - l.index ≡ 0 = omega arith in
    sym (append-nil l.marks.items) ∙ ap (λ n. l.marks.items ++ moved c.args.source.tables.now c.args.from c.args.to l.index n) (sym none) ∙ l.invariant
