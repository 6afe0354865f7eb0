use Rattle.std.proofs.Common.{◌≡◌, ◌+◌, ◌-◌, ◌<◌, ◌++◌, sym, subst, append-nil, arith}
use Rattle.mg_packed.specs.Tables.{member_pieces}
use Rattle.mg_packed.specs.Walk.{part}
use Rattle.mg_packed.specs.Writing.{IsOpen}
use Rattle.mg_packed.proofs.Filled.{open_kept}
use Rattle.mg_packed.proofs.Laws.{object_few}
use Rattle.mg_packed.proofs.Ranges.{members_marks, part_added}
use Rattle.mg_packed.proofs.object.Object.push_range.Goals as goal

pub returns-then-start-end : goal.returns-then-start-end
returns-then-start-end c = λ b t bracket ps h.
    let none : c.args.end - c.args.start ≡ 0 = omega (arith, c.if-start-end.true) in
    subst (λ n. IsOpen b t bracket (ps ++ member_pieces (part c.args.self.now c.args.start n)) c.args.text.now.items c.args.tables.now.items c.args.pieces.now.text c.args.pieces.now.tables c.args.pieces.now.marks.items) (sym none)
    (subst (λ x. IsOpen b t bracket x c.args.text.now.items c.args.tables.now.items c.args.pieces.now.text c.args.pieces.now.tables c.args.pieces.now.marks.items) (sym (append-nil ps)) h)

pub copy_range-requires-clause-marked : goal.copy_range-requires-clause-marked
copy_range-requires-clause-marked c = members_marks _ _ c.args.self.now c.args.start c.args.end c.source.ensures.holds (omega (arith, c.requires.ordered, c.if-start-end.false)) c.requires.within

pub overflow_mul-start : goal.overflow_mul-start
overflow_mul-start c = omega (arith, c.requires.ordered, c.requires.within, object_few _ _ _ c.source.ensures.holds)

pub overflow_mul-end : goal.overflow_mul-end
overflow_mul-end c = omega (arith, c.requires.within, object_few _ _ _ c.source.ensures.holds)

pub returns : goal.returns
returns c = λ b t bracket ps h.
    let less : c.args.start < c.args.end = omega (arith, c.requires.ordered, c.if-start-end.false) in
    let r = c.in_ok-copy_range.ensures in
    let added = part_added _ _ c.args.self.now c.args.start c.args.end c.source.ensures.holds less c.requires.within b t bracket ps _ _ _ _ _ _ _ _ h r.text r.tables r.marks in
    open_kept b t bracket _ _ _ _ _ c.copy_range.new.pieces.text c.copy_range.new.pieces.tables _ added c.copy_range.ensures.kept.0 c.copy_range.ensures.kept.1
