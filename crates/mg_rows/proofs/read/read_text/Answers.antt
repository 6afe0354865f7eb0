use Rattle.std.proofs.Common.{◌≡◌, ◌<◌, ◌≤◌, length, arith, rules, ap, sym, subst, IsUtf8, ◌∙◌}
use Rattle.mg_rows.proofs.Shapes.{text_goes_on, text_ended, text_some}
use Rattle.mg_rows.proofs.read.read_text.Goals as goal

pub loop-byte-preserved : goal.loop-byte-preserved
loop-byte-preserved c =
    let l = c.loop-byte in
    let step = c.in-Some.ensures.cases in
    let some : 0 < c.in-Some.byte.now = omega (arith, c.if-byte-eq0.false) in
    let shorter : length c.in-Some.after.now ≤ length c.args.bytes.now = omega (arith, step.1, l.invariant.0) in (
      shorter,
      λ s rest h. let p = l.invariant.1 s rest h in text_goes_on p.0 rest l.left.now c.in-Some.after.now l.text.items c.push.new.self.items s c.in-Some.byte.now step.0 some p.1 p.2 c.in_ok-push.ensures.items,
    )

pub returns-then-byte-eq0-clause-value : goal.returns-then-byte-eq0-clause-value
returns-then-byte-eq0-clause-value c s rest h =
    let l = c.loop-byte in
    let step = c.in-Some.ensures.cases in
    let zero : c.in-Some.byte.now ≡ 0 = omega (arith, c.if-byte-eq0.true) in
    let p = l.invariant.1 s rest h in
    let q = text_ended p.0 rest l.left.now c.in-Some.after.now l.text.items s c.in-Some.byte.now step.0 zero p.1 p.2 in
    (c.in_ok-text.ensures.value ∙ q.0, q.1)

pub returns-in_err-text-clause-stored : goal.returns-in_err-text-clause-stored
returns-in_err-text-clause-stored c s rest utf8 h =
    let l = c.loop-byte in
    let step = c.in-Some.ensures.cases in
    let zero : c.in-Some.byte.now ≡ 0 = omega (arith, c.if-byte-eq0.true) in
    let p = l.invariant.1 s rest h in
    let q = text_ended p.0 rest l.left.now c.in-Some.after.now l.text.items s c.in-Some.byte.now step.0 zero p.1 p.2 in
    let memory = c.in_err-text.ensures.stored (subst IsUtf8 (sym q.0) utf8) in
    search rules

pub returns-clause-stored : goal.returns-clause-stored
returns-clause-stored c s rest utf8 h =
    let l = c.loop-byte in
    let p = l.invariant.1 s rest h in
    let none : length l.left.now ≡ 0 = search (rules, arith) in
    let some = text_some p.0 rest in
    let same = ap length p.1 in
    absurd (omega (arith, none, some, same))
