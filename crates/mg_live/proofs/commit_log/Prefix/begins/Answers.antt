use Rattle.std.proofs.Common.{ap, subst, List, refl}
use mathlib.Core.List.{IsPrefix}
use Rattle.mg_live.specs.declared.markers.Entry.{Entry}
use Rattle.mg_live.proofs.Prefixes.{compared}
use Rattle.mg_live.proofs.commit_log.Prefix.begins.Goals as goal

pub returns-clause-begins : goal.returns-clause-begins
returns-clause-begins c =
    let s = c.args.self.now in
    let o = c.args.other.now in
    let both = c.learn.new.self.log in
    let this : IsPrefix s.seen.log both = subst (λ (l : List Entry). IsPrefix l both) (ap (λ s. s.log) c.again-both.ensures) c.learn.ensures.2 in
    rw (s.counted, o.counted) (compared s.seen.log o.seen.log both this c.learn.ensures.3 _ refl)
