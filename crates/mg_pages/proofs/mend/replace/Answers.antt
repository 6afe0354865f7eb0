use Rattle.std.proofs.Common.{set, ap, ◌∙◌}
use Rattle.mg_pages.proofs.Levels.{replaced}
use Rattle.mg_pages.proofs.mend.replace.Goals as goal

pub returns-clause-ok : goal.returns-clause-ok
returns-clause-ok g c =
    ap (λ us. set us c.args.i c.args.front) c.in_ok-insert.ensures.items ∙ replaced c.args.children.now.items c.args.i c.args.front c.args.back c.requires
