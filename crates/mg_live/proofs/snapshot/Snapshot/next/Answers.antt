use Rattle.std.proofs.Common.{◌≡◌, List, [], ◌∷◌, ◌++◌, true, false, ap, ◌∙◌, subst, sym}
use Rattle.mg_engine.specs.Commands.{Asked}
use Rattle.mg_engine.specs.Settled.{accepts}
use Rattle.mg_engine.specs.View.{command_view}
use Rattle.mg_live.specs.Snapshots.{commits_of}
use Rattle.mg_machine.specs.Machine.{commands_of}
use Rattle.mg_live.specs.View.{commits_view}
use Rattle.mg_live.proofs.Keeping.{one_more_command}
use Rattle.mg_live.proofs.Publishing.{dealt, has_room, more, one_more, refused_write, there}
use Rattle.mg_live.proofs.snapshot.Snapshot.next.Goals as goal

pub returns-then-not-accepts-clause-next : goal.returns-then-not-accepts-clause-next
returns-then-not-accepts-clause-next g c =
    let w = c.args.write in
    let s = c.args.self.now in
    let no : accepts c.in-Ok.reply ≡ false = cc in
    refused_write g.D.Database.db (commits_of s) w.seat (command_view w.command.value) c.in-Ok.reply (rw c.requires.prepared at (c.in-Ok.ensures.after g.D.Database.db (commits_of s) w.seat c.requires.here.after)).0 no

pub add-prefix-requires-clause-room : goal.add-prefix-requires-clause-room
add-prefix-requires-clause-room g c =
    let w = c.args.write in
    let s = c.args.self.now in
    let yes : accepts c.in-Ok.reply ≡ true = cc in
    has_room g.D.Database.db s.prefix.seen.log (command_view w.command.value) c.in-Ok.reply (rw c.requires.prepared at (c.in-Ok.ensures.after g.D.Database.db (commits_of s) w.seat c.requires.here.after)).0 yes

pub returns-clause-next : goal.returns-clause-next
returns-clause-next g c =
    let w = c.args.write in
    let s = c.args.self.now in
    let yes : accepts c.in-Ok.reply ≡ true = cc in
    one_more g.D.Database.db s.prefix.seen.log c.add-prefix.result.seen.log w.seat w.command.value c.add-prefix.new.self.pen.nib.key c.in-Ok.reply (rw c.requires.prepared at (c.in-Ok.ensures.after g.D.Database.db (commits_of s) w.seat c.requires.here.after)).0 yes c.add-prefix.ensures.added

pub returns-clause-there : goal.returns-clause-there
returns-clause-there g c =
    let w = c.args.write in
    let s = c.args.self.now in
    let yes : accepts c.in-Ok.reply ≡ true = cc in
    let did = rw c.requires.prepared at (c.in-Ok.ensures.after g.D.Database.db (commits_of s) w.seat c.requires.here.after) in
    record {
      book = c.add-prefix.ensures.book ∙ c.requires.here.book;
      after = there g.D.Database.db s.prefix.seen.log c.add-prefix.result.seen.log w.seat w.command.value c.add-prefix.new.self.pen.nib.key c.in-Ok.reply c.in-Ok.point did.0 yes c.add-prefix.ensures.added did.1;
      dealt = dealt g.D.Database.db g.D.Database.shards s.prefix.seen.log c.add-prefix.result.seen.log w.seat w.command.value c.add-prefix.new.self.pen.nib.key c.in-Ok.reply c.in-Ok.point did.0 yes c.add-prefix.ensures.added
          (rw c.requires.prepared at (c.in-Ok.ensures.dealt g.D.Database.db g.D.Database.shards (commits_of s) w.seat c.requires.here.after c.requires.here.dealt));
    }

pub returns-clause-keeps : goal.returns-clause-keeps
returns-clause-keeps g c =
    let w = c.args.write in
    let s = c.args.self.now in
    let command = command_view w.command.value in
    let after = c.add-prefix.result.seen.log in
    let one = one_more_command (commits_of s) (commits_view after) (w.seat, command) (more s.prefix.seen.log after w.seat w.command.value c.add-prefix.new.self.pen.nib.key c.add-prefix.ensures.added) in
    let kept : g.C.Keeper.keeps c.keep.new.self (commands_of (commits_of s) ++ command ∷ []) = c.in-Ok-keep.ensures.kept (commands_of (commits_of s)) command c.requires.keeps c.requires.text in
    subst (λ (cs : List Asked). g.C.Keeper.keeps c.keep.new.self cs) (sym one) kept
