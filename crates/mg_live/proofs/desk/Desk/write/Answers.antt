use Rattle.std.proofs.Common.{◌≡◌, ◌∷◌, [], None, Some, length, length-append, ap, refl, sym, ◌∙◌, arith}
use Rattle.mg_engine.specs.View.{command_view, reply_view}
use Rattle.mg_machine.specs.Laws.{IsPrefix}
use Rattle.mg_machine.specs.Machine.{Commit, commands_of}
use Rattle.mg_live.specs.Adding.{AddsAfter}
use Rattle.mg_live.specs.Published.{WriteLeaves, standing}
use Rattle.mg_live.specs.View.{commits_view}
use Rattle.mg_live.specs.Snapshots.{IsSnapshotOf, commits_of}
use Rattle.mg_live.specs.declared.commit_log.Prefix.{Prefix}
use Rattle.mg_live.proofs.Publishing.{added, left, published}
use Rattle.mg_live.proofs.desk.Desk.write.Goals as goal

pub returns-in-None-clause-publishes : goal.returns-in-None-clause-publishes
returns-in-None-clause-publishes g c =
    let db = g.D.Database.db in
    let write : Commit = (c.args.write.seat, command_view c.args.write.command.value) in
    let reply = reply_view c.next-reply.result.0 in
    let none : WriteLeaves db (commits_of c.published-now.result.now) write reply None = rw c.in-None.is at c.next-reply.ensures.next in
    let now : commits_of c.published-now.result.now ≡ c.args.self.now = ap commits_of c.published-now.ensures ∙ c.self.view_is in
    let later : IsPrefix (commits_view c.args.prefix.now.seen.log) c.args.self.now = rw now at c.if-not-begins.ensures.begins in
    left db write (standing c.args.self.now c.args.prefix.now c.args.tally.now) reply c.args.prefix.now c.published-now.result.now.prefix c.see_answered.new.prefix (commits_of c.self.inside.writer.desk.shown.value) c.self.view_is now later (rw now at none) refl c.see_answered.ensures

pub invariant_of-self-in-Some : goal.invariant_of-self-in-Some
invariant_of-self-in-Some g c =
    let db = g.D.Database.db in
    let write : Commit = (c.args.write.seat, command_view c.args.write.command.value) in
    let cs = commits_of c.published-now.result.now in
    let reply = reply_view c.next-reply.result.0 in
    let next : WriteLeaves db cs write reply (Some (commits_of c.in-Some.next)) = rw c.in-Some.is at c.next-reply.ensures.next in
    let there : IsSnapshotOf g.P.Placement.place g.D.Database.commit_log db g.D.Database.shards c.in-Some.next = rw c.in-Some.is at c.next-reply.ensures.there in
    let adds : AddsAfter c.next-reply.new.log g.D.Database.commit_log c.in-Some.next.prefix.seen.log = rw c.in-Some.is at c.next-reply.ensures.log in
    let one = added db cs write reply (commits_of c.in-Some.next) next in
    let before : c.self.inside.tally_book.total ≡ length cs = c.self.invariant.0 ∙ ap (λ s. length (commits_of s)) (sym c.published-now.ensures) in
    let keeps : g.C.Keeper.keeps c.next-reply.new.keeper (commands_of (commits_of c.in-Some.next)) = rw c.in-Some.is at c.next-reply.ensures.keeps in
    rw c.publish-before.ensures (omega (arith, c.add.ensures.tally_book, before, length-append cs (write ∷ []), ap length one), there, adds, keeps)

pub returns-in-Some-clause-publishes : goal.returns-in-Some-clause-publishes
returns-in-Some-clause-publishes g c =
    let db = g.D.Database.db in
    let write : Commit = (c.args.write.seat, command_view c.args.write.command.value) in
    let cs = commits_of c.published-now.result.now in
    let reply = reply_view c.next-reply.result.0 in
    let shown = commits_of c.publish-before.new.writer.desk.shown.value in
    let next : WriteLeaves db cs write reply (Some (commits_of c.in-Some.next)) = rw c.in-Some.is at c.next-reply.ensures.next in
    let now : cs ≡ c.args.self.now = ap commits_of c.published-now.ensures ∙ c.self.view_is in
    let is : commits_of c.in-Some.next ≡ shown = ap commits_of (sym c.publish-before.ensures) in
    let later : IsPrefix (commits_view c.args.prefix.now.seen.log) c.args.self.now = rw now at c.if-not-begins.ensures.begins in
    let adds : WriteLeaves db c.args.self.now write reply (Some shown) = rw (now, is) at next in
    let seen : commits_view c.again.result.seen.log ≡ shown = ap (λ (f : Prefix). commits_view f.seen.log) c.again.ensures ∙ is in
    published db write (standing c.args.self.now c.args.prefix.now c.args.tally.now) (standing shown c.again.result c.add.new.self) reply later adds seen c.add.ensures.tally
