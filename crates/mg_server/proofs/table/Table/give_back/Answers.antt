use Rattle.std.proofs.lemmas.Result.{on_err_weaker, on_ok_weaker}
use Rattle.mg_server.proofs.GivingBackLemmas.{given_back, not_given_back}
use Rattle.mg_server.proofs.table.Table.give_back.Goals as goal

pub returns-clause-ok : goal.returns-clause-ok
returns-clause-ok g c =
    let mid = c.make_room.new.self in
    on_ok_weaker c.put_back.result (given_back c.args.stay.held c.args.self.now.entries mid.entries c.put_back.new.self.entries c.make_room.ensures.closes c.args.hand.index c.args.hand.number c.args.rest
    c.args.self.now.queue.items mid.queue.items c.put_back.new.self.queue.items c.args.hand.item c.args.stay c.make_room.ensures.queue) c.put_back.ensures.ok

pub returns-clause-refused : goal.returns-clause-refused
returns-clause-refused g c =
    let mid = c.make_room.new.self in
    on_err_weaker c.put_back.result (not_given_back c.args.stay.held c.args.self.now.entries mid.entries c.put_back.new.self.entries c.make_room.ensures.closes c.args.hand.index c.args.hand.number c.args.rest
    mid.held mid.counted c.make_room.ensures.made c.put_back.ensures.others) c.put_back.ensures.refused
