use Rattle.std.proofs.Common.{◌-◌, set, ap}
use Rattle.mg_revtree.proofs.Rooms.{put_after, put_used}
use Rattle.mg_revtree.proofs.links.room.put.Goals as goal

pub returns-clause-used : goal.returns-clause-used
returns-clause-used c =
    put_used c.args.nodes.now c.args.at c.args.room.till c.args.room.from c.args.node c.requires.at c.requires.room c.requires.within _ (ap (λ ns. set ns (c.args.room.from - (c.args.room.till - c.args.at) - 1) c.args.node) c.copy_within.ensures.after)

pub returns-clause-after : goal.returns-clause-after
returns-clause-after c =
    put_after c.args.nodes.now c.args.at c.args.room.till c.args.room.from c.args.node c.requires.at c.requires.room c.requires.within _ (ap (λ ns. set ns (c.args.room.from - (c.args.room.till - c.args.at) - 1) c.args.node) c.copy_within.ensures.after)
