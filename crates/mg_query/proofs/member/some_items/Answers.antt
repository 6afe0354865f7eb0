use Rattle.std.proofs.Common.{Some, ap, sym}
use Rattle.mg_query.proofs.Items.{item_list-items_view}
use Rattle.mg_query.proofs.member.some_items.Goals as goal

pub returns : goal.returns
returns c = ap Some (sym (item_list-items_view c.args.items.now))
