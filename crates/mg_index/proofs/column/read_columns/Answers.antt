use Rattle.std.proofs.Common.{sym, subst}
use Rattle.mg_index.specs.Reading.{ReadsAs, columns_of}
use Rattle.mg_index.specs.View.{columns_view}
use Rattle.mg_index.proofs.Fields.{item_list-items_view}
use Rattle.mg_index.proofs.column.read_columns.Goals as goal

pub returns : goal.returns
returns c = subst (λ vs. ReadsAs columns_view c.columns_in.result (columns_of vs)) (sym (item_list-items_view c.args.fields.now)) c.columns_in.ensures
