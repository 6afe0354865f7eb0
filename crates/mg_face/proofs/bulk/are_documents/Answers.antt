use Rattle.std.proofs.Common.{is_some, ◌∙◌, rules, tests}
use Rattle.std.proofs.lemmas.Iterator.{YieldsList-from_slice}
use Rattle.std.proofs.lemmas.Iterator.Search.{all_from_yields_List}
use Rattle.serde_json.specs.Find.{as_object}
use Rattle.serde_json.specs.View.{view}
use Rattle.serde_json.specs.declared.value.Value.{Value}
use Rattle.mg_face.proofs.BulkLemmas.{all_documents}
use Rattle.mg_face.proofs.bulk.are_documents.Goals as goal

pub returns : goal.returns
returns c =
    all_from_yields_List (λ (v : Value). is_some (as_object (view v))) _ _ _ c.all.ensures.ran (YieldsList-from_slice c.args.items.now c.iter.ensures.rest) (λ x b q k. search (rules, tests))
    ∙ all_documents c.args.items.now
