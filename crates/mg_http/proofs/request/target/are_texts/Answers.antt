use Rattle.std.proofs.Common.{◌∙◌, rules}
use Rattle.std.proofs.Common.{tests}
use Rattle.std.proofs.lemmas.Iterator.{YieldsList-from_slice}
use Rattle.std.proofs.Common.{Vec, ℕ, Global}
use Rattle.std.specs.Str.{is_utf8}
use Rattle.std.proofs.lemmas.Iterator.Search.{all_from_yields_List}
use Rattle.mg_http.proofs.ListLemmas.{all_map}
use Rattle.mg_http.proofs.request.target.are_texts.Goals as goal

pub returns : goal.returns
returns c =
    all_from_yields_List (λ (v : Vec ℕ Global). is_utf8 v.items) _ _ _ c.all.ensures.ran (YieldsList-from_slice c.args.parameters.now c.iter.ensures.rest) (λ x b q k. search (rules, tests))
    ∙ all_map (λ (v : Vec ℕ Global). v.items) is_utf8 c.args.parameters.now
