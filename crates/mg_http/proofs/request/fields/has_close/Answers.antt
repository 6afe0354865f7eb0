use Rattle.std.proofs.Common.{ℕ, List, ◌==◌, ◌∙◌, rules, tests}
use Rattle.std.specs.List.{slice_split}
use Rattle.std.proofs.lemmas.Iterator.Search.{any_from_yields_List}
use Rattle.std.proofs.lemmas.Iterator.Splits.{YieldsList-from_slice_split}
use Rattle.httparse.specs.Grammar.{trim_ows}
use Rattle.mg_http.specs.Fields.{is_close}
use Rattle.mg_http.proofs.ListLemmas.{any_map}
use Rattle.mg_http.proofs.request.fields.has_close.Goals as goal

pub returns : goal.returns
returns c =
    let value = c.args.value.now in
    any_from_yields_List (λ (word : List ℕ). is_close (trim_ows word)) _ _ _ c.any.ensures.ran
    (YieldsList-from_slice_split _ (λ (b : ℕ). b == 44) value c.split.ensures.rest c.split.ensures.done c.split.ensures.closure (λ x b q k. search (rules, tests))) (λ x b q k. search (rules, tests))
    ∙ any_map trim_ows is_close (slice_split (λ (b : ℕ). b == 44) value)
