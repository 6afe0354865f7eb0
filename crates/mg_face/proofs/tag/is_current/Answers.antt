use Rattle.std.proofs.Common.{ℕ, List, rules, tests}
use Rattle.std.proofs.lemmas.Iterator.Search.{any_from_yields_List}
use Rattle.std.proofs.lemmas.Iterator.Splits.{YieldsList-from_slice_split}
use Rattle.mg_face.specs.Tag.{is_same_tag, is_blank}
use Rattle.mg_face.proofs.tag.is_current.Goals as goal

pub returns : goal.returns
returns c =
    any_from_yields_List (λ (item : List ℕ). is_same_tag c.args.tag.now item) _ _ _ c.any.ensures.ran
    (YieldsList-from_slice_split _ is_blank c.args.value.now c.split.ensures.rest c.split.ensures.done c.split.ensures.closure (λ x b q k. search (rules, tests))) (λ x b q k. search (rules, tests))
