use Rattle.std.proofs.Common.{◌≡◌, ◌+◌, ◌<◌, List, ℕ, [], ◌∷◌, ◌++◌, length, map, None, Some, option_map, string_bytes, sym, ap, ◌∙◌, subst, arith}
use Rattle.std.proofs.lemmas.List.{append-nil, map-append}
use Rattle.mg_value.specs.Value.{Value, Items, item, item_list, text}
use Rattle.mg_value.proofs.Items.{items_past, past_all}
use Rattle.std.specs.Prelude.{ok_or}
use Rattle.mg_packed.specs.Read.{nth_item}
use Rattle.mg_doc.specs.Document.{path_ids}
use Rattle.mg_doc.specs.declared.error.DocError.TheVariants.{BadRev}
use Rattle.mg_doc.proofs.Walks.{path_ends, path_next}
use Rattle.mg_doc.proofs.revisions.path_ids.Goals as goal

pub returns-in_default : goal.returns-in_default
returns-in_default c =
    let vs = c.args.ids.now in
    let i = c.loop-index.index in
    let less : i < length (item_list vs) = omega (arith, c.len-count.ensures, c.loop-index-test.true) in
    let P : Value → Type 0 = λ v. (rest : Items) → path_ids (item v rest) ≡ None in
    let none : P (nth_item vs i) = subst P c.item.ensures c.in_default.ensures in
    ap (λ o. ok_or o BadRev) (c.loop-index.invariant ∙ path_ends vs i (map string_bytes c.loop-index.texts.items) less none)

pub loop-index-preserved : goal.loop-index-preserved
loop-index-preserved c =
    let vs = c.args.ids.now in
    let i = c.loop-index.index in
    let texts = map string_bytes c.loop-index.texts.items in
    let id = c.in-Some.id.now in
    let less : i < length (item_list vs) = omega (arith, c.len-count.ensures, c.loop-index-test.true) in
    let is : nth_item vs i ≡ text id = sym c.item.ensures ∙ c.in-Some.ensures in
    let more : map string_bytes c.push.new.self.items ≡ texts ++ (id ∷ []) =
    ap (map string_bytes) c.in_ok-push.ensures.items ∙ map-append string_bytes c.loop-index.texts.items _ ∙ ap (λ (s : List ℕ). texts ++ (s ∷ [])) c.in_ok-from_str.ensures.ok in
    c.loop-index.invariant ∙ path_next vs i texts id less is
    ∙ ap (λ (ts : List (List ℕ)). option_map (λ rest. ts ++ rest) (path_ids (items_past (i + 1) vs))) (sym more)

pub returns : goal.returns
returns c =
    let vs = c.args.ids.now in
    let i = c.loop-index.index in
    let texts = map string_bytes c.loop-index.texts.items in
    let end : i ≡ length (item_list vs) = omega (arith, c.len-count.ensures, c.loop-index-test.false, c.loop-index.auto.index-end) in
    ap (λ o. ok_or o BadRev) (c.loop-index.invariant ∙ ap (λ ws. option_map (λ rest. texts ++ rest) (path_ids ws)) (past_all vs i end) ∙ ap Some (append-nil texts))
