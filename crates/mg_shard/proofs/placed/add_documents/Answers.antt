use Rattle.std.proofs.Common.{◌≡◌, List, [], ◌∷◌, sym, ap, ◌∙◌, subst}
use Rattle.std.proofs.lemmas.List.{map-append}
use Rattle.std.specs.FinMap.{get}
use Rattle.std.specs.Option.{option_or}
use Rattle.mg_pages.specs.Identified.{id_order}
use Rattle.mg_pages.specs.Order.{Ascends}
use Rattle.mg_shard.specs.Documents.{id_bytes, kept_documents}
use Rattle.mg_shard.specs.Redealt.{documents_view, last_kept}
use Rattle.mg_shard.specs.declared.document.Document.{Document}
use Rattle.mg_shard.proofs.Redealing.{left_less, none_left}
use Rattle.mg_shard.proofs.placed.add_documents.Goals as goal

pub loop-document-init : goal.loop-document-init
loop-document-init c = record {
  ascends = subst (λ (ds : List Document). Ascends (id_order id_bytes) ds) (sym (c.into_iter-document-iterator.ensures.into_iter_gives ∙ c.iter-document-items.ensures ∙ c.all.ensures.all)) c.all.ensures.ascends;
  goes_on = λ id. ap (λ (ds : List Document). option_or (get (kept_documents ds) id) (last_kept (documents_view c.args.all.now.items) id))
      (c.into_iter-document-iterator.ensures.into_iter_gives ∙ c.iter-document-items.ensures ∙ c.all.ensures.all)
      ∙ ap (λ v. option_or (get v.documents id) (last_kept (documents_view c.args.all.now.items) id)) c.shard.view_is;
}

pub loop-document-preserved : goal.loop-document-preserved
loop-document-preserved c =
    let l = c.loop-document in
    let d : Document = c.in-Some.document.now in
    let rest : List Document = c.next.new.self in
    let first : l.document-iterator ≡ d ∷ rest = c.in-Some.ensures.steps in
    let ascends : Ascends (id_order id_bytes) (d ∷ rest) = subst (λ (ds : List Document). Ascends (id_order id_bytes) ds) first l.invariant.ascends in
    record {
      ascends = ascends.1;
      goes_on = λ id.
          ap (λ (ds : List Document). option_or (get (kept_documents rest) id) (last_kept ds id)) (ap documents_view c.in_ok-push.ensures.items ∙ map-append _ l.all.items (c.in-Some.document ∷ []))
          ∙ left_less d rest (documents_view l.all.items) id ascends
          ∙ ap (λ (ds : List Document). option_or (get (kept_documents ds) id) (last_kept (documents_view l.all.items) id)) (sym first)
          ∙ l.invariant.goes_on id;
    }

pub returns : goal.returns
returns c = λ id.
    let l = c.loop-document in
    sym (none_left l.document-iterator (last_kept (documents_view l.all.items) id) id c.in-None.ensures.steps.0) ∙ l.invariant.goes_on id
