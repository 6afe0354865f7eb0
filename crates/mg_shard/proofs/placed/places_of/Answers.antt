use Rattle.std.proofs.Common.{◌≡◌, ◌+◌, List, [], ◌∷◌, ◌++◌, arith, length, take, sym, ap, ◌∙◌, subst, add-one}
use Rattle.std.proofs.Math.Seq.{take-length}
use Rattle.std.proofs.lemmas.List.{map-append}
use Rattle.mg_shard.specs.Documents.{id_bytes}
use Rattle.mg_shard.specs.Redealt.{ArePlaces, documents_view}
use Rattle.mg_shard.specs.declared.document.Document.{Document}
use Rattle.mg_shard.proofs.Redealing.{place_more, take_one}
use Rattle.mg_shard.proofs.placed.places_of.Goals as goal

pub loop-document-preserved : goal.loop-document-preserved
loop-document-preserved g c =
    let l = c.loop-document in
    let place = g.P.Placement.place c.args.placement.now in
    let n = c.args.count in
    let xs = c.args.documents.now in
    let x = c.document-item.result in
    let d : Document = x.now in
    let more : documents_view (take (l.document-index + 1) xs) ≡ documents_view (take l.document-index xs) ++ d ∷ [] =
    ap (λ k. documents_view (take k xs)) (add-one l.document-index) ∙ ap documents_view (take_one xs l.document-index x c.loop-document-test.true c.document-item.is)
    ∙ map-append _ (take l.document-index xs) (x ∷ []) in
    let is : c.shard_of.result ≡ place (id_bytes d) n = cc in
    subst (λ ps. ArePlaces place n (documents_view (take (l.document-index + 1) xs)) ps) (sym c.in_ok-push.ensures.items)
    (subst (λ (ds : List Document). ArePlaces place n ds (l.places.items ++ c.shard_of.result ∷ [])) (sym more)
    (place_more place n (documents_view (take l.document-index xs)) l.places.items d c.shard_of.result l.invariant (is, c.shard_of.ensures.below)))

pub returns : goal.returns
returns g c =
    let l = c.loop-document in
    let place = g.P.Placement.place c.args.placement.now in
    let xs = c.args.documents.now in
    let over : l.document-index ≡ length xs = omega (arith, l.auto.document-index-end, c.loop-document-test.false) in
    subst (λ ys. ArePlaces place c.args.count (documents_view ys) l.places.items) (ap (λ k. take k xs) over ∙ take-length xs) l.invariant
