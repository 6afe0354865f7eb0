use denote.Ref.{Bor}
use Rattle.std.proofs.Common.{List, ◌∙◌, subst}
use Rattle.mg_index.specs.Definition.{IndexDefinition}
use Rattle.mg_shard.specs.Index.{definitions_of}
use Rattle.mg_shard.specs.Redealt.{ArePlaces, AreRedealt, documents_in, documents_view}
use Rattle.mg_shard.specs.Shard.{ShardView, shards_view}
use Rattle.mg_shard.specs.declared.document.Document.{Document}
use Rattle.mg_shard.proofs.Redealing.{all_dealt, as_many, made_definitions, redealt_stand, same_definitions}
use Rattle.mg_shard.proofs.Together.{seen_length}
use Rattle.mg_shard.proofs.redealt.deal.Goals as goal

pub returns-clause-number : goal.returns-clause-number
returns-clause-number g c =
    let ds : List (Bor Document) = c.in_ok-documents.documents.items in
    as_many (g.P.Placement.place c.args.placement.now) c.args.count (documents_view ds) c.in_ok-places.places.items
    (subst (λ (xs : List (Bor Document)). ArePlaces (g.P.Placement.place c.args.placement.now) c.args.count (documents_view xs) c.in_ok-places.places.items) c.deref.ensures.value c.in_ok-places.ensures)
    ∙ seen_length ds

pub returns-clause-dealt : goal.returns-clause-dealt
returns-clause-dealt g c = λ made long all.
    let place = g.P.Placement.place c.args.placement.now in
    let ds : List (Bor Document) = c.in_ok-documents.documents.items in
    let places = c.in_ok-places.places.items in
    let those : List IndexDefinition = definitions_of c.in_ok-indexes.indexes.items in
    let from : List ShardView = shards_view c.args.shards.now in
    let dealt : AreRedealt place (documents_in from) (documents_in made) =
    all_dealt place c.args.count (documents_view ds) places those (documents_in from) made
    c.in_ok-documents.ensures
    (subst (λ (xs : List (Bor Document)). ArePlaces place c.args.count (documents_view xs) places) c.deref.ensures.value c.in_ok-places.ensures)
    long all in
    record {
      number = long;
      documents = dealt;
      stands = λ before hs st. redealt_stand before place from made hs dealt st;
      first = λ k d l. made_definitions (documents_view ds) places those made all k d l ∙ c.in_ok-indexes.ensures.first;
      indexes = λ all_ds some same k d l.
          made_definitions (documents_view ds) places those made all k d l ∙ c.in_ok-indexes.ensures.first ∙ same_definitions from all_ds some same;
    }
