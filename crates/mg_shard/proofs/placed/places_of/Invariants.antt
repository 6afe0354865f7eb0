use Rattle.std.proofs.Common.{take}
use Rattle.mg_shard.specs.Redealt.{ArePlaces, documents_view}
use Rattle.mg_shard.proofs.placed.places_of.Given as goal

-- the places of the documents so far
abbrev pub invariant-loop-document : goal.invariant-loop-document
invariant-loop-document g l = ArePlaces (g.P.Placement.place l.placement) l.count (documents_view (take l.document-index l.documents)) l.places.items
