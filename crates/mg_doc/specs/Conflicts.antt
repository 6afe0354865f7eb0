-- A document shown with its conflicts, after `conflicts` of CouchDB's `GET` and `_find`: the revisions of its losers, best first.
use Rattle.std.specs.Prelude.{List, [], ◌∷◌, codes, map}
use Rattle.mg_value.specs.Value.{Value, text, list, with_member}
use Rattle.mg_value.specs.View.{items_of}
use Rattle.mg_revtree.specs.History.{Paths, Leaf}
use Rattle.mg_revtree.specs.Losers.{losers_of}
use Rattle.mg_revtree.specs.Revision.{revision_text}

-- the revision of a leaf as a text
abbrev pub leaf_text : Leaf → Value
leaf_text l = text (revision_text l.rev)

-- a document with `_conflicts`, the revisions of these leaves; without leaves, the document as it is
abbrev pub with_losers : List Leaf → Value → Value
with_losers [] v = v
with_losers (l ∷ ls) v = with_member (codes "_conflicts") (list (items_of (map leaf_text (l ∷ ls)))) v

-- a document with the conflicts of this history; a value that is not an object stays as it is
abbrev pub with_conflicts_of : Paths → Value → Value
with_conflicts_of h v = with_losers (losers_of h) v
