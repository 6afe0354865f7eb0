-- Shards may cross threads.
use denote.Param.Send.{IsSend, IsSync, sendable}
use Rattle.std.proofs.Crossing.{crosses, send as heap_send, sync as heap_sync}
use Rattle.std.proofs.MapsCrossing.{crosses as maps}
use Rattle.mg_index.proofs.definition.IndexDef.TheSendSync as definition
use Rattle.mg_packed.proofs.packed.Packed.TheSendSync as packed
use Rattle.mg_pages.proofs.element.Shared.TheSendSync as element
use Rattle.mg_pages.proofs.Crossing.{pages_send, pages_sync}
use Rattle.mg_revtree.specs.contracts.body.Block as Block
use Rattle.mg_revtree.specs.contracts.body.Body as Body
use Rattle.mg_revtree.specs.contracts.form.Form as Form
use Rattle.mg_revtree.specs.contracts.grown.Grown as Grown
use Rattle.mg_revtree.specs.contracts.growth.Growth as Growth
use Rattle.mg_revtree.specs.contracts.leaf.Leaf as Leaf
use Rattle.mg_revtree.specs.contracts.leaf.SharedLeaf as Shared
use Rattle.mg_revtree.specs.contracts.pair.Pair as Pair
use Rattle.mg_revtree.specs.contracts.tree.RevTree as RevTree
use Rattle.mg_revtree.proofs.links.list.Links.TheSendSync as links
use Rattle.mg_revtree.proofs.revision.Rev.TheSendSync as revision
use Rattle.mg_rows.proofs.row.RowBytes.TheSendSync as row
use Rattle.mg_shard.specs.contracts.document.Document as Document
use Rattle.mg_shard.specs.contracts.document_pages.DocumentPages as DocumentPages
use Rattle.mg_shard.specs.contracts.index_entry.IndexEntry as IndexEntry
use Rattle.mg_shard.specs.contracts.served.Served as Served
use Rattle.mg_shard.specs.contracts.shard.Shard as Shard

pub form_send : IsSend Form.the_row
form_send = search (sendable, crosses, maps, packed.the_send, packed.the_sync) depth 40

pub form_sync : IsSync Form.the_row
form_sync = search (sendable, crosses, maps, packed.the_send, packed.the_sync) depth 40

pub block_send : IsSend Block.the_row
block_send = search (sendable, crosses, maps, packed.the_send, form_send) depth 40

pub block_sync : IsSync Block.the_row
block_sync = search (sendable, crosses, maps, packed.the_sync, form_sync) depth 40

pub body_send : IsSend Body.the_row
body_send = search (sendable, crosses, maps, block_send) depth 40

pub body_sync : IsSync Body.the_row
body_sync = search (sendable, crosses, maps, block_sync) depth 40

pub leaf_send : IsSend Leaf.the_row
leaf_send = search (sendable, crosses, maps, body_send, revision.the_send) depth 40

pub leaf_sync : IsSync Leaf.the_row
leaf_sync = search (sendable, crosses, maps, body_sync, revision.the_sync) depth 40

pub shared_send : IsSend Shared.the_row
shared_send = search (sendable, crosses, maps, leaf_send, leaf_sync) depth 40

pub shared_sync : IsSync Shared.the_row
shared_sync = search (sendable, crosses, maps, leaf_send, leaf_sync) depth 40

pub grown_send : IsSend Grown.the_row
grown_send = search (sendable, crosses, maps, shared_send, links.the_send, links.the_sync) depth 40

pub grown_sync : IsSync Grown.the_row
grown_sync = search (sendable, crosses, maps, shared_sync, links.the_send, links.the_sync) depth 40

pub pair_send : IsSend Pair.the_row
pair_send = search (sendable, crosses, maps, shared_send) depth 40

pub pair_sync : IsSync Pair.the_row
pair_sync = search (sendable, crosses, maps, shared_sync) depth 40

pub growth_send : IsSend Growth.the_row
growth_send = search (sendable, crosses, maps, grown_send, pair_send, shared_send, links.the_send, links.the_sync) depth 40

pub growth_sync : IsSync Growth.the_row
growth_sync = search (sendable, crosses, maps, grown_sync, pair_sync, shared_sync, links.the_send, links.the_sync) depth 40

pub tree_send : IsSend RevTree.the_row
tree_send = search (sendable, crosses, maps, heap_send, growth_send, shared_send, shared_sync, links.the_send, links.the_sync) depth 40 fits 50000

pub tree_sync : IsSync RevTree.the_row
tree_sync = search (sendable, crosses, maps, heap_sync, growth_sync, shared_send, shared_sync, links.the_send, links.the_sync) depth 40 fits 50000

pub served_send : IsSend Served.the_row
served_send = search (sendable, crosses, maps, form_send) depth 40

pub served_sync : IsSync Served.the_row
served_sync = search (sendable, crosses, maps, form_sync) depth 40

pub document_send : IsSend Document.the_row
document_send = search (sendable, crosses, maps, tree_send, tree_sync, served_send, served_sync) depth 40

pub document_sync : IsSync Document.the_row
document_sync = search (sendable, crosses, maps, tree_send, tree_sync, served_send, served_sync) depth 40

pub index_send : IsSend IndexEntry.the_row
index_send = search (sendable, crosses, maps, row.the_send, row.the_sync, definition.the_send, definition.the_sync, pages_send, pages_sync) depth 40

pub index_sync : IsSync IndexEntry.the_row
index_sync = search (sendable, crosses, maps, row.the_send, row.the_sync, definition.the_send, definition.the_sync, pages_send, pages_sync) depth 40

pub documents_send : IsSend DocumentPages.the_row
documents_send = search (sendable, crosses, maps, document_send, document_sync, element.the_send, element.the_sync, pages_send, pages_sync) depth 40

pub documents_sync : IsSync DocumentPages.the_row
documents_sync = search (sendable, crosses, maps, document_send, document_sync, element.the_send, element.the_sync, pages_send, pages_sync) depth 40

pub shard_send : IsSend Shard.the_row
shard_send = search (sendable, crosses, maps, documents_send, documents_sync, element.the_send, element.the_sync, index_send, index_sync, pages_send, pages_sync) depth 40

pub shard_sync : IsSync Shard.the_row
shard_sync = search (sendable, crosses, maps, documents_send, documents_sync, element.the_send, element.the_sync, index_send, index_sync, pages_send, pages_sync) depth 40
