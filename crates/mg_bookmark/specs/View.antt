-- The place that a `Bookmark` stands for, and the one that a `BookmarkParts` stands for.
use Rattle.std.specs.Prelude.{ℕ, List, option_map, string_bytes}
use Rattle.mg_value.specs.Value.{Items, item, no_items, text}
use Rattle.mg_value.specs.View.{items_view}
use Rattle.mg_bookmark.specs.Bookmark.{RowPlace}
use Rattle.mg_bookmark.specs.declared.bookmark.Bookmark.{Bookmark}
use Rattle.mg_bookmark.specs.declared.parts.RowKey.{RowKey}
use Rattle.mg_bookmark.specs.declared.parts.RowKey.TheVariants.{Columns, Id}
use Rattle.mg_bookmark.specs.declared.parts.BookmarkParts.{BookmarkParts}

-- the place that a `Bookmark` stands for
abbrev pub bookmark_place : Bookmark → RowPlace
bookmark_place b = record { ddoc = option_map string_bytes b.ddoc; name = string_bytes b.name; direction = b.direction; key = items_view b.key.items; id = string_bytes b.id }

-- the key of a row: the values of its columns, or this id of its document as the only value
abbrev pub key_at : RowKey → List ℕ → Items
key_at (Columns columns) id = items_view columns.now
key_at Id id = item (text id) no_items

-- the place that a `BookmarkParts` stands for
abbrev pub place_at : BookmarkParts → RowPlace
place_at p = record { ddoc = option_map (λ s. s.now) p.ddoc; name = p.name.now; direction = p.direction; key = key_at p.key p.id.now; id = p.id.now }
