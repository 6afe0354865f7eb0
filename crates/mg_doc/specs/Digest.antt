-- The id of a new revision, after CouchDB's deterministic revision ids: an MD5 digest (RFC 1321) in lower-case hexadecimal.
use Rattle.std.specs.Prelude.{List, ℕ, Bool, Option, Some, None}
use Rattle.md5.specs.Md5.{md5}
use Rattle.hex.specs.Hex.{encode_lower}
use Rattle.mg_value.specs.Value.{Value, null, flag, text, list, item, no_items}
use Rattle.mg_value.specs.Text.{compact}
use Rattle.mg_revtree.specs.Revision.{Revision, revision_text}

-- the text of the revision that is extended, or null
abbrev pub parent_text : Option Revision → Value
parent_text None = null
parent_text (Some r) = text (revision_text r)

-- the digest of `[deleted, parent, body]` as compact text
abbrev pub digest_of : Bool → Option Revision → Value → List ℕ
digest_of deleted parent body = encode_lower (md5 (compact (list (item (flag deleted) (item (parent_text parent) (item body no_items))))))
