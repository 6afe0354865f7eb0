-- The length of a digest.
use Rattle.std.proofs.Common.{◌≡◌, ℕ, ◌*◌, Bool, List, Option, length, ap, refl, ◌∙◌}
use Rattle.hex.proofs.HexLemmas.{length-encode_with}
use Rattle.hex.specs.Hex.{lower_digits}
use Rattle.md5.specs.Md5.{md5, digest_bytes}
use Rattle.mg_value.specs.Value.{Value, flag, item, list, no_items}
use Rattle.mg_value.specs.Text.{compact}
use Rattle.mg_revtree.specs.Revision.{Revision}
use Rattle.mg_doc.specs.Digest.{digest_of, parent_text}

length-md5 : (m : List ℕ) → length (md5 m) ≡ 16
unfolding md5 digest_bytes
length-md5 m = refl

-- the id of a new revision has 32 bytes
pub length-digest : (deleted : Bool) (parent : Option Revision) (body : Value) → length (digest_of deleted parent body) ≡ 32
length-digest deleted parent body =
    let m = compact (list (item (flag deleted) (item (parent_text parent) (item body no_items)))) in
    length-encode_with lower_digits (md5 m) ∙ ap (λ n. 2 * n) (length-md5 m)
