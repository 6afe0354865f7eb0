use Rattle.std.proofs.Common.{◌≡◌, string_bytes, sym, ◌∙◌}
use Rattle.mg_value.specs.Text.{compact}
use Rattle.mg_live.specs.Keeping.{dropped_value}
use Rattle.mg_live.proofs.Keeping.{has_compact}
use Rattle.mg_live.proofs.record.read_dropped.Goals as goal

pub returns : goal.returns
returns c =
    let value = dropped_value (string_bytes c.in_ok-ddoc.ddoc) (string_bytes c.in_ok-ddoc.name) in
    let same : c.as_slice.result.now ≡ c.args.text.now = c.is_same.ensures cc in
    let written : c.in-Ok.again.items ≡ compact value = rw (c.as_str.ensures.value, c.as_str-2.ensures.value) at c.in-Ok.ensures in
    has_compact c.args.text.now value c.utf8.text (sym same ∙ c.as_slice.ensures.value ∙ written)
