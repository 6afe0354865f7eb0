use Rattle.std.proofs.Common.{◌≡◌, string_bytes, rules, subst, sym}
use Rattle.mg_value.specs.Text.{Reads}
use Rattle.mg_value.specs.View.{view}
use Rattle.mg_log.specs.Header.{IsHeaderText}
use Rattle.mg_log.proofs.header.new_text.Goals as goal

pub returns-in-Ok : goal.returns-in-Ok
returns-in-Ok c =
    let same : string_bytes c.in-Ok.text ≡ c.in_ok-bytes.bytes.items = search rules in
    record {
      value = view c.in_ok-value.value;
      reads = subst (λ b. Reads b (view c.in_ok-value.value)) (sym same) (c.in_ok-bytes.ensures.reads_back c.in_ok-value.ensures.depth);
      says = c.in_ok-value.ensures.says;
    }
