use Rattle.std.proofs.Common.{sym, ap, ◌∙◌}
use Rattle.mg_http.specs.TargetScan.{is_method_and_target}
use Rattle.std.proofs.Common.{false}
use Rattle.mg_http.proofs.TargetScanLemmas.{in_target, seen_in_target}
use Rattle.mg_http.proofs.request.unfinished.ends_in_target.Goals as goal

pub returns : goal.returns
returns c =
    let is = c.is_method_and_target.ensures ∙ ap (is_method_and_target false) c.skip_blank.ensures in
    (λ yes. in_target c.args.bytes.now (sym is ∙ yes), λ ends. is ∙ seen_in_target c.args.bytes.now ends)
