use Rattle.std.proofs.Common.{◌≡◌, ℕ, List, arith, sym, ap, ◌∙◌, true, nat_le, nat_lt, ◌&&◌, refl, [], Bor}
use Rattle.std.proofs.lemmas.Bool.{cond-true}
use Rattle.std.proofs.lemmas.Bool.Decides.{nat_tests}
use Rattle.http.specs.StatusCode.{reason_phrase}
use Rattle.mg_http.proofs.ReplyLemmas.{found_or_nothing}
use Rattle.mg_http.proofs.sessions.reply.phrase.Goals as goal

pub returns-in-Ok : goal.returns-in-Ok
returns-in-Ok c =
    let test : (nat_le 100 c.args.status && nat_lt c.args.status 1000) ≡ true = grind (arith, nat_tests) in
    let found = found_or_nothing (λ (s : Bor (List ℕ)). s.now) c.canonical_reason.result _ (reason_phrase c.args.status) []
    (c.canonical_reason.ensures.value ∙ ap reason_phrase c.in-Ok.ensures.1) refl in
    ap (λ (s : Bor (List ℕ)). s.now) c.unwrap_or.ensures ∙ found ∙ sym (cond-true _ _ _ test)
