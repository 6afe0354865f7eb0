use Rattle.std.proofs.Common.{arith, ◌≡◌, inl, inr, drop, take, refl, length-take, subst}
use Rattle.mg_http.specs.Message.{HasHead}
use Rattle.mg_http.proofs.MessageLemmas.{has_head, rest_of_window}
use Rattle.mg_http.proofs.WindowLemmas.{refused_in_window}
use Rattle.mg_http.proofs.request.read_pending.Goals as goal

pub returns-in-Waiting-2 : goal.returns-in-Waiting-2
returns-in-Waiting-2 c =
    let full : c.min.result ≡ 16384 = omega (arith, c.min.ensures, c.if-bytes-lt-MAX_HEAD.false) in
    inl (inr (inr (omega (arith, c.if-bytes-lt-MAX_HEAD.false), rw full at c.in-Waiting.ensures, refl, refl)))

pub returns-in-Refused : goal.returns-in-Refused
returns-in-Refused c =
    refused_in_window c.args.db.now c.args.bytes.now c.min.result c.in-Refused.refusal c.in-Refused.omits_body c.min.ensures c.in-Refused.ensures

pub returns-in-Head : goal.returns-in-Head
returns-in-Head c =
    let k = c.min.result in
    let bytes = c.args.bytes.now in
    let read = c.in-Head.ensures in
    let rest = rest_of_window bytes k c.in-Head.framed.head_len read.0 in
    let has = has_head bytes k read.2 (drop c.in-Head.framed.head_len (take k bytes)) (omega (arith, c.min.ensures)) read.3 in
    (omega (arith, read.0, length-take k bytes), read.1, read.2, subst (HasHead bytes read.2) rest has, read.4)
