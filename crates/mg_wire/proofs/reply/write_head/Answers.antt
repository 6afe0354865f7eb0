use Rattle.std.proofs.Common.{◌≡◌, ℕ, [], length, ap, subst, arith}
use Rattle.http1.specs.Head.{pairs}
use Rattle.http1.specs.Conn.{finish_text}
use Rattle.http1.specs.Server.{writing}
use Rattle.mg_wire.specs.Reply.{Heads}
use Rattle.mg_wire.proofs.ReplyLemmas.{heads, MayReply, not_refused_as, head_fits_as, writes_as, not_too_long, bare_frame, not_too_short, end_fits, no_failure, no_frame_failure, own_fields}
use Rattle.mg_wire.proofs.reply.write_head.Goals as goal

pub unreachable-requires : goal.unreachable-requires
unreachable-requires c =
    let m : MayReply c.args.server.now c.args.status c.args.content_len c.args.sent (pairs c.args.fields.now) =
    record { awaits = c.requires.awaits; no_tunnel = c.requires.no_tunnel; minor = c.requires.minor; sendable = c.requires.sendable; short = c.requires.short; small = c.ranges.content_len.fits; content = c.requires.content; is_sent = c.requires.sent } in
    let none = not_refused_as _ c.args.status _ _ _ m _ _ _ c.code.ensures c.reason.ensures c.size_for-size.ensures in
    let fits = head_fits_as _ c.args.status _ _ _ m _ _ _ c.code.ensures c.reason.ensures c.size_for-size.ensures in
    no_failure _ _ _ _ _ none c.in-Err.ensures.outcome (omega (arith, fits, c.requires.room)) fits

pub unreachable-requires-in-Err-frame_data : goal.unreachable-requires-in-Err-frame_data
unreachable-requires-in-Err-frame_data c =
    let m : MayReply c.args.server.now c.args.status c.args.content_len c.args.sent (pairs c.args.fields.now) =
    record { awaits = c.requires.awaits; no_tunnel = c.requires.no_tunnel; minor = c.requires.minor; sendable = c.requires.sendable; short = c.requires.short; small = c.ranges.content_len.fits; content = c.requires.content; is_sent = c.requires.sent } in
    let body = writes_as _ c.args.status _ _ _ m _ _ _ c.code.ensures c.reason.ensures c.size_for-size.ensures c.write_response.new.self c.in-Ok.ensures.next in
    no_frame_failure _ _ _ (not_too_long _ c.args.status _ _ _ m c.write_response.new.self body) c.in-Err-frame_data.ensures.outcome

pub unreachable-requires-in-Err-write_end : goal.unreachable-requires-in-Err-write_end
unreachable-requires-in-Err-write_end c =
    let m : MayReply c.args.server.now c.args.status c.args.content_len c.args.sent (pairs c.args.fields.now) =
    record { awaits = c.requires.awaits; no_tunnel = c.requires.no_tunnel; minor = c.requires.minor; sendable = c.requires.sendable; short = c.requires.short; small = c.ranges.content_len.fits; content = c.requires.content; is_sent = c.requires.sent } in
    let body = writes_as _ c.args.status _ _ _ m _ _ _ c.code.ensures c.reason.ensures c.size_for-size.ensures c.write_response.new.self c.in-Ok.ensures.next in
    let none = not_too_short _ c.args.status _ _ _ m c.write_response.new.self c.frame_data.new.self body c.in-Ok-frame_data.ensures.counted in
    let empty : length (finish_text (writing c.frame_data.new.self) []) ≡ 0 =
    ap length (end_fits _ c.args.status _ _ _ m c.write_response.new.self c.frame_data.new.self body c.in-Ok-frame_data.ensures.counted) in
    no_failure _ _ _ _ _ none c.in-Err-write_end.ensures.outcome (omega (arith, empty)) (omega (arith, empty))

pub returns : goal.returns
returns c =
    let m : MayReply c.args.server.now c.args.status c.args.content_len c.args.sent (pairs c.args.fields.now) =
    record { awaits = c.requires.awaits; no_tunnel = c.requires.no_tunnel; minor = c.requires.minor; sendable = c.requires.sendable; short = c.requires.short; small = c.ranges.content_len.fits; content = c.requires.content; is_sent = c.requires.sent } in
    let body = writes_as _ c.args.status _ _ _ m _ _ _ c.code.ensures c.reason.ensures c.size_for-size.ensures c.write_response.new.self c.in-Ok.ensures.next in
    subst (λ (k : ℕ). Heads c.args.server.now k (pairs c.args.fields.now) c.args.content_len c.args.sent c.args.output.now.items c.write_end.new.output.items c.write_end.new.self) c.code.ensures
    (heads c.args.server.now c.write_response.new.self c.frame_data.new.self c.write_end.new.self c.code.result c.args.content_len c.args.sent _ c.reason.result.now c.args.output.now.items c.write_response.new.output.items c.write_end.new.output.items
    c.size_for-size.result _ _ _ _ _ _ c.size_for-size.ensures c.in-Ok.ensures.outcome c.in-Ok.ensures.ok c.in-Ok.ensures.next c.in-Ok-frame_data.ensures.outcome
    (bare_frame _ c.args.status _ _ _ m c.write_response.new.self body) c.in-Ok-frame_data.ensures.counted c.in-Ok-write_end.ensures.outcome c.in-Ok-write_end.ensures.ok c.in-Ok-write_end.ensures.done c.ranges.sent.fits (own_fields _ c.args.status _ _ _ m c.code.result c.code.ensures))
