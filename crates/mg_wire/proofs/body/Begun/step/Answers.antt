use Rattle.std.proofs.Common.{refl, inr, arith, ap, List, ℕ, ◌∙◌, ◌++◌}
use Rattle.std.proofs.lemmas.Grind.{common_steps}
use Rattle.mg_wire.proofs.BodyLemmas.{data_read, end_read, wait_read, same_head, body_refused, piece_too_large}
use Rattle.mg_wire.proofs.ReadyLemmas.{ready_begun, ready_read}
use Rattle.mg_wire.proofs.StartLemmas.{begins_begun}
use Rattle.mg_wire.proofs.body.Begun.step.Goals as goal

pub returns-in-Ok-extend_from_slice-clause-read : goal.returns-in-Ok-extend_from_slice-clause-read
returns-in-Ok-extend_from_slice-clause-read c = λ b.
    data_read c.args.bounds c.args.input.now c.args.self.now _ b (same_head _ _ refl refl refl refl refl) c.read.new.headers c.in-Ok.read _ (grind (arith, common_steps)) c.in-Ok.ensures.ok refl c.in-Data.piece c.in-Data.is
    (c.in-Ok-extend_from_slice.ensures.items ∙ ap (λ (piece : List ℕ). c.args.self.now.request.body.items ++ piece) c.of-piece.ensures) (grind (arith, common_steps))

pub returns-in-End-clause-read : goal.returns-in-End-clause-read
returns-in-End-clause-read c = λ b.
    end_read c.args.bounds c.args.input.now c.args.self.now _ b (same_head _ _ refl refl refl refl refl) c.read.new.headers c.in-Ok.read _ (grind (arith, common_steps)) c.in-Ok.ensures.ok refl c.in-End.field-0 c.in-End.is c.in-Ok.ensures.consumed refl

pub returns-in_default-event-clause-read : goal.returns-in_default-event-clause-read
returns-in_default-event-clause-read c = λ b.
    wait_read c.args.bounds c.args.input.now c.args.self.now _ b (same_head _ _ refl refl refl refl refl) c.read.new.headers c.in-Ok.read _ (grind (arith, common_steps)) c.in-Ok.ensures.ok refl c.in_default-event.not-Data c.in_default-event.not-End refl

pub returns-in-Err-clause-refused : goal.returns-in-Err-clause-refused
returns-in-Err-clause-refused c = λ ended starved b.
    inr (body_refused c.args.bounds c.args.input.now c.args.self.now b _ _ c.in-Err.error (grind (arith, common_steps)) refl c.in-Err.ensures.err)

pub returns-in-Err-extend_from_slice-clause-refused : goal.returns-in-Err-extend_from_slice-clause-refused
returns-in-Err-extend_from_slice-clause-refused c = λ ended starved b. inr (begins_begun c.args.bounds c.args.input.now c.args.self.now b)

pub returns-then-piece-saturating_sub-clause-refused : goal.returns-then-piece-saturating_sub-clause-refused
returns-then-piece-saturating_sub-clause-refused c = λ ended starved b.
    piece_too_large c.args.bounds c.args.input.now c.args.self.now b c.read.new.headers c.read.new.self c.in-Ok.read _ c.in-Data.piece c.args.bounds.max_body
    (grind (arith, common_steps)) c.in-Ok.ensures.ok c.in-Data.is (grind (arith, common_steps))

pub invariant_of-self-in_default-event : goal.invariant_of-self-in_default-event
invariant_of-self-in_default-event c =
    let ready = ready_read _ c.args.self.now.server c.read.new.self _ _ c.in-Ok.read (ready_begun c.args.self.now) c.in-Ok.ensures.ok in
    record { awaits = ready.awaits; no_tunnel = ready.no_tunnel; same_method = ready.same_method; minor = ready.minor }
