use Rattle.std.proofs.Common.{subst, refl, inl, inr}
use Rattle.http1.specs.declared.server.Server.{Server}
use Rattle.http1.specs.Server.{ServerReads, ServerRefuses}
use Rattle.mg_wire.proofs.StartLemmas.{takes, begins_taken, line_refused, line_proper, begun, no_head_yet, head_refused}
use Rattle.mg_wire.proofs.start.begin.Goals as goal

pub returns-in-Ok-request_at-clause-read : goal.returns-in-Ok-request_at-clause-read
returns-in-Ok-request_at-clause-read c =
    let found = subst (λ (s : Server). ServerReads s c.args.input.now c.read.new.headers c.read.new.self c.in-Ok.read) c.new-server.ensures c.in-Ok.ensures.ok in
    let t = takes c.args.bounds.limits c.args.input.now c.read.new.headers c.read.new.self c.in-Ok.read c.in-Head.head found c.in-Head.is in
    begun c.args.bounds c.args.input.now c.read.new.headers c.read.new.self c.in-Ok.read.consumed c.in-Head.head t _ refl refl c.expects_continue-waits.ensures
    c.in-Ok.ensures.consumed c.in-Ok-request_at.ensures
    (line_proper c.args.bounds c.args.input.now c.read.new.headers c.read.new.self c.in-Ok.read.consumed c.in-Head.head t _ _ c.of-method.ensures c.of-target.ensures c.in-None.ensures)

pub returns-in-Some-clause-refused : goal.returns-in-Some-clause-refused
returns-in-Some-clause-refused c = λ ended starved.
    let found = subst (λ (s : Server). ServerReads s c.args.input.now c.read.new.headers c.read.new.self c.in-Ok.read) c.new-server.ensures c.in-Ok.ensures.ok in
    let t = takes c.args.bounds.limits c.args.input.now c.read.new.headers c.read.new.self c.in-Ok.read c.in-Head.head found c.in-Head.is in
    line_refused c.args.bounds c.args.input.now c.read.new.headers c.read.new.self c.in-Ok.read.consumed c.in-Head.head t _ _ c.of-method.ensures c.of-target.ensures
    c.in-Some.refusal c.in-Some.ensures ended starved

pub returns-in-Err-request_at-clause-refused : goal.returns-in-Err-request_at-clause-refused
returns-in-Err-request_at-clause-refused c = λ ended starved.
    let found = subst (λ (s : Server). ServerReads s c.args.input.now c.read.new.headers c.read.new.self c.in-Ok.read) c.new-server.ensures c.in-Ok.ensures.ok in
    inr (begins_taken c.args.bounds c.args.input.now c.read.new.headers c.read.new.self c.in-Ok.read.consumed c.in-Head.head
    (takes c.args.bounds.limits c.args.input.now c.read.new.headers c.read.new.self c.in-Ok.read c.in-Head.head found c.in-Head.is))

pub returns-in_default-clause-read : goal.returns-in_default-clause-read
returns-in_default-clause-read c =
    let found = subst (λ (s : Server). ServerReads s c.args.input.now c.read.new.headers c.read.new.self c.in-Ok.read) c.new-server.ensures c.in-Ok.ensures.ok in
    no_head_yet c.args.bounds.limits c.args.input.now c.read.new.headers c.read.new.self c.in-Ok.read found c.in_default.not-Head

pub returns-in-Err-clause-refused : goal.returns-in-Err-clause-refused
returns-in-Err-clause-refused c = λ ended starved.
    inl (head_refused c.args.bounds.limits c.args.input.now _ c.in-Err.error refl (subst (λ (s : Server). ServerRefuses s c.args.input.now _ c.in-Err.error) c.new-server.ensures c.in-Err.ensures.err))
