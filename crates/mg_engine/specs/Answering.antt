-- For private clauses: whether the body or the refusal that a call returned gives the answer of the definitions.
use Rattle.std.specs.Prelude.{◌≡◌, ℕ, Result, Ok, Err}
use Rattle.std.specs.declared.alloc.Global.{Global}
use Rattle.std.specs.declared.vec.Vec.{Vec}
use Rattle.mg_engine.specs.Commands.{Answer, refused}
use Rattle.mg_engine.specs.declared.fault.Fault.{Fault}
use Rattle.mg_engine.specs.declared.fault.Fault.TheVariants.{Refused, NoMemory}

-- the body, with status 200, or the refusal gives this answer; true also where memory was refused
abbrev pub MakesAnswer : Result (Vec ℕ Global) Fault → Answer → Type 0
MakesAnswer (Ok body) a = a ≡ record { status = 200; body = body.items }
MakesAnswer (Err (Refused x)) a = a ≡ refused x
MakesAnswer (Err NoMemory) a = Unit {0}
