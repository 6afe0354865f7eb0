use Rattle.std.proofs.Common.{◌≡◌, map}
use Rattle.mangod.proofs.seats.seats.Given as goal

-- so far there is the seat of each service
abbrev pub invariant-loop-service : goal.invariant-loop-service
invariant-loop-service g l = l.seats.items ≡ map (λ service. service.seat) l.yielded
