use Rattle.std.proofs.Common.{◌≡◌, length, map}
use Rattle.mangod.proofs.seats.services.Given as goal

-- so far there is a service for each seat, with this number of workers
abbrev pub invariant-loop-seat : goal.invariant-loop-seat
invariant-loop-seat g l = record {
  count : length l.services.items ≡ length l.yielded;
  seats : map (λ service. service.seat) l.services.items ≡ l.yielded;
  workers : map (λ service. service.workers) l.services.items ≡ map (λ _. l.workers) l.yielded;
}
