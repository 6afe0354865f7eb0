use Rattle.std.proofs.Common.{◌+◌, ◌*◌, length}
use Rattle.mg_path.proofs.projection.+place.Given as goal

abbrev pub decreases-place : goal.decreases-place
decreases-place l = 2 * length l.steps.now

abbrev pub decreases-place_member : goal.decreases-place_member
decreases-place_member l = 2 * length l.deeper.now + 1
