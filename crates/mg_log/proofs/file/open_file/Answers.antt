use Rattle.std.proofs.Common.{subst, sym, arith}
use Rattle.sqlite.specs.State.{HasCleanDisk}
use Rattle.sqlite.specs.Files.{file_state}
use Rattle.mg_log.specs.Rows.{IsLogIn}
use Rattle.mg_log.proofs.file.open_file.Goals as goal

pub returns-in-Ok-open-clause-found : goal.returns-in-Ok-open-clause-found
returns-in-Ok-open-clause-found g c clean db h entries holds held =
    let early : HasCleanDisk (file_state c.in-Ok.conn) = omega (arith, c.in-Ok-open.ensures.crash.clean) in
    c.in-Ok-open.ensures.found clean h entries (subst (IsLogIn h entries) (sym ((c.in-Ok.ensures.found early).holds db holds)) held)
