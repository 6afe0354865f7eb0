use Rattle.std.proofs.Common.{◌⊎◌, ◌++◌, arith}
use Rattle.std.proofs.Math.Logic.{∥∥₁_map}
use Rattle.std.proofs.lemmas.Result.{on_ok_weaker}
use Rattle.sqlite.specs.Tree.{Trees}
use Rattle.sqlite.specs.State.{HasCleanDisk}
use Rattle.sqlite.specs.Files.{file_state, HoldsDatabase}
use Rattle.sqlite.proofs.Theorems.{opens_again}
use Rattle.mg_log.specs.Header.{heading_of}
use Rattle.mg_log.specs.Entry.{entries_of}
use Rattle.mg_log.specs.Rows.{IsLogIn}
use Rattle.mg_log.proofs.file.Log+FileStore+D.append_last.Goals as goal

pub returns-clause-crash : goal.returns-clause-crash
returns-clause-crash g c clean entries log left may =
    let h = heading_of c.args.self.header in
    let quiet = rw c.into_connection.ensures at c.into_store.ensures.quiet in
    let early : HasCleanDisk (file_state c.append-result.new.self.conn) = omega (arith, quiet.clean) in
    ∥∥₁_map (opens_again c.into_store.result (c.into_store.ensures.numbered clean) (c.into_store.ensures.sound clean) left may) (λ x.
    let r : (db : Trees) × HoldsDatabase left db × (IsLogIn h entries db ⊎ IsLogIn h (entries ++ entries_of c.args.commits.now) db) =
    (x.0, x.2, rw c.append-result.ensures.header at (c.append-result.ensures.crash early entries log x.0 (quiet.outcomes x.0 x.1))) in r)

pub returns-clause-durable : goal.returns-clause-durable
returns-clause-durable g c clean entries log =
    let h = heading_of c.args.self.header in
    let quiet = rw c.into_connection.ensures at c.into_store.ensures.quiet in
    let early : HasCleanDisk (file_state c.append-result.new.self.conn) = omega (arith, quiet.clean) in
    on_ok_weaker c.append-result.result (λ durable left may. ∥∥₁_map (opens_again c.into_store.result (c.into_store.ensures.numbered clean) (c.into_store.ensures.sound clean) left may) (λ x.
    let r : (db : Trees) × HoldsDatabase left db × IsLogIn h (entries ++ entries_of c.args.commits.now) db = (x.0, x.2, rw c.append-result.ensures.header at (durable x.0 (quiet.outcomes x.0 x.1))) in r))
    (c.append-result.ensures.durable early entries log)
