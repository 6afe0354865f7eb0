-- A log in two files: the database and its write-ahead log.
use Rattle.std.specs.Prelude.{◌⊎◌, List}
use Rattle.sqlite.specs.Tree.{Trees}
use Rattle.sqlite.specs.Files.{HoldsDatabase}
use Rattle.sqlite.specs.Recovery.{Image}
use Rattle.mg_log.specs.Header.{Heading}
use Rattle.mg_log.specs.Entry.{Entry}
use Rattle.mg_log.specs.Rows.{IsLogIn}

-- The files hold the log with this header and these commits: an open of them finds it.
abbrev pub HoldsLog : Heading → List Entry → Image → Type 0
HoldsLog h entries left = ∥ ((db : Trees) × HoldsDatabase left db × IsLogIn h entries db) ∥₁

-- The files hold the log with this header and one of these two lists.
abbrev pub HoldsEither : Heading → List Entry → List Entry → Image → Type 0
HoldsEither h before after left = ∥ ((db : Trees) × HoldsDatabase left db × (IsLogIn h before db ⊎ IsLogIn h after db)) ∥₁
