-- What the errors of the database mean for a log.
use Rattle.std.specs.Prelude.{⊤}
use Rattle.sqlite.specs.declared.error.Error.{Error}
use Rattle.sqlite.specs.declared.error.Error.TheVariants.{SqliteFailure}
use Rattle.sqlite.specs.declared.error.ErrorCode.TheVariants as code
use Rattle.mg_log.specs.declared.error.OpenError.{OpenError}
use Rattle.mg_log.specs.declared.error.OpenError.TheVariants as opening
use Rattle.mg_log.specs.declared.error.AppendError.{AppendError}
use Rattle.mg_log.specs.declared.error.AppendError.TheVariants as appending

-- why an open is refused, by the error of the database
abbrev pub refusal_of : Error → OpenError
refusal_of (SqliteFailure code.OutOfMemory) = opening.NoMemory
refusal_of (SqliteFailure code.DatabaseBusy) = opening.Held
refusal_of (SqliteFailure code.DatabaseCorrupt) = opening.Damaged
refusal_of (SqliteFailure code.NotADatabase) = opening.Damaged
refusal_of (SqliteFailure other) = opening.Storage (SqliteFailure other)
refusal_of _ = opening.Damaged

-- what an append answers for an error before its commit
abbrev pub failure_of : Error → AppendError
failure_of (SqliteFailure code.OutOfMemory) = appending.NoMemory
failure_of error = appending.Storage error

-- The memory or the storage failed.
abbrev pub IsFailure : AppendError → Type 0
IsFailure appending.NoMemory = ⊤
IsFailure (appending.Storage error) = ⊤
IsFailure _ = ⊥

-- The storage failed.
abbrev pub IsStorageFailure : AppendError → Type 0
IsStorageFailure (appending.Storage error) = ⊤
IsStorageFailure _ = ⊥
