-- How the program ends: its exit status (0 is success, as in POSIX), and its line on standard error (empty: no line). The lines are this
-- project's own.
use Rattle.std.specs.Prelude.{ℕ, List, [], codes}
use Rattle.mg_http.specs.declared.sessions.SessionEnd.{SessionEnd}
use Rattle.mg_http.specs.declared.sessions.SessionEnd.TheVariants.{Eof, Closed, Refused, ReadFault, WriteFault, Limit}

-- an exit status and a line
pub record Exit : Type 0 where
  pub status : ℕ
  pub line : List ℕ

-- the exit after a session: status 0 if the input ended or the last message closed the session, otherwise 1
abbrev pub exit_of : SessionEnd → Exit
exit_of Eof = record { status = 0; line = [] }
exit_of Closed = record { status = 0; line = [] }
exit_of Refused = record { status = 1; line = codes "mangod: refused" }
exit_of ReadFault = record { status = 1; line = codes "mangod: read fault" }
exit_of WriteFault = record { status = 1; line = codes "mangod: write fault" }
exit_of Limit = record { status = 1; line = codes "mangod: limit" }

-- the arguments are wrong
abbrev pub wrong_arguments : Exit
wrong_arguments = record { status = 2; line = codes "mangod: usage: mangod DB SHARDS WORKERS SESSIONS ADDR" }

-- memory ran out at the start, or after the last session
abbrev pub no_memory : Exit
no_memory = record { status = 1; line = codes "mangod: out of memory" }

-- the program cannot listen at the address, or cannot watch the socket for another reason than memory
abbrev pub cannot_listen : Exit
cannot_listen = record { status = 1; line = codes "mangod: cannot listen" }

-- the listener or the poll failed: no more clients can be served
abbrev pub stopped : Exit
stopped = record { status = 1; line = [] }
