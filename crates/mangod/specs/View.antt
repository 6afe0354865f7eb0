-- What the settings and the exits of the code stand for.
use Rattle.mangod.specs.Arguments.{Settings}
use Rattle.mangod.specs.Exits.{Exit}
use Rattle.mangod.specs.declared.config.Settings as code
use Rattle.mangod.specs.declared.ends.Exit as code_exit

-- the settings that a `Settings` stands for
abbrev pub settings_view : code.Settings → Settings
settings_view s = record { db = s.db.now; shards = s.shards; workers = s.workers; sessions = s.sessions; addr = s.addr.now }

-- what the code's `Exit` stands for
abbrev pub exit_view : code_exit.Exit → Exit
exit_view e = record { status = e.status; line = e.line.now }
