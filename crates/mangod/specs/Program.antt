-- What the program does with its arguments, over an input and an output. `read` and `wrote` hold of the bytes that were read and written.
-- `starved`: the last read got no memory.
use Rattle.std.specs.Prelude.{◌≡◌, ℕ, Bool, ◌⊎◌, List, [], Option, Some, None, MatchBool}
use Rattle.mg_engine.specs.Stands.{Stands, shard_count}
use Rattle.mg_engine.specs.World.{World, empty_world}
use Rattle.mg_shard.specs.Placement.{md5_place}
use Rattle.mg_shard.specs.declared.placement.Md5Placement.{Md5Placement}
use Rattle.mg_http.specs.AtWorld.{WroteTranscriptAt}
use Rattle.mg_http.specs.SoloService.{SoloAnswers}
use Rattle.mg_http.specs.Transcript.{WroteTranscript}
use Rattle.mg_http.specs.declared.sessions.SessionEnd.{SessionEnd}
use Rattle.mg_http.specs.declared.sessions.service.Solo.{Solo}
use Rattle.mangod.specs.Arguments.{Settings, is_standard}
use Rattle.mangod.specs.Exits.{Exit, cannot_listen, exit_of, no_memory, stopped, wrong_arguments}

-- One session was held, from the empty world of this database. `WroteTranscriptAt` says what was written for what was read, and that the
-- written text is the transcript if memory sufficed. The replies are those of a service whose engine has as many shards, and which has as many
-- workers, as the settings say.
pub record HoldsSession (s : Settings) (read wrote : List ℕ → Type 0) (starved : Bool) (exit : Exit) : Type 0 where
  pub left : World
  pub end : SessionEnd
  pub held : WroteTranscriptAt s.db (record { read = read; wrote = wrote; starved = starved; old = empty_world s.db; new = left; end = end })
  pub ends : exit ≡ exit_of end
  pub first : Solo Md5Placement
  pub last : Solo Md5Placement
  pub stands : Stands (λ p id shards. md5_place id shards) first.engine (empty_world s.db)
  pub shards : shard_count first.engine ≡ s.shards
  pub workers : first.workers ≡ s.workers
  pub served : WroteTranscript (SoloAnswers (λ p id shards. md5_place id shards)) s.db (record { read = read; wrote = wrote; starved = starved; old = first; new = last; end = end })

-- the program ended at once, and read and wrote nothing
abbrev pub EndsAtOnce : (List ℕ → Type 0) → (List ℕ → Type 0) → Exit → Exit → Type 0
EndsAtOnce read wrote why exit = read [] × wrote [] × (exit ≡ why)

-- with the address `-` the program holds one session, or memory runs out at the start and the program ends at once
abbrev pub RunsOneSession : Settings → (List ℕ → Type 0) → (List ℕ → Type 0) → Bool → Exit → Type 0
RunsOneSession s read wrote starved exit = HoldsSession s read wrote starved exit ⊎ EndsAtOnce read wrote no_memory exit

-- this exit is one with an address other than `-`: memory ran out at the start or after the last session, or the program cannot listen, or
-- the listener or the poll failed
abbrev pub IsEndOfListening : Exit → Type 0
IsEndOfListening exit = (exit ≡ no_memory) ⊎ ((exit ≡ cannot_listen) ⊎ (exit ≡ stopped))

-- with an address other than `-` the program listens there, and reads no input and writes no output
abbrev pub Listens : (List ℕ → Type 0) → (List ℕ → Type 0) → Exit → Type 0
Listens read wrote exit = read [] × wrote [] × IsEndOfListening exit

-- the program holds one session or listens, as its address says; wrong arguments (`None`) end it at once
abbrev pub RunsWith : Option Settings → (List ℕ → Type 0) → (List ℕ → Type 0) → Bool → Exit → Type 0
RunsWith None read wrote starved exit = EndsAtOnce read wrote wrong_arguments exit
RunsWith (Some s) read wrote starved exit = MatchBool (is_standard s.addr) (RunsOneSession s read wrote starved exit) (Listens read wrote exit)
