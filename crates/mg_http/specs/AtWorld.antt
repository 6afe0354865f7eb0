-- Transcripts from a world: the text of the replies that the definitions give to some input, from this world on (RFC 9112).
use Rattle.std.specs.Prelude.{◌≡◌, ℕ, Bool, List, ◌++◌, Option}
use Rattle.mg_engine.specs.Commands.{Asked, Answer}
use Rattle.mg_engine.specs.Execution.{Answers}
use Rattle.mg_engine.specs.World.{World}
use Rattle.mg_http.specs.declared.sessions.SessionEnd.{SessionEnd}
use Rattle.mg_http.specs.Device.{IsBytePrefix}
use Rattle.mg_http.specs.Session.{Exchange, Converses}
use Rattle.mg_http.specs.Transcript.{Course, WroteTranscript, IsAmple, IsTranscript}

-- at w the command gets the reply of the definitions and leaves the world u; or memory ran out, and u is w
abbrev pub AtWorld : World → Asked → Option Answer → World → Type 0
AtWorld w command reply u = Answers w command reply (λ v. v ≡ u)

-- a session of the database db had this end and this exchange, from one world to another
abbrev pub ConversesAt : List ℕ → Bool → SessionEnd → Exchange World → Type 0
ConversesAt db starved end all = Converses AtWorld db starved end all

-- the text is a transcript of the bytes, from the world w
abbrev pub IsTranscriptAt : List ℕ → World → List ℕ → List ℕ → Type 0
IsTranscriptAt db w bytes text = IsTranscript AtWorld db (record { from = w; bytes = bytes; text = text })

-- A session took this course from one world to another. If memory sufficed for it, its text is a prefix of each transcript of the
-- bytes that it read and any bytes after them, however it ended and wherever its input was cut.
pub record WroteTranscriptAt (db : List ℕ) (course : Course World) : Type 0 where
  pub session : WroteTranscript AtWorld db course
  pub prefix
      : IsAmple AtWorld db course.starved course.end (record { old = course.old; bytes = session.bytes; text = session.written; new = course.new }) session.conversation
      → (more text : List ℕ) → IsTranscriptAt db course.old (session.bytes ++ more) text → IsBytePrefix session.written text
