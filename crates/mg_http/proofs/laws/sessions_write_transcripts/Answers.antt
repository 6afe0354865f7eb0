use Rattle.mg_http.specs.AtWorld.{AtWorld}
use Rattle.mg_http.proofs.TranscriptLemmas.{whole_transcript, prefix_of_transcript}
use Rattle.mg_http.proofs.laws.sessions_write_transcripts.Goals as goal

pub returns-clause-whole : goal.returns-clause-whole
returns-clause-whole c = λ db starved end all conversation ample wrote. whole_transcript AtWorld db all.old all.bytes all.text all.new starved end conversation ample wrote

pub returns-clause-prefix : goal.returns-clause-prefix
returns-clause-prefix c = λ db starved end all conversation ample more text is. prefix_of_transcript db all.old all.bytes all.text all.new starved end conversation ample more text is
