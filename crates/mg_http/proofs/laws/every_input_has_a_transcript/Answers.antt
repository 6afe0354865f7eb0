use Rattle.mg_http.proofs.TranscriptLemmas.{never_without}
use Rattle.mg_http.proofs.laws.every_input_has_a_transcript.Goals as goal

pub returns : goal.returns
returns c = λ db w bytes none. never_without db w bytes none
