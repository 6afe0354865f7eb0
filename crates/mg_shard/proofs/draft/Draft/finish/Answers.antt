use Rattle.std.proofs.Common.{◌≡◌, length, rules, sym, ap, subst}
use Rattle.mg_shard.specs.Documents.{KeptDocuments, StandFor}
use Rattle.mg_shard.specs.Draft.{DraftStandsFor, touched_of}
use Rattle.mg_shard.proofs.Touched.{all_kept, touched_none}
use Rattle.mg_shard.proofs.draft.Draft.finish.Goals as goal

pub returns-then-is_empty-clause-stands : goal.returns-then-is_empty-clause-stands
returns-then-is_empty-clause-stands c = λ hs st.
    let es = c.self.inside.touched.entries in
    let none : length es ≡ 0 = search rules in
    let stood = subst (λ d. DraftStandsFor d hs) (sym c.self.view_is) st in
    let kept = all_kept c.self.inside.shard.now.documents (touched_of es) hs (touched_none es none) stood in
    subst (λ (ds : KeptDocuments). StandFor ds hs) (ap (λ v. v.shard.documents) c.self.view_is) kept
