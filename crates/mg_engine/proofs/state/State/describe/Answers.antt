use Rattle.std.proofs.Common.{◌≡◌, ◌∙◌, ℕ, List, Option, Some, ap, string_bytes}
use Rattle.mg_shard.specs.Shard.{shards_view}
use Rattle.mg_engine.specs.Bodies.{line_of}
use Rattle.mg_engine.specs.Commands.{Answer}
use Rattle.mg_engine.specs.Counted.{deleted_counted, docs_counted}
use Rattle.mg_engine.specs.Questions.{database_of, doc_count, doc_del_count}
use Rattle.mg_engine.specs.Stands.{StateView}
use Rattle.mg_engine.proofs.Counting.{deleted_all, docs_all}
use Rattle.mg_engine.proofs.state.State.describe.Goals as goal

pub returns : goal.returns
returns c = λ place w h.
    let commits = c.args.commits in
    let shards = c.args.self.now.shards in
    let first : shards_view c.deref.result.now ≡ shards = ap shards_view c.deref.ensures.value ∙ ap (λ (s : StateView). s.shards) c.self.view_is in
    let second : shards_view c.deref-2.result.now ≡ shards = ap shards_view c.deref-2.ensures.value ∙ ap (λ (s : StateView). s.shards) c.self.view_is in
    let docs : c.in_ok-docs.docs ≡ doc_count w.docs = c.in_ok-docs.ensures ∙ ap docs_counted first ∙ docs_all place shards w.docs h.documents in
    let deleted : c.in_ok-deleted.deleted ≡ doc_del_count w.docs = c.in_ok-deleted.ensures ∙ ap deleted_counted second ∙ deleted_all place shards w.docs h.documents in
    let name : c.deref-4.result.now ≡ w.name = c.deref-4.ensures ∙ ap string_bytes c.deref-3.ensures ∙ ap (λ (s : StateView). s.name) c.self.view_is ∙ h.name in
    ap (λ (b : List ℕ). (let o : Option Answer = Some (record { status = 200; body = b }) in o))
    (c.in_ok-body.ensures ∙ ap line_of (c.in_ok-database.ensures ∙ ap (λ (n : List ℕ). database_of n c.in_ok-docs.docs c.in_ok-deleted.deleted commits) name
    ∙ ap (λ (n : ℕ). database_of w.name n c.in_ok-deleted.deleted commits) docs ∙ ap (λ (n : ℕ). database_of w.name (doc_count w.docs) n commits) deleted))
