use Rattle.std.proofs.Common.{◌≡◌, ◌++◌, List, None, arith, drop, length, take, sym, ap, ◌∙◌, subst, string_bytes}
use Rattle.std.specs.FinMap.{insert}
use Rattle.std.specs.List.{AllByRecursion}
use Rattle.mg_shard.specs.Documents.{KeptDocuments, id_bytes, kept_of, kept_documents}
use Rattle.mg_shard.specs.Draft.{touched_of}
use Rattle.mg_shard.specs.Index.{HasRows, Index, definitions_of}
use Rattle.mg_shard.specs.declared.document.Document.{Document}
use Rattle.mg_shard.proofs.Keys.{written}
use Rattle.mg_shard.proofs.Shown.{kept_documents-inserted}
use Rattle.mg_shard.proofs.Touched.{all_kept, get-touched, get-updated, none_left, touched_none, tree_kept}
use Rattle.mg_shard.proofs.draft.keep_all.Goals as goal

pub loop-id-preserved : goal.loop-id-preserved
loop-id-preserved c =
    let l = c.loop-id in
    let id = string_bytes c.in-Some.id in
    let tree = c.in-Some.tree in
    let d = c.in_ok-document.document in
    let new = c.in_ok-documents.documents in
    let inserted_in : kept_documents new ≡ insert (kept_documents l.documents) (id_bytes d) (kept_of d) =
    ap kept_documents c.in_ok-documents.ensures ∙ kept_documents-inserted d l.documents in
    let made = c.mend_all.new.indexes in
    let number : length made ≡ length l.indexes.items = let a = c.mend_all.auto.indexes in let b = ap length c.deref_mut.ensures.value in omega (arith, a, b) in
    let same : take l.indexes.len (made ++ drop (length made) l.indexes.items) ≡ made = written l.indexes.len made l.indexes.items number l.indexes.ok.0 in
    record {
      stands = λ hs st.
          tree_kept (kept_documents l.documents) (kept_documents new) (touched_of l.touched.entries) (touched_of c.pop_first.new.self.entries) hs id tree (kept_of d)
          (sym (get-touched l.touched id) ∙ c.in-Some.ensures.value) c.in_ok-document.ensures.tree c.in_ok-document.ensures.served
          (inserted_in ∙ ap (λ k. insert (kept_documents l.documents) k (kept_of d)) c.in_ok-document.ensures.id)
          (get-updated l.touched c.pop_first.new.self id None c.in-Some.ensures.updates) (l.invariant.stands hs st);
      definitions = ap (λ (xs : List Index). definitions_of xs) same ∙ c.in_ok-mend_all.ensures.definitions ∙ ap (λ (xs : List Index). definitions_of xs) c.deref_mut.ensures.value ∙ l.invariant.definitions;
      rows = λ h. subst (λ (xs : List Index). AllByRecursion (HasRows (kept_documents new)) xs) (sym same)
          (subst (λ (ds : KeptDocuments). AllByRecursion (HasRows ds) made) (sym inserted_in)
          (subst (λ (ds : List Document). AllByRecursion (HasRows (insert (kept_documents ds) (id_bytes d) (kept_of d))) made) c.all.ensures.all (c.in_ok-mend_all.ensures.rows (subst (λ (ds : List Document). AllByRecursion (HasRows (kept_documents ds)) c.deref_mut.result.now) (sym c.all.ensures.all) (subst (λ (xs : List Index). AllByRecursion (HasRows (kept_documents l.documents)) xs) (sym c.deref_mut.ensures.value) (l.invariant.rows h))))));
    }

pub returns-clause-stands : goal.returns-clause-stands
returns-clause-stands c = λ hs st.
    let l = c.loop-id in
    let none : length l.touched.entries ≡ 0 = none_left (length l.touched.entries) c.in_default.ensures.variant.1 in
    all_kept (kept_documents l.documents) (touched_of l.touched.entries) hs (touched_none l.touched.entries none) (l.invariant.stands hs st)
