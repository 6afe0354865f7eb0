use Rattle.std.proofs.Common.{◌<◌, ◌≤◌, ℕ, get_or, length, arith, sym, subst}
use Rattle.mg_shard.specs.Documents.{kept_documents}
use Rattle.mg_shard.specs.Redealt.{documents_view}
use Rattle.mg_shard.specs.declared.document.Document.{Document}
use Rattle.mg_shard.proofs.Redealing.{all_read, none_kept, one_read}
use Rattle.mg_shard.proofs.Together.{read_alike, seen_at, seen_length}
use Rattle.mg_shard.proofs.placed.documents_at.Goals as goal

pub loop-k-init : goal.loop-k-init
loop-k-init c = none_kept (documents_view c.args.documents.now) c.args.places.now c.args.place c.new-there.result c.new-there.ensures

pub loop-k-preserved : goal.loop-k-preserved
loop-k-preserved c =
    let l = c.loop-k in
    let documents = c.args.documents.now in
    let x = c.index-documents-k.result in
    let d : Document = x.now in
    let places = c.args.places.now in
    let p : ℕ = get_or places l.k 0 in
    let less : l.k < length documents = omega arith in
    let inside : l.k < length places = subst (λ n. l.k < n) (sym c.requires) less in
    let within : l.k < length (documents_view documents) = subst (λ n. l.k < n) (sym (seen_length documents)) less in
    one_read (documents_view documents) c.args.places.now c.args.place l.k d p within (seen_at documents l.k x less c.index-documents-k.is) (read_alike places l.k 0 p inside)
    l.there c.put_if.new.there c.in_ok-put_if.ensures.here c.in_ok-put_if.ensures.elsewhere l.invariant

pub returns : goal.returns
returns c =
    let l = c.loop-k in
    let documents = c.args.documents.now in
    let over : length documents ≤ l.k = omega arith in
    let past : length (documents_view documents) ≤ l.k = subst (λ n. n ≤ l.k) (sym (seen_length documents)) over in
    all_read (documents_view documents) c.args.places.now c.args.place l.k (kept_documents l.there) past l.invariant
