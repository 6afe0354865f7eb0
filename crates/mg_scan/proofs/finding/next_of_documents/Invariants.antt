use Rattle.std.proofs.Common.{◌≡◌, length, option_map}
use Rattle.mg_scan.specs.Kept.{AreKept}
use Rattle.mg_scan.specs.Sourced.{asked, walked_documents, with_selector}
use Rattle.mg_scan.proofs.finding.next_of_documents.Given as goal

-- nothing is found in the documents read so far
abbrev pub invariant-loop-document : goal.invariant-loop-document
invariant-loop-document l =
    let s = with_selector (asked (option_map (λ n. n.now) l.selector)) l.search in
    record {
      rows : walked_documents s l.fn.documents ≡ walked_documents s l.documents;
      kept : AreKept l.shard.documents l.documents;
    }

abbrev pub decreases-loop-document : goal.decreases-loop-document
decreases-loop-document l = length l.documents
