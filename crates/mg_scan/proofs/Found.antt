-- Documents of a shard from a place on are those that the shard keeps.
use Rattle.std.proofs.Common.{◌≡◌, List, Some, map, Ordering, sym, subst}
use Rattle.std.specs.FinMap.{entries, get}
use Rattle.std.specs.List.{AllByRecursion}
use Rattle.mg_collate.specs.declared.direction.Direction.{Direction}
use Rattle.mg_scan.proofs.Entries.{Entry, all_beyond, all_kept, all_mapped}
use Rattle.mg_shard.specs.Documents.{KeptDocuments, kept_entry, id_bytes, kept_of}
use Rattle.mg_pages.specs.Reading.{beyond}
use Rattle.mg_shard.specs.declared.document.Document.{Document}

pub all_owned : (ds : KeptDocuments) (direction : Direction) (order : Entry → Ordering) (documents : List Document) → map kept_entry documents ≡ beyond direction order (entries ds)
    → AllByRecursion (λ d. get ds (id_bytes d) ≡ Some (kept_of d)) documents
all_owned ds direction order documents is =
    all_mapped (λ e. get ds e.0 ≡ Some e.1) kept_entry documents
    (subst (λ (es : List Entry). AllByRecursion (λ e. get ds e.0 ≡ Some e.1) es) (sym is) (all_beyond (λ e. get ds e.0 ≡ Some e.1) direction order (entries ds) (all_kept ds)))
