use Rattle.std.proofs.Common.{subst}
use Rattle.mg_scan.specs.Kept.{IsKept}
use Rattle.mg_scan.specs.RangeEnd.{AreBeforeEnd, EndsOnce, index_rows}
use Rattle.mg_scan.specs.declared.unread.Unread.{Unread}
use Rattle.mg_scan.proofs.finding.SourceRowSourceHit.next.Goals as goal

pub next_of_rows-requires : goal.next_of_rows-requires
next_of_rows-requires c =
    let self = c.args.self.now in (
      subst (λ (left : Unread). EndsOnce self.search (index_rows left)) c.in-Rows.is self.ordered,
      subst (λ (left : Unread). AreBeforeEnd self.search (index_rows left) self.range_end.sure) c.in-Rows.is self.sure,
      subst (IsKept self.shard.now) c.in-Rows.is self.kept,
    )

pub next_of_documents-requires : goal.next_of_documents-requires
next_of_documents-requires c =
    let self = c.args.self.now in
    subst (IsKept self.shard.now) c.in-Documents.is self.kept
