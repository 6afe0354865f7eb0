use Rattle.std.proofs.Common.{◌≡◌, List, sym}
use Rattle.std.specs.Prelude.{string_bytes}
use Rattle.mg_bookmark.specs.Bookmark.{spelled}
use Rattle.mg_scan.specs.Hit.{hit_row}
use Rattle.mg_query.specs.Page.{Candidate, bookmark_after, source_columns, ddoc_of, name_of}
use Rattle.mg_query.specs.Lent.{LendEach}
use Rattle.mg_query.specs.View.{query_view}
use Rattle.mg_query.specs.Served.{source_view}
use Rattle.mg_query.proofs.Showing.{bookmark_last, ok_weaker}
use Rattle.mg_query.proofs.answer.last_bookmark.Goals as goal

pub returns-in-Some : goal.returns-in-Some
returns-in-Some c =
    let q = query_view c.args.query.now in
    let s = source_view c.args.source in
    let hit = c.in-Some.hit.now in
    ok_weaker c.bookmark_at.result
    (λ t. string_bytes t ≡ spelled (record { ddoc = ddoc_of s; name = name_of s; direction = q.direction; key = (hit_row hit).0; id = (hit_row hit).1 }))
    (λ t. (cs : List Candidate) → LendEach (source_columns s) c.args.hits.now cs → string_bytes t ≡ bookmark_after s q cs)
    (λ t m cs l. bookmark_last s q c.args.hits.now cs hit (string_bytes t) l (sym c.in-Some.ensures.value) m)
    c.bookmark_at.ensures
