use Rattle.std.proofs.Common.{◌≡◌, true, false, List, Some, None, subst}
use Rattle.mg_index.specs.Choice.{choice_of}
use Rattle.mg_normal.specs.Atoms.{Atom}
use Rattle.mg_query.specs.Page.{accepts_bookmark, bad_bookmark, no_usable_index, served_by}
use Rattle.mg_query.specs.View.{query_view}
use Rattle.mg_query.specs.Served.{source_view}
use Rattle.mg_query.proofs.Serving.{none_served, not_refused, refused_for, serves}
use Rattle.mg_query.proofs.source.served_by.Goals as goal

pub returns-in_default-clause-refused : goal.returns-in_default-clause-refused
returns-in_default-clause-refused c = λ why h.
    let ds = c.args.catalog.now in
    let q = query_view c.args.query.now in
    refused_for (served_by ds q) no_usable_index why (none_served ds q (subst (λ (atoms : List Atom). choice_of ds atoms q.sort q.hint ≡ None) c.args.query.now.is_normal.atoms c.in_default.ensures.chosen)) h

pub returns-then-accepts_bookmark-clause-answers : goal.returns-then-accepts_bookmark-clause-answers
returns-then-accepts_bookmark-clause-answers c =
    let ds = c.args.catalog.now in
    let q = query_view c.args.query.now in
    let s = source_view c.in-Some.source in
    let f : accepts_bookmark s q ≡ true = cc in
    serves ds q s true (subst (λ (atoms : List Atom). choice_of ds atoms q.sort q.hint ≡ Some s) c.args.query.now.is_normal.atoms c.in-Some.ensures.chosen) f

pub returns-then-accepts_bookmark-clause-refused : goal.returns-then-accepts_bookmark-clause-refused
returns-then-accepts_bookmark-clause-refused c = λ why h.
    let ds = c.args.catalog.now in
    let q = query_view c.args.query.now in
    let s = source_view c.in-Some.source in
    let f : accepts_bookmark s q ≡ true = cc in
    absurd (not_refused (served_by ds q) s why (serves ds q s true (subst (λ (atoms : List Atom). choice_of ds atoms q.sort q.hint ≡ Some s) c.args.query.now.is_normal.atoms c.in-Some.ensures.chosen) f) h)

pub returns-else-accepts_bookmark-clause-answers : goal.returns-else-accepts_bookmark-clause-answers
returns-else-accepts_bookmark-clause-answers c =
    let ds = c.args.catalog.now in
    let q = query_view c.args.query.now in
    let s = source_view c.in-Some.source in
    let f : accepts_bookmark s q ≡ false = cc in
    serves ds q s false (subst (λ (atoms : List Atom). choice_of ds atoms q.sort q.hint ≡ Some s) c.args.query.now.is_normal.atoms c.in-Some.ensures.chosen) f

pub returns-else-accepts_bookmark-clause-refused : goal.returns-else-accepts_bookmark-clause-refused
returns-else-accepts_bookmark-clause-refused c = λ why h.
    let ds = c.args.catalog.now in
    let q = query_view c.args.query.now in
    let s = source_view c.in-Some.source in
    let f : accepts_bookmark s q ≡ false = cc in
    refused_for (served_by ds q) bad_bookmark why (serves ds q s false (subst (λ (atoms : List Atom). choice_of ds atoms q.sort q.hint ≡ Some s) c.args.query.now.is_normal.atoms c.in-Some.ensures.chosen) f) h
