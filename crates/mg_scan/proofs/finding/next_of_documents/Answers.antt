use Rattle.std.proofs.Common.{List, ap, option_map, sym, subst, refl, ◌∙◌}
use Rattle.mg_scan.specs.Hit.{hit_row}
use Rattle.mg_scan.specs.Kept.{AreKept}
use Rattle.mg_scan.specs.Sourced.{asked, holds_for, walked_documents, with_selector}
use Rattle.mg_scan.specs.Walked.{id_row, is_late_row}
use Rattle.mg_scan.proofs.Own.{among_own}
use Rattle.mg_scan.proofs.Sources.{among_none, on_found, on_late, on_miss}
use Rattle.mg_scan.proofs.finding.next_of_documents.Goals as goal
use Rattle.mg_shard.specs.declared.document.Document.{Document}
use Rattle.mg_value.specs.Value.{item, no_items, text}

pub loop-document-init : goal.loop-document-init
loop-document-init c = record { rows = refl; kept = c.requires }

pub loop-document-preserved-in_default-id_key : goal.loop-document-preserved-in_default-id_key
loop-document-preserved-in_default-id_key c =
    let s = with_selector (asked (option_map (λ n. n.now) c.args.selector)) c.args.search in
    let d = c.in-Some.document.now in
    record {
      rows = c.loop-document.invariant.rows ∙ ap (walked_documents s) c.in-Some.ensures.steps ∙ among_none s d c.next.new.self c.in_default-id_key.ensures.key;
      kept = (subst (λ (xs : List Document). AreKept c.args.shard.now.documents xs) c.in-Some.ensures.steps c.loop-document.invariant.kept).1;
    }

pub returns-then-is_late_id-clause-end : goal.returns-then-is_late_id-clause-end
returns-then-is_late_id-clause-end c =
    let s = with_selector (asked (option_map (λ n. n.now) c.args.selector)) c.args.search in
    let d = c.in-Some.document.now in
    let id = c.in-Some-id_key.id.now in
    let key = item (text id) no_items in
    on_late (is_late_row s.direction s.range.now) (holds_for s.normal.now d) (walked_documents s c.args.documents.now) (id_row id) (walked_documents s c.next.new.self)
    (sym c.is_late_id.ensures ∙ c.if-is_late_id.true)
    (c.loop-document.invariant.rows ∙ ap (walked_documents s) c.in-Some.ensures.steps ∙ among_own s d c.next.new.self key id c.in-Some-id_key.ensures.key c.in-Some-id_key.ensures.own)

pub returns-then-is_late_id-clause-kept : goal.returns-then-is_late_id-clause-kept
returns-then-is_late_id-clause-kept c = (subst (λ (xs : List Document). AreKept c.args.shard.now.documents xs) c.in-Some.ensures.steps c.loop-document.invariant.kept).1

pub returns-then-is_some-clause-found : goal.returns-then-is_some-clause-found
returns-then-is_some-clause-found c =
    let s = with_selector (asked (option_map (λ n. n.now) c.args.selector)) c.args.search in
    let d = c.in-Some.document.now in
    let id = c.in-Some-id_key.id.now in
    let key = item (text id) no_items in
    on_found hit_row (is_late_row s.direction s.range.now) (holds_for s.normal.now d) (walked_documents s c.args.documents.now) (id_row id) (walked_documents s c.next.new.self) c.hit_at_document-found.result
    (sym c.is_late_id.ensures ∙ c.if-is_late_id.false) (c.hit_at_document-found.ensures.row)
    (c.loop-document.invariant.rows ∙ ap (walked_documents s) c.in-Some.ensures.steps ∙ among_own s d c.next.new.self key id c.in-Some-id_key.ensures.key c.in-Some-id_key.ensures.own)

pub returns-then-is_some-clause-kept : goal.returns-then-is_some-clause-kept
returns-then-is_some-clause-kept c = (subst (λ (xs : List Document). AreKept c.args.shard.now.documents xs) c.in-Some.ensures.steps c.loop-document.invariant.kept).1

pub loop-document-preserved : goal.loop-document-preserved
loop-document-preserved c =
    let s = with_selector (asked (option_map (λ n. n.now) c.args.selector)) c.args.search in
    let d = c.in-Some.document.now in
    let id = c.in-Some-id_key.id.now in
    let key = item (text id) no_items in
    record {
      rows = on_miss hit_row (is_late_row s.direction s.range.now) (holds_for s.normal.now d) (walked_documents s c.args.documents.now) (id_row id) (walked_documents s c.next.new.self) c.hit_at_document-found.result
          (sym c.is_late_id.ensures ∙ c.if-is_late_id.false) (c.hit_at_document-found.ensures.row) (sym c.is_some.ensures ∙ c.if-is_some.false)
          (c.loop-document.invariant.rows ∙ ap (walked_documents s) c.in-Some.ensures.steps ∙ among_own s d c.next.new.self key id c.in-Some-id_key.ensures.key c.in-Some-id_key.ensures.own);
      kept = (subst (λ (xs : List Document). AreKept c.args.shard.now.documents xs) c.in-Some.ensures.steps c.loop-document.invariant.kept).1;
    }

pub hit_at_document-found-requires : goal.hit_at_document-found-requires
hit_at_document-found-requires c = ((subst (λ (xs : List Document). AreKept c.args.shard.now.documents xs) c.in-Some.ensures.steps c.loop-document.invariant.kept).0, c.in-Some-id_key.ensures.key, c.in-Some-id_key.ensures.own)
