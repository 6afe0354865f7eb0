use Rattle.std.proofs.Common.{◌≡◌, ◌++◌, ◌∷◌, [], ap, arith, length, rules, subst, sym, ◌∙◌, append_assoc}
use Rattle.mg_scan.specs.Hit.{IsHitOf, hit_row, hit_rows}
use Rattle.mg_scan.proofs.Filled.{filled, finished}
use Rattle.mg_scan.specs.Sourced.{rest_of}
use Rattle.mg_scan.proofs.Sources.{rests_are}
use Rattle.mg_scan.proofs.Steps.{hits-push, length-push, rows-push}
use Rattle.mg_scan.proofs.finding.hits_in.Goals as goal
use Rattle.mg_shard.specs.Shard.{ShardView}

pub loop-source-init : goal.loop-source-init
loop-source-init c =
    let begun = c.source_of-source.ensures in
    rw c.in_ok-hits.ensures.items (record { some = first_of (omega arith, search rules); rows = sym (rests_are c.args.search.normal.now c.args.search c.args.shard.now c.source_of-source.result begun); documents = tt; lent = λ h of. subst (λ (s : ShardView). IsHitOf s h) begun.same_shard of })

pub loop-source-preserved : goal.loop-source-preserved
loop-source-preserved c =
    let was = c.loop-source.invariant in
    let hits = c.loop-source.hits.items in
    let hit = c.in-Some.hit in
    let rest = rest_of c.next.new.self in
    let long : length hits ≡ c.len.result = sym c.loop-source.hits.ok.0 ∙ sym c.len.ensures in
    rw c.in_ok-push.ensures.items (record {
      some = omega (arith, length-push hits hit, long);
      rows = was.rows ∙ ap (λ rows. hit_rows hits ++ rows) c.in-Some.ensures.item ∙ sym (append_assoc (hit_rows hits) (hit_row hit ∷ []) rest) ∙ ap (λ rows. rows ++ rest) (sym (rows-push hits hit));
      documents = hits-push c.args.shard.now hits hit was.documents (was.lent hit c.in-Some.ensures.given);
      lent = λ h of. was.lent h (c.in-Some.ensures.same h of);
    })

pub returns-in_default : goal.returns-in_default
returns-in_default c =
    let was = c.loop-source.invariant in
    record { rows = finished c.args.search c.args.shard.now c.loop-source.hits.items _ was.rows c.in_default.ensures.end was.some; documents = was.documents }

pub returns : goal.returns
returns c =
    let was = c.loop-source.invariant in
    let hits = c.loop-source.hits.items in
    let long : length hits ≡ c.len.result = sym c.loop-source.hits.ok.0 ∙ sym c.len.ensures in
    record { rows = filled c.args.search c.args.shard.now hits _ was.rows (omega (arith, long)); documents = was.documents }
