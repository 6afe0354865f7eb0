use Rattle.std.proofs.Common.{◌+◌, ◌≡◌, ◌<◌, ℕ, List, ◌∷◌, [], ◌++◌, map, take, length, get_or, sym, ap, ◌∙◌, arith}
use Rattle.std.specs.Prelude.{codes}
use Rattle.std.proofs.lemmas.List.{take_more, take_more_set, map-append}
use Rattle.std.proofs.Math.ListN.{set, length-set}
use Rattle.http1.specs.declared.head.Header as Sent
use Rattle.http1.specs.Fields.{Header}
use Rattle.http1.specs.Head.{pairs, header_parts}
use Rattle.mg_wire.specs.declared.request.Field.{Field}
use Rattle.mg_wire.specs.Request.{field_parts}
use Rattle.mg_wire.proofs.reply.headers_of.Goals as goal

one_more : (hs : List Sent.Header) (fs : List Field) (count index : ℕ) (h : Sent.Header) (f : Field) (first : Header) → count < length hs → index < length fs
    → get_or fs index f ≡ f → header_parts h ≡ field_parts f → pairs (take count hs) ≡ first ∷ map field_parts (take index fs)
    → pairs (take (count + 1) (set hs count h)) ≡ first ∷ map field_parts (take (index + 1) fs)
one_more hs fs count index h f first room fits is parts before =
    ap pairs (take_more_set hs count h room) ∙ map-append header_parts (take count hs) (h ∷ []) ∙
    ap (λ (xs : List Header). xs ++ header_parts h ∷ []) before ∙
    ap (λ (x : Header). (first ∷ map field_parts (take index fs)) ++ x ∷ []) (parts ∙ ap field_parts (sym is)) ∙
    ap (λ (xs : List Header). first ∷ xs)
    (sym (map-append field_parts (take index fs) (get_or fs index f ∷ [])) ∙ ap (map field_parts) (sym (take_more fs index f fits)))

pub loop-field-preserved : goal.loop-field-preserved
loop-field-preserved c =
    let room : c.loop-field.count < 17 = omega (arith, c.loop-field.invariant.counted, c.requires.few) in
    record {
      counted = omega (arith, c.loop-field.invariant.counted);
      all = length-set c.loop-field.headers c.loop-field.count _ ∙ c.loop-field.invariant.all;
      room = omega (arith, room);
      same = one_more c.loop-field.headers c.args.fields.now c.loop-field.count c.loop-field.field-index _ c.field-item.result (codes "date", c.args.date.now) (omega (arith, room, c.loop-field.invariant.all)) (omega arith) (sym c.field-item.is) (λ i. (c.as_slice.ensures i, c.as_slice-in-loop-field.ensures i)) c.loop-field.invariant.same;
    }
