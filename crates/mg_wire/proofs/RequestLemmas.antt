-- From the parts of a head to those of the input that it begins.
use Rattle.std.proofs.Common.{◌≡◌, ℕ, List, [], ◌∷◌, take, map, All, refl, arith}
use Rattle.std.proofs.lemmas.List.Elements.{All-tail}
use Rattle.bytes.proofs.Ranges.{slice_range_front}
use Rattle.httparse.specs.Spans.{span_bytes, header_bytes, IsWithin, IsHeaderWithin}
use Rattle.httparse.specs.declared.spans.Span.{Span}
use Rattle.httparse.specs.declared.spans.HeaderSpan.{HeaderSpan}

-- what a span of the head covers
pub span_in_head : (input head : List ℕ) (len : ℕ) (s : Span) → take len input ≡ head → IsWithin len s → span_bytes head s ≡ span_bytes input s
span_in_head input head len s is within = slice_range_front head input s.start s.end len is within.1

-- what spans of fields of the head cover
pub headers_in_head : (input head : List ℕ) (len : ℕ) (hs : List HeaderSpan) → take len input ≡ head → All (IsHeaderWithin len) hs
    → map (header_bytes head) hs ≡ map (header_bytes input) hs
headers_in_head input head len [] is all = refl
headers_in_head input head len (h ∷ hs) is all =
    let first : IsHeaderWithin len h = all 0 h (omega arith) in
    λ i. (span_in_head input head len h.name is first.0 i, span_in_head input head len h.value is first.1 i)
    ∷ headers_in_head input head len hs is (All-tail (IsHeaderWithin len) h hs all) i
