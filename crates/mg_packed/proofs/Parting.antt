-- An object with one member put into it: the members before its place, the member, and the members after.
use Rattle.std.proofs.Common.{◌≡◌, ℕ, zero, suc, ◌+◌, List, length, Ordering, Less, Equal, Greater, nat_cmp, refl, sym, ap, ◌∙◌, arith}
use Rattle.std.specs.Cmp.Lexicographic.{slice_cmp}
use Rattle.std.specs.Ordering.{match_ordering}
use Rattle.mg_collate.proofs.Ties.{same_text}
use Rattle.mg_value.specs.Value.{Value, Members, no_members, member, member_list, put}
use Rattle.mg_packed.specs.Gap.{names_before, names_up_to}
use Rattle.mg_packed.specs.Walk.{first_members, members_past, joined, part}
use Rattle.mg_packed.proofs.Copies.{all_members}

pub past_none : (ms : Members) → members_past 0 ms ≡ ms
past_none no_members = refl
past_none (member k v ms) = refl

put_by : (o : Ordering) (k l : List ℕ) (v w : Value) (ms : Members) (n : ℕ) → slice_cmp nat_cmp k l ≡ o → n + match_ordering o 0 1 (suc (names_up_to k ms)) ≡ suc (length (member_list ms))
    → (n + names_up_to k ms ≡ length (member_list ms) → put k v ms ≡ joined (part ms 0 (names_before k ms)) (member k v (part ms (names_up_to k ms) n)))
    → match_ordering o (member k v (member l w ms)) (member l v ms) (member l w (put k v ms))
    ≡ joined (part (member l w ms) 0 (match_ordering o 0 0 (suc (names_before k ms)))) (member k v (part (member l w ms) (match_ordering o 0 1 (suc (names_up_to k ms))) n))
put_by Less k l v w ms n e size rest = let all : n ≡ suc (length (member_list ms)) = omega (arith, size) in ap (member k v) (sym (ap (λ x. first_members x (member l w ms)) all ∙ ap (member l w) (all_members ms)))
put_by Equal k l v w ms n e size rest =
    let all : n ≡ length (member_list ms) = omega (arith, size) in
    ap (λ x. member x v ms) (sym (same_text k l e)) ∙ ap (member k v) (sym (ap (λ x. first_members n x) (past_none ms) ∙ ap (λ x. first_members x ms) all ∙ all_members ms))
put_by Greater k l v w ms n e size rest = ap (member l w) (rest (omega (arith, size)) ∙ ap (λ x. joined (first_members (names_before k ms) x) (member k v (part ms (names_up_to k ms) n))) (past_none ms))

pub put_parts : (k : List ℕ) (v : Value) (ms : Members) (n : ℕ) → n + names_up_to k ms ≡ length (member_list ms) → put k v ms ≡ joined (part ms 0 (names_before k ms)) (member k v (part ms (names_up_to k ms) n))
put_parts k v no_members zero size = refl
put_parts k v no_members (suc n) size = absurd (omega (arith, size))
put_parts k v (member l w ms) n size = put_by (slice_cmp nat_cmp k l) k l v w ms n refl size (put_parts k v ms n)

-- the same, at places that the code has found
pub put_parts_at : (k : List ℕ) (v : Value) (ms : Members) (i j n : ℕ) → i ≡ names_before k ms → j ≡ names_up_to k ms → n + j ≡ length (member_list ms) → put k v ms ≡ joined (part ms 0 i) (member k v (part ms j n))
put_parts_at k v ms i j n ei ej size =
    put_parts k v ms n (omega (arith, ej, size)) ∙ ap (λ x. joined (part ms 0 x) (member k v (part ms (names_up_to k ms) n))) (sym ei) ∙ ap (λ x. joined (part ms 0 i) (member k v (part ms x n))) (sym ej)
