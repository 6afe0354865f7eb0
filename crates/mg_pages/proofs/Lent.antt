-- Runs that begin a list, and runs that end it.
use Rattle.std.proofs.Common.{◌≡◌, ◌<◌, List, [], ◌∷◌, ◌++◌, length, Ordering, refl, sym, ap, ◌∙◌, subst, arith, append_assoc, append-nil}
use Rattle.std.specs.Cmp.{IsTotalOrder}
use Rattle.mg_pages.specs.Order.{IsProbe, Ascends, above, below}
use Rattle.mg_pages.specs.Runs.{continued, ended, IsRun, IsEndRun}
use Rattle.mg_pages.proofs.Sorted.{above_suffix, below_prefix, continued_is, ended_is}

pub empty_of_length : {X : Type 0} (xs : List X) → length xs ≡ 0 → xs ≡ []
empty_of_length [] e = refl
empty_of_length (x ∷ xs) e = absurd (omega (arith, e))

pub run_whole : {X : Type 0} (run xs : List X) → run ≡ xs → IsRun run xs
run_whole run xs e = record { rest = []; is = sym e ∙ sym (append-nil run); some = λ n. sym e ∙ empty_of_length run n }

pub run_more : {X : Type 0} (run xs ys zs : List X) → IsRun run xs → 0 < length run → zs ≡ xs ++ ys → IsRun run zs
run_more run xs ys zs r n e = record {
  rest = r.rest ++ ys;
  is = e ∙ ap (λ us. us ++ ys) r.is ∙ append_assoc run r.rest ys;
  some = λ m. absurd (omega (arith, n, m));
}

pub run_next : {X : Type 0} (before run xs ys zs : List X) → IsRun before xs → length before ≡ 0 → IsRun run ys → zs ≡ xs ++ ys → IsRun run zs
run_next before run xs ys zs b n r e = subst (IsRun run) (sym (e ∙ ap (λ us. us ++ ys) (b.some n))) r

pub continued_whole : {T : Type 0} (order : T → T → Ordering) → IsTotalOrder order → (run xs : List T) → IsRun run xs → Ascends order xs → continued order xs run ≡ xs
continued_whole order o run xs r s = continued_is order o xs [] run r.rest r.is s (λ n. sym r.is ∙ r.some n) ∙ sym r.is

pub continued_above : {T : Type 0} (order : T → T → Ordering) → IsTotalOrder order → (against : T → Ordering) → IsProbe order against → (run xs : List T) → IsRun run (above against xs) → Ascends order xs → continued order xs run ≡ above against xs
continued_above order o against p run xs r s =
    let cut = above_suffix order against p xs s in
    continued_is order o xs cut.0 run r.rest (cut.1 ∙ ap (λ us. cut.0 ++ us) r.is) s (λ n. sym r.is ∙ r.some n) ∙ sym r.is

pub end_whole : {X : Type 0} (run xs : List X) → run ≡ xs → IsEndRun run xs
end_whole run xs e = record { rest = []; is = sym e; some = λ n. sym e ∙ empty_of_length run n }

pub end_more : {X : Type 0} (run xs ys zs : List X) → IsEndRun run xs → 0 < length run → zs ≡ ys ++ xs → IsEndRun run zs
end_more run xs ys zs r n e = record {
  rest = ys ++ r.rest;
  is = e ∙ ap (λ us. ys ++ us) r.is ∙ sym (append_assoc ys r.rest run);
  some = λ m. absurd (omega (arith, n, m));
}

pub end_some : {X : Type 0} (run xs : List X) → IsEndRun run xs → 0 < length xs → 0 < length run
end_some [] xs r n = absurd (omega (arith, n, ap length (r.some refl)))
end_some (x ∷ run) xs r n = omega arith

pub end_next : {X : Type 0} (before run xs ys zs : List X) → IsEndRun before xs → length before ≡ 0 → IsEndRun run ys → zs ≡ ys ++ xs → IsEndRun run zs
end_next before run xs ys zs b n r e = subst (IsEndRun run) (sym (e ∙ ap (λ us. ys ++ us) (b.some n) ∙ append-nil ys)) r

pub ended_whole : {T : Type 0} (order : T → T → Ordering) → IsTotalOrder order → (run xs : List T) → IsEndRun run xs → Ascends order xs → ended order xs run ≡ xs
ended_whole order o run xs r s = ended_is order o xs r.rest run [] (r.is ∙ sym (append-nil (r.rest ++ run))) s (λ n. sym r.is ∙ r.some n) ∙ sym r.is

pub ended_below : {T : Type 0} (order : T → T → Ordering) → IsTotalOrder order → (against : T → Ordering) → IsProbe order against → (run xs : List T) → IsEndRun run (below against xs) → Ascends order xs → ended order xs run ≡ below against xs
ended_below order o against p run xs r s =
    let cut = below_prefix order against p xs s in
    ended_is order o xs r.rest run cut.0 (cut.1 ∙ ap (λ us. us ++ cut.0) r.is) s (λ n. sym r.is ∙ r.some n) ∙ sym r.is
