use Rattle.std.proofs.Common.{◌≡◌, ℕ, List, ◌+◌, ◌-◌, ◌==◌, [], ◌∷◌, length, take, drop, rules, arith, sym, ap, ◌∙◌}
use Rattle.std.specs.List.{slice_split}
use Rattle.std.proofs.lemmas.List.{take_rest}
use Rattle.std.proofs.lemmas.List.Sums.{position_or_len_is}
use Rattle.mg_http.specs.Segments.{segments_of_rest, segments_left}
use Rattle.mg_http.proofs.RouteLemmas.{first_segment, whole_segment}
use Rattle.mg_http.proofs.request.route_match.SegmentsIterator.next.Goals.{After-self-in-Some-1, After-self-in-None-1}
use Rattle.mg_http.proofs.request.route_match.SegmentsIterator.next.Goals as goal

-- the segment ends at the first slash
at_slash : (c : After-self-in-Some-1) → segments_left c.args.self.now ≡ take c.in-Some.slash c.in_ok-rest.rest.now
    ∷ slice_split (λ b. b == 47) (take (length c.in_ok-rest.rest.now - (c.in-Some.slash + 1)) (drop (c.in-Some.slash + 1) c.in_ok-rest.rest.now))
at_slash c =
    let rest = c.in_ok-rest.rest.now in
    let at = c.in-Some.slash in
    let found = position_or_len_is (λ (b : ℕ). b == 47) rest at 0 (search rules) (search rules) (search rules) in
    ap segments_of_rest c.in_ok-rest.was ∙ first_segment rest at found (search rules)
    ∙ ap (λ (t : List ℕ). take at rest ∷ slice_split (λ b. b == 47) t) (sym (take_rest rest (at + 1)))

at_end : (c : After-self-in-None-1) → segments_left c.args.self.now ≡ c.in_ok-rest.rest.now ∷ []
at_end c =
    let rest = c.in_ok-rest.rest.now in
    let none = position_or_len_is (λ (b : ℕ). b == 47) rest (length rest) 0 (omega arith) (search rules) (search rules) in
    ap segments_of_rest c.in_ok-rest.was ∙ whole_segment rest none

pub returns-in-Some-clause-steps : goal.returns-in-Some-clause-steps
returns-in-Some-clause-steps c = at_slash c

pub returns-in-Some-clause-goes : goal.returns-in-Some-clause-goes
returns-in-Some-clause-goes c =
    record { on = λ _. (tt, tt, omega (arith, ap length (at_slash c))); keeps = tt; rests = λ _. tt }

pub returns-in-None-clause-steps : goal.returns-in-None-clause-steps
returns-in-None-clause-steps c = at_end c
