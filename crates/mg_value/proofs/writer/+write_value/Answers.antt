use Rattle.std.proofs.Common.{◌≡◌, [], ◌∷◌, ◌++◌, string_bytes, string_cmp, sym, ap, ◌∙◌, subst, append_assoc, rules}
use Rattle.std.specs.List.Sorted.{IsStrictlySortedBy}
use Rattle.std.specs.Map.{keys_of}
use Rattle.json.specs.Token.{key}
use Rattle.mg_value.specs.Held.{MembersAreHeld, tokens_of, members_tokens_of}
use Rattle.mg_value.specs.View.{view, members_view}
use Rattle.mg_value.proofs.Views.{Entry}
use Rattle.mg_value.proofs.Written.{above_middle}
use Rattle.mg_value.proofs.writer.+write_value.Goals as goal

pub write_members-loop-name-preserved : goal.write_members-loop-name-preserved
write_members-loop-name-preserved t c =
    let l = c.loop-name in
    let done = l.invariant.2 in
    let e : Entry = (c.in-Some.name.now, c.in-Some.member.now) in
    let left = c.next.new.self in
    let step : l.name-iterator ≡ e ∷ left = c.in-Some.ensures.steps in
    let all : c.args.members.now.entries ≡ done ++ e ∷ left = l.invariant.3 ∙ ap (λ es. done ++ es) step in
    let above = above_middle done e left (subst (λ es. IsStrictlySortedBy string_cmp (keys_of es)) all c.iter-name-items.ensures.ordered) in
    let named : c.key.new.self.tokens ≡ l.out.tokens ++ key (string_bytes e.0) ∷ [] = search rules in
    let rest = members_tokens_of (members_view left) in
    let tokens : c.write_value.new.out.tokens ++ rest ≡ l.out.tokens ++ key (string_bytes e.0) ∷ (tokens_of (view e.1) ++ rest) =
    ap (λ ts. ts ++ rest) (c.in_ok-write_value.ensures.tokens ∙ ap (λ ts. ts ++ tokens_of (view e.1)) named) ∙ append_assoc _ (tokens_of (view e.1)) rest ∙ append_assoc l.out.tokens (key (string_bytes e.0) ∷ []) _ in (
      search rules,
      l.invariant.1 ∙ ap (λ es. l.out.tokens ++ members_tokens_of (members_view es)) step ∙ sym tokens,
      done ++ e ∷ [],
      all ∙ sym (append_assoc done (e ∷ []) left),
      λ held. l.invariant.4 (subst (λ es. MembersAreHeld (members_view es)) (sym step) (above, c.in_ok-write_value.ensures.held, held)),
    )
