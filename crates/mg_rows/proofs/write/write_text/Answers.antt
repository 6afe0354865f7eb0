use Rattle.std.proofs.Common.{◌≡◌, [], ◌∷◌, ◌++◌, suc, map, length, IsUtf8, subst, ap, sym, ◌∙◌, append_assoc, rules}
use Rattle.mg_rows.specs.Bytes.{text_before}
use Rattle.mg_rows.proofs.Inside.{part_behind, raised_behind, text_raised}
use Rattle.mg_rows.proofs.write.write_text.Goals as goal

pub raise-requires : goal.raise-requires
raise-requires c =
    let front = c.push.new.self.items in
    let start : c.len-start.result ≡ length front = search rules in
    let all = c.deref_mut.ensures.value ∙ c.in_ok-extend_from_slice.ensures.items in
    subst IsUtf8 (sym (part_behind c.deref_mut.result.now front c.as_bytes-bytes.result.now c.len-start.result all start)) c.as_bytes-bytes.ensures.utf8

pub returns-clause-bytes : goal.returns-clause-bytes
returns-clause-bytes c =
    let front = c.push.new.self.items in
    let text = c.as_bytes-bytes.result.now in
    let start : c.len-start.result ≡ length front = search rules in
    let all = c.deref_mut.ensures.value ∙ c.in_ok-extend_from_slice.ensures.items in
    let part = c.raise.ensures ∙ ap (map suc) (part_behind c.deref_mut.result.now front text c.len-start.result all start) in
    c.in_ok-push-2.ensures.items ∙ ap (λ s. s ++ 0 ∷ []) (raised_behind c.deref_mut.result.now front text c.raise.new.bytes _ _ c.len-start.result _ all start part c.deref_mut.ensures.len)
    ∙ append_assoc front (map suc text) (0 ∷ []) ∙ ap (λ s. front ++ s) (text_raised text [])
    ∙ ap (λ s. s ++ text_before text []) (c.in_ok-push.ensures.items ∙ ap (λ s. s ++ 5 ∷ []) c.reserve.ensures.items) ∙ append_assoc c.args.out.now.items (5 ∷ []) (text_before text [])
    ∙ ap (λ s. c.args.out.now.items ++ 5 ∷ text_before s []) c.as_bytes-bytes.ensures.value
