use Rattle.std.proofs.Common.{[], ◌++◌, if◌then◌else◌, sym, ap, ◌∙◌, append-nil}
use Rattle.mg_packed.specs.Tables.{copy_of}
use Rattle.mg_packed.proofs.build.push_copy.Goals as goal

pub returns-in_ok-extend_from_slice : goal.returns-in_ok-extend_from_slice
unfolding copy_of
returns-in_ok-extend_from_slice c =
    let s = c.args.text.now in
    let o = c.args.copies.now.items in
    c.in_ok-extend_from_slice.ensures.items ∙ ap (λ x. o ++ x) c.as_bytes.ensures.value ∙ ap (λ b. o ++ (if b then [] else s)) c.if-not-is_plain.ensures

pub returns-else-not-is_plain : goal.returns-else-not-is_plain
unfolding copy_of
returns-else-not-is_plain c =
    let s = c.args.text.now in
    let o = c.args.copies.now.items in
    sym (append-nil o) ∙ ap (λ b. o ++ (if b then [] else s)) c.if-not-is_plain.ensures
