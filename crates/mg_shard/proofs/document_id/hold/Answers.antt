use Rattle.std.proofs.Common.{◌≡◌, arith, rules, sym, string_bytes, subst, take, IsUtf8}
use Rattle.std.proofs.lemmas.Str.{IsUtf8-string_bytes}
use Rattle.mg_shard.proofs.document_id.hold.Goals as goal

pub returns-then-count-le-INLINE-clause-text : goal.returns-then-count-le-INLINE-clause-text
returns-then-count-le-INLINE-clause-text c =
    let same : take c.len-count.result c.pad.result ≡ string_bytes c.args.id = search rules in
    (omega arith, subst IsUtf8 (sym same) (IsUtf8-string_bytes c.args.id))
