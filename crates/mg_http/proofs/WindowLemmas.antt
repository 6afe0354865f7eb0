-- What a window of the bytes (the first 16,384) refuses, the bytes refuse.
use Rattle.std.proofs.Common.{◌≡◌, ◌++◌, ℕ, Bool, List, length, take, drop, min, inl, inr, arith}
use Rattle.mg_engine.specs.declared.refusal.Refusal.{Refusal}
use Rattle.mg_http.specs.declared.request.head.Pending.TheVariants as pending
use Rattle.mg_http.specs.Steps.{IsHeadRead, IsPending}
use Rattle.mg_http.proofs.MessageLemmas.{has_head, same_window}

pub refused_in_window : (db bytes : List ℕ) (k : ℕ) (refusal : Refusal) (omits_body : Bool) → k ≡ min (length bytes) 16384
    → IsHeadRead db (take k bytes) (pending.Refused refusal omits_body) → IsPending db bytes (pending.Refused refusal omits_body)
refused_in_window db bytes k refusal omits_body e (inl (h, after, reads, inl framing, quiet)) =
    inl (inl (h, after ++ drop k bytes, has_head bytes k h after (omega (arith, e)) reads, framing, quiet))
refused_in_window db bytes k refusal omits_body e (inl (h, after, reads, inr lacks, quiet)) =
    inr (lacks, h, after ++ drop k bytes, has_head bytes k h after (omega (arith, e)) reads, quiet)
refused_in_window db bytes k refusal omits_body e (inr (none, bad, quiet)) =
    inl (inr (inl (rw (same_window k bytes e) at none, bad, quiet)))
