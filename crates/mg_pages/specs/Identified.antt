-- Elements in the order of their ids, byte by byte.
use Rattle.std.specs.Prelude.{ℕ, List}
use Rattle.std.specs.Cmp.{IsTotalOrder}
use Rattle.std.specs.Cmp.Lexicographic.{slice_cmp}
use Rattle.std.specs.Ordering.{nat_cmp, on}
use Rattle.std.specs.declared.cmp.Ordering.{Ordering}
use Rattle.std.proofs.lemmas.Cmp.{on_total, nat_list_cmp_total}
use Rattle.mg_pages.specs.Order.{IsProbe, probe_through}

-- the order by id
abbrev pub id_order : {T : Type 0} → (T → List ℕ) → T → T → Ordering
id_order id = on id (slice_cmp nat_cmp)

-- the order of an id against the id of an element
abbrev pub id_against : {T : Type 0} → (T → List ℕ) → List ℕ → T → Ordering
id_against id key x = slice_cmp nat_cmp key (id x)

-- the order by id is total
pub id_order_total : {T : Type 0} (id : T → List ℕ) → IsTotalOrder (id_order id)
id_order_total id = on_total id nat_list_cmp_total

-- an id is a key
pub id_probes : {T : Type 0} (id : T → List ℕ) (key : List ℕ) → IsProbe (id_order id) (id_against id key)
id_probes id key = probe_through nat_list_cmp_total id key
