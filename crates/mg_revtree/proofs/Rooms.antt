-- A run joined in a room: how nodes move, and what lies above the room.
use Rattle.std.proofs.Common.{◌≡◌, ◌∙◌, ℕ, zero, suc, ◌+◌, ◌-◌, ◌<◌, ◌≤◌, List, [], ◌∷◌, ◌++◌, length, length-append, append_assoc, append-nil, take, drop, set, get_or, map, refl, ap, sym, subst, arith, Bor, MatchOption, Option, Some, None, option_copied, option_map, length-take, Result, Ok, Err, is_ok, if◌then◌else◌}
use Rattle.std.specs.Ordering.{nat_cmp}
use Rattle.std.specs.List.{copy_within, insert}
use Rattle.std.specs.declared.cmp.Ordering.{Ordering}
use Rattle.std.specs.declared.cmp.Ordering.TheVariants.{Less, Equal, Greater}
use Rattle.std.specs.List.{HoldsAt, drop-map}
use Rattle.std.proofs.lemmas.List.{drop-append-le, drop-set-lt, drop-take, drop_all, drop_more, get_or-take, get_or_append_left, get_or_default, length-take-le, map-append, set-append_left, set_split, take-append-le, take-take, take_all}
use Rattle.std.proofs.Math.Seq.{drop_at, take-set-lt, take_at}
use Rattle.std.proofs.lemmas.Bool.Decides.{nat_tests}
use Rattle.mg_revtree.specs.Revision.{Revision, revision_order, run_from}
use Rattle.std.specs.Option.{option_or}
use Rattle.mg_revtree.specs.History.{Link, links, newest_of}
use Rattle.mg_revtree.specs.Tree.{AreKnownLinks, AreSorted, IsBelow, find, known_parent}
use Rattle.mg_revtree.specs.Steps.{BelongsAt, IsLinkAt, put}
use Rattle.mg_revtree.specs.Nodes.{NodesWithin, LiesWithin, NodeWithin, ParentWithin, PartsWithin, link_in, links_in, text_of_part}
use Rattle.mg_revtree.specs.Room.{AreFrom, Joins, used}
use Rattle.mg_revtree.specs.declared.links.node.Node.{Node}
use Rattle.mg_revtree.specs.declared.links.node.IdPart.{IdPart}
use Rattle.mg_revtree.proofs.Find.{find-insert, gap_none, sorted-insert}
use Rattle.mg_revtree.proofs.Joins.{known_parent-put-before}
use Rattle.mg_revtree.proofs.Texts.{find-joined, map-insert, part-within, sorted-joined, within-joined}

-- ---- a node put into a room

module _ {A : Type 0} (xs : List A) (at till from : ℕ) (x : A) (le : at ≤ till) (room : till < from) (inside : from ≤ length xs) where
  moved_is : set (copy_within xs at till (from - (till - at))) (from - (till - at) - 1) x ≡ take (from - (till - at) - 1) xs ++ x ∷ drop at (take till xs ++ drop from xs)
  moved_is =
      let k = till - at in
      let d = from - (till - at) in
      let tail = take k (drop at xs) ++ drop (d + k) xs in
      let split : copy_within xs at till d ≡ take d xs ++ tail = append_assoc (take d xs) (take k (drop at xs)) (drop (d + k) xs) in
      let long : length (take d xs) ≡ d = length-take-le d xs (omega arith) in
      let first : set (take d xs) (d - 1) x ≡ take (d - 1) xs ++ x ∷ [] =
      set_split (take d xs) (d - 1) x (omega (arith, long))
      ∙ ap (λ ys. ys ++ x ∷ drop (suc (d - 1)) (take d xs)) (take-take (d - 1) d xs (omega arith))
      ∙ ap (λ ys. take (d - 1) xs ++ x ∷ ys) (drop_all (suc (d - 1)) (take d xs) (omega (arith, long))) in
      let on : at + k ≡ till = omega arith in
      let up : d + k ≡ from = omega arith in
      let middle : drop at (take till xs) ≡ take k (drop at xs) = ap (λ n. drop at (take n xs)) (sym on) ∙ drop-take at k xs in
      let cut : drop at (take till xs ++ drop from xs) ≡ tail =
      drop-append-le at (take till xs) (drop from xs) (omega (arith, length-take-le till xs (omega arith)))
      ∙ ap (λ ys. ys ++ drop from xs) middle
      ∙ ap (λ n. take k (drop at xs) ++ drop n xs) (sym up) in
      ap (λ ys. set ys (d - 1) x) split
      ∙ set-append_left (take d xs) tail (d - 1) x (omega (arith, long))
      ∙ ap (λ ys. ys ++ tail) first
      ∙ append_assoc (take (d - 1) xs) (x ∷ []) tail
      ∙ ap (λ ys. take (d - 1) xs ++ x ∷ ys) (sym cut)

  pub put_after : (ys : List A) → ys ≡ set (copy_within xs at till (from - (till - at))) (from - (till - at) - 1) x → drop (from - (till - at) - 1) ys ≡ x ∷ drop at (take till xs ++ drop from xs)
  put_after ys is =
      let i = from - (till - at) - 1 in
      ap (drop i) (is ∙ moved_is) ∙ drop_at (take i xs) (x ∷ drop at (take till xs ++ drop from xs)) i (length-take-le i xs (omega arith))

  pub put_used : (ys : List A) → ys ≡ set (copy_within xs at till (from - (till - at))) (from - (till - at) - 1) x → take at ys ++ drop (from - (till - at) - 1) ys ≡ insert (take till xs ++ drop from xs) at x
  put_used ys is =
      let i = from - (till - at) - 1 in
      let tail = x ∷ drop at (take till xs ++ drop from xs) in
      let long : length (take i xs) ≡ i = length-take-le i xs (omega arith) in
      let before : take at ys ≡ take at xs =
      ap (take at) (is ∙ moved_is) ∙ take-append-le at (take i xs) tail (omega (arith, long)) ∙ take-take at i xs (omega arith) in
      let same : take at (take till xs ++ drop from xs) ≡ take at xs =
      take-append-le at (take till xs) (drop from xs) (omega (arith, length-take-le till xs (omega arith))) ∙ take-take at till xs le in
      ap (λ zs. zs ++ drop i ys) (before ∙ sym same) ∙ ap (λ zs. take at (take till xs ++ drop from xs) ++ zs) (put_after ys is)

-- ---- what lies above

-- links from a position on are above a revision at a lower one
pub from_above : (n : ℕ) (s : List ℕ) (ls : List Link) → AreFrom (n + 1) ls → IsBelow (n, s) ls
from_above n s [] h = tt
from_above n s (l ∷ ls) h = (let e : nat_cmp n l.rev.0 ≡ Less = grind (arith, nat_tests, h.0) in rw e refl, from_above n s ls h.1)

below_from : (r : Revision) (ls : List Link) → IsBelow r ls → AreFrom r.0 ls
below_from r [] h = tt
below_from r (l ∷ ls) h = (first (nat_cmp r.0 l.rev.0) refl h.0, below_from r ls h.1)
  where
    first : (o : Ordering) → nat_cmp r.0 l.rev.0 ≡ o → revision_order r l.rev ≡ Less → r.0 ≤ l.rev.0
    first Less e k = grind (arith, nat_tests)
    first Equal e k = grind (arith, nat_tests)
    first Greater e k = absurd (let c : revision_order r l.rev ≡ Greater = rw e refl in cc)

pub from_less : (n : ℕ) (ls : List Link) → AreFrom (n + 1) ls → AreFrom n ls
from_less n [] h = tt
from_less n (l ∷ ls) h = (omega (arith, h.0), from_less n ls h.1)

-- a revision's place among the first links is its place among all
pub place_append : (r : Revision) (ls ms : List Link) (i : ℕ) → IsLinkAt r ls i → IsLinkAt r (ls ++ ms) i
place_append r [] ms i h = absurd h
place_append r (l ∷ ls) ms zero h = h
place_append r (l ∷ ls) ms (suc i) h = (h.0, place_append r ls ms i h.1)

below_append : (r : Revision) (ls ms : List Link) → IsBelow r ls → IsBelow r ms → IsBelow r (ls ++ ms)
below_append r [] ms h k = k
below_append r (l ∷ ls) ms h k = (h.0, below_append r ls ms h.1 k)

-- if a revision is below the last links, it goes to the same place among all links as among the first ones
pub gap_append : (r : Revision) (ls ms : List Link) (i : ℕ) → BelongsAt r ls i → IsBelow r ms → BelongsAt r (ls ++ ms) i
gap_append r ls ms zero h k = below_append r ls ms h k
gap_append r [] ms (suc i) h k = absurd h
gap_append r (l ∷ ls) ms (suc i) h k = (h.0, gap_append r ls ms i h.1 k)

gap_below : (r : Revision) (ls : List Link) (i : ℕ) → BelongsAt r ls i → IsBelow r (drop i ls)
gap_below r ls zero h = h
gap_below r [] (suc i) h = absurd h
gap_below r (l ∷ ls) (suc i) h = gap_below r ls i h.1

-- the links after the gap of a revision are at its position or above
pub gap_from : (r : Revision) (ls : List Link) (i : ℕ) → BelongsAt r ls i → AreFrom r.0 (drop i ls)
gap_from r ls i h = below_from r (drop i ls) (gap_below r ls i h)

-- the first links of sorted ones are sorted
pub sorted_front : (ls ms : List Link) → AreSorted (ls ++ ms) → AreSorted ls
sorted_front [] ms h = tt
sorted_front (l ∷ ls) ms h = (below_front l.rev ls ms h.0, sorted_front ls ms h.1)
  where
    below_front : (r : Revision) (ks ms : List Link) → IsBelow r (ks ++ ms) → IsBelow r ks
    below_front r [] ms h = tt
    below_front r (k ∷ ks) ms h = (h.0, below_front r ks ms h.1)

-- the last links of sorted ones are sorted
pub sorted_back : (ls ms : List Link) → AreSorted (ls ++ ms) → AreSorted ms
sorted_back [] ms h = h
sorted_back (l ∷ ls) ms h = sorted_back ls ms h.1

-- ---- one more link

-- the known parent after one more link
pub known_parent-put : (r : Revision) (ls : List Link) (l : Link) → put l r (known_parent r ls) ≡ known_parent r (ls ++ l ∷ [])
known_parent-put r ls l = subst (λ (ks : List Link). put l r (known_parent r ks) ≡ known_parent r (ls ++ l ∷ [])) (append-nil ls) (known_parent-put-before r ls [] l refl)

pub known_links-put : (l : Link) (old new ls : List Link) → AreKnownLinks old ls → ((r : Revision) → find r new ≡ put l r (find r old)) → AreSorted new → AreKnownLinks new (ls ++ l ∷ [])
known_links-put l old new ls nodes puts sorted = record {
  same = λ r. puts r ∙ ap (put l r) (nodes.same r) ∙ known_parent-put r ls l;
  sorted = sorted;
}

-- ---- a node joined

module _ (t : List ℕ) (x : Node) (ns : List Node) (till from : ℕ) where
  links_used : map (link_in t) (used ns till from) ≡ map (link_in t) (take till ns) ++ map (link_in t) (drop from ns)
  links_used = map-append (link_in t) (take till ns) (drop from ns)

  -- put where it goes
  pub joins_put : (at : ℕ) (new after : List Node) → (AreSorted (map (link_in t) (take till ns)) → BelongsAt (link_in t x).rev (map (link_in t) (take till ns)) at) → new ≡ insert (used ns till from) at x → after ≡ x ∷ drop at (used ns till from) → AreSorted (map (link_in t) (used ns till from)) → AreFrom (x.pos + 1) (map (link_in t) (drop from ns)) → Joins t x (used ns till from) new after
  joins_put at new after gaps is after_is sorted above =
      let ls = map (link_in t) (take till ns) in
      let ms = map (link_in t) (drop from ns) in
      let front : AreSorted ls = sorted_front ls ms (subst AreSorted links_used sorted) in
      let gap : BelongsAt (link_in t x).rev (map (link_in t) (used ns till from)) at = subst (λ (ks : List Link). BelongsAt (link_in t x).rev ks at) (sym links_used) (gap_append (link_in t x).rev ls ms at (gaps front) (from_above x.pos (text_of_part t x.id) ms above)) in
      let all = map (link_in t) (used ns till from) in
      let place : map (link_in t) new ≡ insert all at (link_in t x) = ap (map (link_in t)) is ∙ map-insert (link_in t) (used ns till from) at x in
      record {
        kept = λ r. ap (find r) place ∙ find-insert (link_in t x) all at (gap_none (link_in t x).rev all at gap) r;
        sorted = subst AreSorted (sym place) (sorted-insert (link_in t x) all at gap sorted);
        above = subst (λ (ks : List Node). AreFrom x.pos (map (link_in t) ks)) (sym after_is) (omega arith, subst (AreFrom x.pos) (drop-map (link_in t) at (used ns till from)) (gap_from (link_in t x).rev all at gap));
      }

  -- joined to the known one
  module _ (at : ℕ) (d kept now : Node) (room : till ≤ from) (lt : at < length (take till ns)) (kept_is : kept ≡ get_or ns at d) (now_is : now ≡ record kept { parent = option_or kept.parent x.parent }) where
    below_till : at < till
    below_till = omega (arith, length-take till ns)

    below_long : at < length ns
    below_long = omega (arith, length-take till ns)

    below_used : at < length (used ns till from)
    below_used = omega (arith, length-append (take till ns) (drop from ns))

    pub used_set : used (set ns at now) till from ≡ set (used ns till from) at now
    used_set =
        ap (λ ys. ys ++ drop from (set ns at now)) (take-set-lt till ns at now below_till)
        ∙ ap (λ ys. set (take till ns) at now ++ ys) (drop-set-lt from ns at now (omega (arith, below_till)))
        ∙ sym (set-append_left (take till ns) (drop from ns) at now lt)

    kept_used : kept ≡ get_or (used ns till from) at kept
    kept_used =
        kept_is
        ∙ get_or_default ns at d kept below_long
        ∙ sym (get_or-take till ns at kept below_till)
        ∙ sym (get_or_append_left (take till ns) (drop from ns) kept at lt)

    pub joins_known : (AreSorted (map (link_in t) (take till ns)) → IsLinkAt (link_in t x).rev (map (link_in t) (take till ns)) at) → AreSorted (map (link_in t) (used ns till from)) → AreFrom (x.pos + 1) (map (link_in t) (drop from ns)) → Joins t x (used ns till from) (used (set ns at now) till from) (drop from (set ns at now))
    joins_known places sorted above =
        let ls = map (link_in t) (take till ns) in
        let ms = map (link_in t) (drop from ns) in
        let front : AreSorted ls = sorted_front ls ms (subst AreSorted links_used sorted) in
        let place : IsLinkAt (link_in t x).rev (map (link_in t) (used ns till from)) at = subst (λ (ks : List Link). IsLinkAt (link_in t x).rev ks at) (sym links_used) (place_append (link_in t x).rev ls ms at (places front)) in
        let found : (r : Revision) → find r (map (link_in t) (set (used ns till from) at now)) ≡ put (link_in t x) r (find r (map (link_in t) (used ns till from))) = find-joined t x kept now (used ns till from) at below_used kept_used now_is place in
        record {
          kept = λ r. ap (λ ys. find r (map (link_in t) ys)) used_set ∙ found r;
          sorted = subst (λ (ys : List Node). AreSorted (map (link_in t) ys)) (sym used_set) (sorted-joined t x kept now (used ns till from) at below_used kept_used now_is sorted);
          above = subst (λ (ys : List Node). AreFrom x.pos (map (link_in t) ys)) (sym (drop-set-lt from ns at now (omega (arith, below_till)))) (from_less x.pos ms above);
        }

    pub within_known : (n : ℕ) → NodesWithin n (used ns till from) → NodeWithin n x → NodesWithin n (used (set ns at now) till from)
    within_known n h w = subst (NodesWithin n) (sym used_set) (within-joined t x kept now (used ns till from) at below_used kept_used now_is n h w)

-- ---- a run joined, newest first

-- the links so far, which the nodes stand for, and what is left of the run
pub record Goes (t : List ℕ) (start : ℕ) (ps : List IdPart) (i pos : ℕ) (now after : List Node) (ls : List Link) : Type 0 where
  pub so_far : List Link
  pub nodes : AreKnownLinks (links_in t now) so_far
  pub rest : ls ++ links (run_from start (map (text_of_part t) ps)) ≡ so_far ++ links (run_from pos (map (text_of_part t) (drop i ps)))
  pub above : AreFrom (start + 1 - i) (links_in t after)

module _ (t : List ℕ) (start : ℕ) (ps : List IdPart) where
  pub goes_first : (ns : List Node) (known : ℕ) (ls : List Link) → AreKnownLinks (links_in t (take known ns)) ls → Goes t start ps 0 start (used ns known (length ns)) (drop (length ns) ns) ls
  goes_first ns known ls nodes =
      let none : drop (length ns) ns ≡ [] = drop_all (length ns) ns (omega arith) in
      record {
        so_far = ls;
        nodes = rw none (subst (λ (ks : List Node). AreKnownLinks (links_in t ks) ls) (sym (append-nil (take known ns))) nodes);
        rest = refl;
        above = rw none tt;
      }

  pub goes_on : (i pos : ℕ) (now after new later : List Node) (ls : List Link) (x : Node) → Goes t start ps i pos now after ls → i < length ps → length ps ≤ start + 1 → pos ≡ start - i → x.pos ≡ pos → x.id ≡ get_or ps i x.id → option_map {U = Revision} (λ p. (pos - 1, text_of_part t p)) x.parent ≡ newest_of (run_from (pos - 1) (map (text_of_part t) (drop (i + 1) ps))) → (AreSorted (links_in t now) → AreFrom (x.pos + 1) (links_in t after) → Joins t x now new later) → Goes t start ps (i + 1) (pos - 1) new later ls
  goes_on i pos now after new later ls x g lt run at here id newest joins =
      let up : start + 1 - i ≡ x.pos + 1 = omega (arith, here, at) in
      let down : x.pos ≡ start + 1 - (i + 1) = omega (arith, here, at) in
      let j : Joins t x now new later = joins g.nodes.sorted (subst (λ (n : ℕ). AreFrom n (links_in t after)) up g.above) in
      let rest = run_from (pos - 1) (map (text_of_part t) (drop (i + 1) ps)) in
      let link = λ (n : ℕ) (s : List ℕ) (o : Option Revision). (let l : Link = record { rev = (n, s); parent = o } in l) in
      let head : link pos (text_of_part t (get_or ps i x.id)) (newest_of rest) ≡ link_in t x =
      ap (λ (p : IdPart). link pos (text_of_part t p) (newest_of rest)) (sym id)
      ∙ ap (link pos (text_of_part t x.id)) (sym newest)
      ∙ ap (λ (n : ℕ). link n (text_of_part t x.id) (option_map {U = Revision} (λ p. (n - 1, text_of_part t p)) x.parent)) (sym here) in
      let split : links (run_from pos (map (text_of_part t) (drop i ps))) ≡ link_in t x ∷ links rest =
      ap (λ (qs : List IdPart). links (run_from pos (map (text_of_part t) qs))) (drop_more ps i x.id lt) ∙ ap (λ (l : Link). l ∷ links rest) head in
      record {
        so_far = g.so_far ++ link_in t x ∷ [];
        nodes = known_links-put (link_in t x) (links_in t now) (links_in t new) g.so_far g.nodes j.kept j.sorted;
        rest = g.rest ∙ ap (λ ks. g.so_far ++ ks) split ∙ sym (append_assoc g.so_far (link_in t x ∷ []) (links rest));
        above = subst (λ (n : ℕ). AreFrom n (links_in t later)) down j.above;
      }

  pub goes_last : (i pos : ℕ) (now after : List Node) (ls : List Link) → Goes t start ps i pos now after ls → length ps ≤ i → AreKnownLinks (links_in t now) (ls ++ links (run_from start (map (text_of_part t) ps)))
  goes_last i pos now after ls g past =
      let none : drop i ps ≡ [] = drop_all i ps past in
      let all : ls ++ links (run_from start (map (text_of_part t) ps)) ≡ g.so_far = g.rest ∙ ap (λ (qs : List IdPart). g.so_far ++ links (run_from pos (map (text_of_part t) qs))) none ∙ append-nil g.so_far in
      subst (AreKnownLinks (links_in t now)) (sym all) g.nodes

-- the part that is read at place i ends within n bytes, as all parts do
pub got_within : (n : ℕ) (ps : List IdPart) (i : ℕ) (r : Option (Bor IdPart)) → MatchOption r (length ps ≤ i) (λ x. (i < length ps) × HoldsAt (λ y. x.now ≡ y) ps i) → PartsWithin n ps → ParentWithin n (option_copied r)
got_within n ps i None h w = tt
got_within n ps i (Some x) h w = subst (LiesWithin n) (sym (h.1 x.now)) (part-within n ps i x.now h.0 w)

-- a vector that was made longer keeps its first items
pub resized : {A E : Type 0} (xs : List A) (known n : ℕ) (more ys : List A) (r : Result (Unit {0}) E) → known ≡ length xs → known ≤ n → ys ≡ (if is_ok r then take n xs ++ more else xs) → take known ys ≡ xs
resized xs known n more ys (Ok u) e le is =
    let all : take n xs ≡ xs = take_all n xs (omega (arith, e)) in
    ap (take known) (is ∙ ap (λ zs. zs ++ more) all) ∙ take_at xs more known (sym e)
resized xs known n more ys (Err u) e le is = ap (take known) is ∙ take_all known xs (omega (arith, e))
