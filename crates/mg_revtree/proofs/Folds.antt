-- Older nodes in order with newer ones of other texts.
use Rattle.std.proofs.Common.{◌≡◌, ◌∙◌, ◌+◌, ◌-◌, ◌<◌, ℕ, zero, suc, List, [], ◌∷◌, ◌++◌, Option, Some, None, ap, append_assoc, arith, drop, get_or, map, length, option_map, refl, subst, sym, take}
use Rattle.std.specs.List.{drop-map, take-map}
use Rattle.std.specs.Option.{option_or}
use Rattle.std.specs.declared.cmp.Ordering.TheVariants.{Less}
use Rattle.std.proofs.lemmas.List.{drop-drop, get_or_default, map-append, map_more}
use Rattle.mg_revtree.specs.Revision.{Revision, revision_order}
use Rattle.mg_revtree.specs.History.{Link}
use Rattle.mg_revtree.specs.Tree.{AreSorted}
use Rattle.mg_revtree.specs.Nodes.{NodesWithin, IsExtendedBy, NodeWithin, link_in, text_of_part}
use Rattle.mg_revtree.specs.Steps.{BelongsAt, IsLinkAt}
use Rattle.mg_revtree.specs.Known.{AreBelow, with_link, with_links}
use Rattle.mg_revtree.specs.declared.links.node.Node.{Node}
use Rattle.mg_revtree.specs.declared.links.node.IdPart.{IdPart}
use Rattle.mg_revtree.proofs.Find.{place_is, sorted_at}
use Rattle.mg_revtree.proofs.Texts.{grown-length, grown-links, kept_at, node-within, now_is, or_within, within-more}
use Rattle.mg_revtree.proofs.Kept.{are_below-append, are_below_less, gap_above, gap_with, place_below, place_with, sorted_all, with_more, with_passed}
use Rattle.mg_revtree.proofs.Rooms.{sorted_back, sorted_front}

-- ---- what stays within

module _ (n : ℕ) where
  pub within-append : (xs ys : List Node) → NodesWithin n xs → NodesWithin n ys → NodesWithin n (xs ++ ys)
  within-append [] ys h k = k
  within-append (x ∷ xs) ys h k = (h.0, within-append xs ys h.1 k)

  pub within-take : (i : ℕ) (xs : List Node) → NodesWithin n xs → NodesWithin n (take i xs)
  within-take zero [] h = tt
  within-take zero (x ∷ xs) h = tt
  within-take (suc i) [] h = tt
  within-take (suc i) (x ∷ xs) h = (h.0, within-take i xs h.1)

  pub within-drop : (i : ℕ) (xs : List Node) → NodesWithin n xs → NodesWithin n (drop i xs)
  within-drop zero [] h = tt
  within-drop zero (x ∷ xs) h = h
  within-drop (suc i) [] h = tt
  within-drop (suc i) (x ∷ xs) h = within-drop i xs h.1

-- ---- a node added behind the older ones below it

module _ (t : List ℕ) (made older : List Node) (i : ℕ) where
  mapped : (y : Node) → map (link_in t) ((made ++ take i older) ++ y ∷ []) ≡ (map (link_in t) made ++ take i (map (link_in t) older)) ++ link_in t y ∷ []
  mapped y =
      map-append (link_in t) (made ++ take i older) (y ∷ [])
      ∙ ap (λ ls. ls ++ link_in t y ∷ []) (map-append (link_in t) made (take i older) ∙ ap (λ ls. map (link_in t) made ++ ls) (sym (take-map (link_in t) i older)))

  regrouped : (y : Node) (k : ℕ) → map (link_in t) ((made ++ take i older) ++ y ∷ []) ++ map (link_in t) (drop k older) ≡ map (link_in t) made ++ (take i (map (link_in t) older) ++ link_in t y ∷ drop k (map (link_in t) older))
  regrouped y k =
      let m = map (link_in t) made in
      let l = map (link_in t) older in
      ap (λ ls. ls ++ map (link_in t) (drop k older)) (mapped y)
      ∙ ap (λ ls. ((m ++ take i l) ++ link_in t y ∷ []) ++ ls) (sym (drop-map (link_in t) k older))
      ∙ append_assoc (m ++ take i l) (link_in t y ∷ []) (drop k l)
      ∙ append_assoc m (take i l) (link_in t y ∷ drop k l)

  below_made : (r : Revision) (y : Node) → AreBelow r (map (link_in t) made) → AreBelow r (take i (map (link_in t) older)) → revision_order (link_in t y).rev r ≡ Less → AreBelow r (map (link_in t) ((made ++ take i older) ++ y ∷ []))
  below_made r y h k lt =
      let m = map (link_in t) made in
      let l = map (link_in t) older in
      subst (AreBelow r) (sym (mapped y)) (are_below-append r (m ++ take i l) (link_in t y ∷ []) (are_below-append r m (take i l) h k) (lt, tt))

  pub within_made : (n : ℕ) (y : Node) → NodesWithin n made → NodesWithin n older → NodeWithin n y → NodesWithin n ((made ++ take i older) ++ y ∷ [])
  within_made n y h k w = within-append n (made ++ take i older) (y ∷ []) (within-append n made (take i older) h (within-take n i older k)) (w, tt)

  module _ (x : Node) where
    -- where its revision is not an older one
    module _ (gap : BelongsAt (link_in t x).rev (map (link_in t) older) i) where
      pub links_put : map (link_in t) ((made ++ take i older) ++ x ∷ []) ++ map (link_in t) (drop i older) ≡ map (link_in t) made ++ with_link (link_in t x) (map (link_in t) older)
      links_put = regrouped x i ∙ ap (λ ls. map (link_in t) made ++ ls) (gap_with (link_in t x) (map (link_in t) older) i gap)

      pub below_put : (r : Revision) → revision_order (link_in t x).rev r ≡ Less → AreBelow r (map (link_in t) made) → AreBelow r (map (link_in t) ((made ++ take i older) ++ x ∷ []))
      below_put r lt h = below_made r x h (are_below_less (link_in t x).rev r _ lt (gap_above (link_in t x).rev (map (link_in t) older) i gap)) lt

    -- joined to the older one of its revision
    module _ (kept now : Node) (lt : i < length older) (is : kept ≡ get_or older i kept) (joined : now ≡ record kept { parent = option_or kept.parent x.parent }) where
      pub within_joined : (n : ℕ) → NodesWithin n older → NodeWithin n x → NodeWithin n now
      within_joined n h w =
          let k : NodeWithin n kept = subst (NodeWithin n) (sym is) (node-within n older i kept lt h) in
          subst (NodeWithin n) (sym joined) (k.0, or_within n kept.parent x.parent k.1 w.1)

      module _ (sorted : AreSorted (map (link_in t) older)) (place : IsLinkAt (link_in t x).rev (map (link_in t) older) i) where
        pub links_joined : map (link_in t) ((made ++ take i older) ++ now ∷ []) ++ map (link_in t) (drop (i + 1) older) ≡ map (link_in t) made ++ with_link (link_in t x) (map (link_in t) older)
        links_joined =
            let l = map (link_in t) older in
            let up : i + 1 ≡ suc i = omega arith in
            ap (λ (k : ℕ). map (link_in t) ((made ++ take i older) ++ now ∷ []) ++ map (link_in t) (drop k older)) up
            ∙ regrouped now (suc i)
            ∙ ap (λ ls. map (link_in t) made ++ ls) (ap (λ (y : Link). take i l ++ y ∷ drop (suc i) l) (now_is t x kept now older i lt is joined place) ∙ place_with (link_in t x) (link_in t kept) l i sorted place (kept_at t x kept now older i lt is joined))

        pub below_joined : (r : Revision) → revision_order (link_in t x).rev r ≡ Less → AreBelow r (map (link_in t) made) → AreBelow r (map (link_in t) ((made ++ take i older) ++ now ∷ []))
        below_joined r less h =
            let l = map (link_in t) older in
            let same : (link_in t now).rev ≡ (link_in t x).rev = ap (λ y. (link_in t y).rev) joined ∙ place_is (link_in t x).rev l i (link_in t kept) place (kept_at t x kept now older i lt is joined) in
            below_made r now h (are_below_less (link_in t x).rev r _ less (place_below (link_in t x).rev l i sorted place)) (subst (λ (q : Revision). revision_order q r ≡ Less) (sym same) less)

-- ---- nodes of other texts

parent_of_text : (n : ℕ) (t : List ℕ) (o : Option IdPart) → option_map {U = Revision} (λ p. (n, text_of_part t p)) o ≡ option_map {U = Revision} (λ s. (n, s)) (option_map (text_of_part t) o)
parent_of_text n t None = refl
parent_of_text n t (Some p) = refl

-- nodes at one position with the same texts are the same link
pub same_link : (t u : List ℕ) (x y : Node) → x.pos ≡ y.pos → text_of_part t x.id ≡ text_of_part u y.id → option_map (text_of_part t) x.parent ≡ option_map (text_of_part u) y.parent → link_in t x ≡ link_in u y
same_link t u x y pos id parent = rw (pos, id, parent_of_text (y.pos - 1) t x.parent, parent_of_text (y.pos - 1) u y.parent, parent) refl

-- ---- the newer nodes so far

-- what is made of the newer nodes before place at, and of the older ones before place from
module _ (t0 t t' other : List ℕ) (grown : IsExtendedBy t0 t) (grows : IsExtendedBy t t') (older made newer : List Node) (from at : ℕ) (older_within : NodesWithin (length t0) older) (made_within : NodesWithin (length t) made) (sorted : AreSorted (map (link_in t0) older)) (whole : map (link_in t) made ++ map (link_in t) (drop from older) ≡ with_links (map (link_in t0) older) (map (link_in other) (take at newer))) where
  all_sorted : AreSorted (map (link_in t) made ++ map (link_in t) (drop from older))
  all_sorted = subst AreSorted (sym whole) (sorted_all (map (link_in t0) older) (map (link_in other) (take at newer)) sorted)

  pub older_sorted : AreSorted (map (link_in t) older)
  older_sorted = subst AreSorted (sym (grown-links t0 t grown older older_within)) sorted

  pub made_sorted : AreSorted (map (link_in t) made)
  made_sorted = sorted_front (map (link_in t) made) (map (link_in t) (drop from older)) all_sorted

  same_made : map (link_in t') made ≡ map (link_in t) made
  same_made = grown-links t t' grows made made_within

  same_rest : map (link_in t') (drop from older) ≡ map (link_in t) (drop from older)
  same_rest = grown-links t t' grows (drop from older) (within-drop (length t) from older (within-more (length t0) (length t) (grown-length t0 t grown) older older_within))

  pub rest_sorted : AreSorted (map (link_in t') (drop from older))
  rest_sorted = subst AreSorted (sym same_rest) (sorted_back (map (link_in t) made) (map (link_in t) (drop from older)) all_sorted)

  -- the newer node at place at, added
  module _ (x d : Node) (new : List Node) (n : ℕ) (lt : at < length newer) (link : link_in t' x ≡ link_in other (get_or newer at d)) where
    pub links_next : AreBelow (link_in other (get_or newer at d)).rev (map (link_in t) made) → map (link_in t') new ++ map (link_in t') (drop n (drop from older)) ≡ map (link_in t') made ++ with_link (link_in t' x) (map (link_in t') (drop from older)) → map (link_in t') new ++ map (link_in t') (drop (from + n) older) ≡ with_links (map (link_in t0) older) (map (link_in other) (take (at + 1) newer))
    links_next below added =
        let m = map (link_in t) made in
        let r = map (link_in t) (drop from older) in
        let l = link_in other (get_or newer at d) in
        let old = map (link_in t0) older in
        ap (λ (ns : List Node). map (link_in t') new ++ map (link_in t') ns) (sym (drop-drop n from older))
        ∙ added
        ∙ ap (λ ls. ls ++ with_link (link_in t' x) (map (link_in t') (drop from older))) same_made
        ∙ ap (λ (k : Link). m ++ with_link k (map (link_in t') (drop from older))) link
        ∙ ap (λ ls. m ++ with_link l ls) same_rest
        ∙ sym (with_passed l m r below)
        ∙ ap (with_link l) whole
        ∙ with_more old (map (link_in other) (take at newer)) l
        ∙ ap (with_links old) (sym (map_more (link_in other) newer at d lt))

    pub below_next : AreSorted (map (link_in other) newer) → (j : ℕ) (k : Node) → at < j → j < length newer → AreBelow (link_in other (get_or newer j k)).rev (map (link_in t) made) → ((r : Revision) → revision_order (link_in t' x).rev r ≡ Less → AreBelow r (map (link_in t') made) → AreBelow r (map (link_in t') new)) → AreBelow (link_in other (get_or newer j k)).rev (map (link_in t') new)
    below_next ordered j k later inside below added =
        let r = (link_in other (get_or newer j k)).rev in
        let same : link_in t' x ≡ link_in other (get_or newer at k) = link ∙ ap (link_in other) (get_or_default newer at d k lt) in
        added r (subst (λ (l : Link). revision_order l.rev r ≡ Less) (sym same) (sorted_at (link_in other) newer at j k later inside ordered)) (subst (AreBelow r) (sym same_made) below)
