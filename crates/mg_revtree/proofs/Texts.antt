-- Parts of a text, and the nodes made of them.
use Rattle.std.proofs.Common.{◌≡◌, ℕ, zero, suc, ◌+◌, ◌-◌, ◌<◌, ◌≤◌, Option, Some, None, List, [], ◌∷◌, ◌++◌, length, length-append, length-drop, append_assoc, get_or, map, option_map, set, take, drop, refl, ap, sym, ◌∙◌, subst, arith}
use Rattle.std.specs.List.{insert}
use Rattle.std.proofs.lemmas.List.{map-set, get_or-map, take-append-le, drop-append-le, map_push, map_more}
use Rattle.mg_revtree.specs.Revision.{Revision}
use Rattle.std.specs.Option.{option_or}
use Rattle.mg_revtree.specs.Tree.{AreSorted, find}
use Rattle.mg_revtree.specs.Nodes.{text_of_part, link_in, LiesWithin, ParentWithin, NodeWithin, NodesWithin, PartsWithin, IsExtendedBy}
use Rattle.mg_revtree.specs.Steps.{put, IsLinkAt}
use Rattle.mg_revtree.specs.Known.{parent_below}
use Rattle.mg_revtree.specs.declared.links.node.IdPart.{IdPart}
use Rattle.mg_revtree.specs.declared.links.node.Node.{Node}
use Rattle.mg_revtree.proofs.Find.{find-set, place_find, place_is, sorted-set}

-- ---- a text that grows

module _ (xs ys : List ℕ) where
  pub part-grown : (p : IdPart) → LiesWithin (length xs) p → text_of_part (xs ++ ys) p ≡ text_of_part xs p
  part-grown p h = rw (drop-append-le p.from xs ys (omega arith)) (take-append-le p.len (drop p.from xs) ys (omega (arith, length-drop p.from xs)))

  parent-grown : (n : ℕ) (o : Option IdPart) → ParentWithin (length xs) o → option_map {U = Revision} (λ p. (n - 1, text_of_part (xs ++ ys) p)) o ≡ option_map {U = Revision} (λ p. (n - 1, text_of_part xs p)) o
  parent-grown n None h = refl
  parent-grown n (Some p) h = rw (part-grown p h) refl

  pub link-grown : (x : Node) → NodeWithin (length xs) x → link_in (xs ++ ys) x ≡ link_in xs x
  link-grown x h = rw (part-grown x.id h.0, parent-grown x.pos x.parent h.1) refl

  pub links-grown : (ns : List Node) → NodesWithin (length xs) ns → map (link_in (xs ++ ys)) ns ≡ map (link_in xs) ns
  links-grown [] h = refl
  links-grown (x ∷ ns) h = rw (link-grown x h.0, links-grown ns h.1) refl

  pub parts-grown : (ps : List IdPart) → PartsWithin (length xs) ps → map (text_of_part (xs ++ ys)) ps ≡ map (text_of_part xs) ps
  parts-grown [] h = refl
  parts-grown (p ∷ ps) h = rw (part-grown p h.0, parts-grown ps h.1) refl

-- ---- what stays within

module _ (m n : ℕ) (le : m ≤ n) where
  parent-more : (o : Option IdPart) → ParentWithin m o → ParentWithin n o
  parent-more None h = tt
  parent-more (Some p) h = omega arith

  pub within-more : (ns : List Node) → NodesWithin m ns → NodesWithin n ns
  within-more [] h = tt
  within-more (x ∷ ns) h = ((omega (arith, h.0.0), parent-more x.parent h.0.1), within-more ns h.1)

  pub parts-more : (ps : List IdPart) → PartsWithin m ps → PartsWithin n ps
  parts-more [] h = tt
  parts-more (p ∷ ps) h = (omega (arith, h.0), parts-more ps h.1)

pub parts-push : (n : ℕ) (ps : List IdPart) (p : IdPart) → PartsWithin n ps → LiesWithin n p → PartsWithin n (ps ++ p ∷ [])
parts-push n [] p h w = (w, tt)
parts-push n (q ∷ ps) p h w = (h.0, parts-push n ps p h.1 w)

pub part-within : (n : ℕ) (ps : List IdPart) (i : ℕ) (d : IdPart) → i < length ps → PartsWithin n ps → LiesWithin n (get_or ps i d)
part-within n [] i d lt h = absurd (omega arith)
part-within n (p ∷ ps) zero d lt h = h.0
part-within n (p ∷ ps) (suc i) d lt h = part-within n ps i d (omega arith) h.1

pub node-within : (n : ℕ) (ns : List Node) (i : ℕ) (d : Node) → i < length ns → NodesWithin n ns → NodeWithin n (get_or ns i d)
node-within n [] i d lt h = absurd (omega arith)
node-within n (x ∷ ns) zero d lt h = h.0
node-within n (x ∷ ns) (suc i) d lt h = node-within n ns i d (omega arith) h.1

pub within-set : (n : ℕ) (ns : List Node) (i : ℕ) (x : Node) → NodeWithin n x → NodesWithin n ns → NodesWithin n (set ns i x)
within-set n [] i x w h = tt
within-set n (y ∷ ns) zero x w h = (w, h.1)
within-set n (y ∷ ns) (suc i) x w h = (h.0, within-set n ns i x w h.1)

pub within-insert : (n : ℕ) (ns : List Node) (i : ℕ) (x : Node) → NodeWithin n x → NodesWithin n ns → NodesWithin n (insert ns i x)
within-insert n ns zero x w h = (w, h)
within-insert n [] (suc i) x w h = (w, tt)
within-insert n (y ∷ ns) (suc i) x w h = (h.0, within-insert n ns i x w h.1)

-- the id of the node at a revision's place
pub part_at : (t : List ℕ) (r : Revision) (ns : List Node) (i : ℕ) (d : Node) → i < length ns → IsLinkAt r (map (link_in t) ns) i → text_of_part t (get_or ns i d).id ≡ r.1
part_at t r ns i d lt place = ap (λ (q : Revision). q.1) (place_is r (map (link_in t) ns) i (link_in t (get_or ns i d)) place (sym (get_or-map (link_in t) ns i d (link_in t (get_or ns i d)) lt)))

pub or_within : (n : ℕ) (a b : Option IdPart) → ParentWithin n a → ParentWithin n b → ParentWithin n (option_or a b)
or_within n None b h w = w
or_within n (Some p) b h w = h

-- ---- a node joined

pub map-insert : {A B : Type 0} (f : A → B) (xs : List A) (i : ℕ) (x : A) → map f (insert xs i x) ≡ insert (map f xs) i (f x)
map-insert f xs zero x = refl
map-insert f [] (suc i) x = refl
map-insert f (y ∷ xs) (suc i) x = ap (λ zs. f y ∷ zs) (map-insert f xs i x)

module _ (t : List ℕ) where
  joined_parent : (n : ℕ) (a b : Option IdPart) → option_map {U = Revision} (λ p. (n - 1, text_of_part t p)) (option_or a b) ≡ option_or (option_map {U = Revision} (λ p. (n - 1, text_of_part t p)) a) (option_map {U = Revision} (λ p. (n - 1, text_of_part t p)) b)
  joined_parent n None b = refl
  joined_parent n (Some p) b = refl

  joined_link : (kept given : Node) → kept.pos ≡ given.pos → link_in t (record kept { parent = option_or kept.parent given.parent }) ≡ record (link_in t kept) { parent = option_or (link_in t kept).parent (link_in t given).parent }
  joined_link kept given e = rw (joined_parent kept.pos kept.parent given.parent, e) refl

  -- the node at place i, joined to what is given
  module _ (given kept now : Node) (ns : List Node) (i : ℕ) (lt : i < length ns) (is : kept ≡ get_or ns i kept) (joined : now ≡ record kept { parent = option_or kept.parent given.parent }) where
    pub kept_at : link_in t kept ≡ get_or (map (link_in t) ns) i (link_in t kept)
    kept_at = ap (link_in t) is ∙ sym (get_or-map (link_in t) ns i kept (link_in t kept) lt)

    pub sorted-joined : AreSorted (map (link_in t) ns) → AreSorted (map (link_in t) (set ns i now))
    sorted-joined h = rw (map-set (link_in t) ns i now) (sorted-set (link_in t kept) (link_in t now) (map (link_in t) ns) i kept_at (ap (λ x. (link_in t x).rev) joined) h)

    pub within-joined : (n : ℕ) → NodesWithin n ns → NodeWithin n given → NodesWithin n (set ns i now)
    within-joined n h w =
        let k : NodeWithin n kept = subst (NodeWithin n) (sym is) (node-within n ns i kept lt h) in
        within-set n ns i now (subst (NodeWithin n) (sym joined) (k.0, or_within n kept.parent given.parent k.1 w.1)) h

    module _ (place : IsLinkAt (link_in t given).rev (map (link_in t) ns) i) where
      same_place : kept.pos ≡ given.pos
      same_place = ap (λ (r : Revision). r.0) (place_is (link_in t given).rev (map (link_in t) ns) i (link_in t kept) place kept_at)

      pub now_is : link_in t now ≡ record (link_in t kept) { parent = option_or (link_in t kept).parent (link_in t given).parent }
      now_is = ap (link_in t) joined ∙ joined_link kept given same_place

      pub find-joined : (r : Revision) → find r (map (link_in t) (set ns i now)) ≡ put (link_in t given) r (find r (map (link_in t) ns))
      find-joined = rw (map-set (link_in t) ns i now) (find-set (link_in t given) (link_in t kept) (link_in t now) (map (link_in t) ns) i place kept_at now_is)

  -- ---- what is found of a revision

  -- what is looked up for a revision is the parent of the node at its place
  pub kept-at : (pos : ℕ) (id : List ℕ) (ns : List Node) (i : ℕ) (x : Node) (o : Option (List ℕ)) → i < length ns → IsLinkAt (pos, id) (map (link_in t) ns) i → x ≡ get_or ns i x → parent_below x.pos o ≡ (link_in t x).parent → Some (parent_below pos o) ≡ find (pos, id) (map (link_in t) ns)
  kept-at pos id ns i x o lt place is h =
      let at : link_in t x ≡ get_or (map (link_in t) ns) i (link_in t x) = ap (link_in t) is ∙ sym (get_or-map (link_in t) ns i x (link_in t x) lt) in
      let e : x.pos ≡ pos = ap (λ (r : Revision). r.0) (place_is (pos, id) (map (link_in t) ns) i (link_in t x) place at) in
      ap Some (ap (λ (n : ℕ). parent_below n o) (sym e) ∙ h) ∙ sym (place_find (pos, id) (map (link_in t) ns) i (link_in t x) place at)

-- ---- a text that grew

module _ (xs ys : List ℕ) (g : IsExtendedBy xs ys) where
  pub grown-length : length xs ≤ length ys
  grown-length = omega (arith, ap length g.is, length-append xs g.more)

  pub grown-links : (ns : List Node) → NodesWithin (length xs) ns → map (link_in ys) ns ≡ map (link_in xs) ns
  grown-links ns h = rw (g.is) (links-grown xs g.more ns h)

  pub grown-part : (p : IdPart) → LiesWithin (length xs) p → text_of_part ys p ≡ text_of_part xs p
  grown-part p h = rw (g.is) (part-grown xs g.more p h)

  pub grown-parts : (ps : List IdPart) → PartsWithin (length xs) ps → map (text_of_part ys) ps ≡ map (text_of_part xs) ps
  grown-parts ps h = rw (g.is) (parts-grown xs g.more ps h)

pub grown-grown : (xs ys zs : List ℕ) → IsExtendedBy xs ys → IsExtendedBy ys zs → IsExtendedBy xs zs
grown-grown xs ys zs g k = record {
  more = g.more ++ k.more;
  is = k.is ∙ ap (λ x. x ++ k.more) g.is ∙ append_assoc xs g.more k.more;
}

-- one more part
pub parts-step : {X : Type 0} (f : X → List ℕ) (t t' : List ℕ) (k : IsExtendedBy t t') (ps : List IdPart) (p : IdPart) (xs : List X) (i : ℕ) (x : X) → PartsWithin (length t) ps → map (text_of_part t) ps ≡ map f (take i xs) → text_of_part t' p ≡ f x → i < length xs → x ≡ get_or xs i x → map (text_of_part t') (ps ++ p ∷ []) ≡ map f (take (i + 1) xs)
parts-step f t t' k ps p xs i x within done new lt is =
    map_push (text_of_part t') ps p ∙ ap (λ ss. ss ++ text_of_part t' p ∷ []) (grown-parts t t' k ps within ∙ done) ∙ ap (λ s. map f (take i xs) ++ s ∷ []) (new ∙ ap f is) ∙ sym (map_more f xs i x lt)
