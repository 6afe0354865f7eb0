use Rattle.std.proofs.Common.{◌∙◌, ◌+◌, ◌++◌, [], ◌∷◌, ℕ, List, None, ap, drop, get_or, map, subst, sym}
use Rattle.std.proofs.lemmas.List.{get_or_default}
use Rattle.mg_revtree.specs.Nodes.{NodesWithin, link_in}
use Rattle.mg_revtree.specs.Steps.{BelongsAt, IsLinkAt}
use Rattle.mg_revtree.specs.Known.{AreBelow}
use Rattle.mg_revtree.specs.declared.links.node.Node.{Node}
use Rattle.mg_revtree.proofs.Folds.{below_joined, below_put, links_joined, links_put, within_joined, within_made}
use Rattle.mg_revtree.proofs.links.fold.add_through.Goals as goal

pub returns-in_ok-push-in-Ok-clause-within : goal.returns-in_ok-push-in-Ok-clause-within
returns-in_ok-push-in-Ok-clause-within c = λ n made older w.
    let d : Node = record { pos = 0; id = record { from = 0; len = 0 }; parent = None } in
    let ns = c.args.older.now in
    let ms = c.args.made.now.items in
    let at = c.in-Ok.at in
    let kept = get_or ns at d in
    let lt = c.in-Ok.ensures.found.0 in
    let is = get_or_default ns at d kept lt in
    let new = c.in_ok-push-in-Ok.ensures.items ∙ ap (λ (xs : List Node). xs ++ c.join.new.self ∷ []) c.in_ok-extend_from_slice-in-Ok.ensures.items in
    subst (NodesWithin n) (sym new) (within_made c.args.texts.now ms ns at n c.join.new.self made older (within_joined c.args.texts.now ms ns at c.args.node kept c.join.new.self lt is c.join.ensures n older w))

pub returns-in_ok-push-in-Ok-clause-links : goal.returns-in_ok-push-in-Ok-clause-links
returns-in_ok-push-in-Ok-clause-links c = λ sorted.
    let d : Node = record { pos = 0; id = record { from = 0; len = 0 }; parent = None } in
    let t = c.args.texts.now in
    let x = c.args.node in
    let ns = c.args.older.now in
    let ms = c.args.made.now.items in
    let at = c.in-Ok.at in
    let kept = get_or ns at d in
    let lt = c.in-Ok.ensures.found.0 in
    let is = get_or_default ns at d kept lt in
    let place = subst (λ (s : List ℕ). IsLinkAt (x.pos, s) (map (link_in t) ns) at) c.of.ensures (c.in-Ok.ensures.found.1 sorted) in
    let new = c.in_ok-push-in-Ok.ensures.items ∙ ap (λ (xs : List Node). xs ++ c.join.new.self ∷ []) c.in_ok-extend_from_slice-in-Ok.ensures.items in
    ap (λ (xs : List Node). map (link_in t) xs ++ map (link_in t) (drop (at + 1) ns)) new ∙ links_joined t ms ns at x kept c.join.new.self lt is c.join.ensures sorted place

pub returns-in_ok-push-in-Ok-clause-below : goal.returns-in_ok-push-in-Ok-clause-below
returns-in_ok-push-in-Ok-clause-below c = λ r sorted less below.
    let d : Node = record { pos = 0; id = record { from = 0; len = 0 }; parent = None } in
    let t = c.args.texts.now in
    let x = c.args.node in
    let ns = c.args.older.now in
    let ms = c.args.made.now.items in
    let at = c.in-Ok.at in
    let kept = get_or ns at d in
    let lt = c.in-Ok.ensures.found.0 in
    let is = get_or_default ns at d kept lt in
    let place = subst (λ (s : List ℕ). IsLinkAt (x.pos, s) (map (link_in t) ns) at) c.of.ensures (c.in-Ok.ensures.found.1 sorted) in
    let new = c.in_ok-push-in-Ok.ensures.items ∙ ap (λ (xs : List Node). xs ++ c.join.new.self ∷ []) c.in_ok-extend_from_slice-in-Ok.ensures.items in
    subst (λ (xs : List Node). AreBelow r (map (link_in t) xs)) (sym new) (below_joined t ms ns at x kept c.join.new.self lt is c.join.ensures sorted place r less below)

pub returns-in_ok-push-in-Err-clause-within : goal.returns-in_ok-push-in-Err-clause-within
returns-in_ok-push-in-Err-clause-within c = λ n made older w.
    let new = c.in_ok-push-in-Err.ensures.items ∙ ap (λ (xs : List Node). xs ++ c.args.node ∷ []) c.in_ok-extend_from_slice-in-Err.ensures.items in
    subst (NodesWithin n) (sym new) (within_made c.args.texts.now c.args.made.now.items c.args.older.now c.in-Err.at n c.args.node made older w)

pub returns-in_ok-push-in-Err-clause-links : goal.returns-in_ok-push-in-Err-clause-links
returns-in_ok-push-in-Err-clause-links c = λ sorted.
    let t = c.args.texts.now in
    let x = c.args.node in
    let ns = c.args.older.now in
    let ms = c.args.made.now.items in
    let at = c.in-Err.at in
    let gap = subst (λ (s : List ℕ). BelongsAt (x.pos, s) (map (link_in t) ns) at) c.of.ensures (c.in-Err.ensures.absent.1 sorted) in
    let new = c.in_ok-push-in-Err.ensures.items ∙ ap (λ (xs : List Node). xs ++ x ∷ []) c.in_ok-extend_from_slice-in-Err.ensures.items in
    ap (λ (xs : List Node). map (link_in t) xs ++ map (link_in t) (drop at ns)) new ∙ links_put t ms ns at x gap

pub returns-in_ok-push-in-Err-clause-below : goal.returns-in_ok-push-in-Err-clause-below
returns-in_ok-push-in-Err-clause-below c = λ r sorted less below.
    let t = c.args.texts.now in
    let x = c.args.node in
    let ns = c.args.older.now in
    let ms = c.args.made.now.items in
    let at = c.in-Err.at in
    let gap = subst (λ (s : List ℕ). BelongsAt (x.pos, s) (map (link_in t) ns) at) c.of.ensures (c.in-Err.ensures.absent.1 sorted) in
    let new = c.in_ok-push-in-Err.ensures.items ∙ ap (λ (xs : List Node). xs ++ x ∷ []) c.in_ok-extend_from_slice-in-Err.ensures.items in
    subst (λ (xs : List Node). AreBelow r (map (link_in t) xs)) (sym new) (below_put t ms ns at x gap r less below)
