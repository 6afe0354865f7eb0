use Rattle.std.proofs.Common.{◌≡◌, None, Some, cond, rules, sym, ap, ◌∙◌, subst}
use Rattle.std.specs.FinMap.{get}
use Rattle.std.specs.Ordering.{eq_by_cmp}
use Rattle.mg_pages.proofs.Levels.{on_err_when}
use Rattle.mg_shard.specs.Draft.{DraftStandsFor, TouchedStandFor, touched_of}
use Rattle.mg_shard.specs.Edits.{first_refusal_in, id_in}
use Rattle.mg_shard.specs.Histories.{Histories, history_at}
use Rattle.mg_shard.proofs.Shown.{bytes_cmp}
use Rattle.mg_shard.proofs.Touched.{TreeMap, get-touched, get-updated, next_kept, tree_touched}
use Rattle.mg_shard.proofs.draft.Draft.apply.Goals as goal

pub edit_first-requires : goal.edit_first-requires
edit_first-requires c =
    let m = c.self.inside.touched in
    ap (λ (n : TreeMap). get (touched_of n.entries) (id_in c.args.edit)) c.get_mut.follows.holds-at-none
    ∙ ap (get (touched_of m.entries)) (sym c.id_in.ensures) ∙ sym (get-touched m c.id_in.result.now) ∙ sym c.in_default.ensures.value

pub returns-in-Some-clause-outcome : goal.returns-in-Some-clause-outcome
returns-in-Some-clause-outcome c = λ hs st.
    let e = c.args.edit in
    let m = c.self.inside.touched in
    let ts = touched_of m.entries in
    let tree = c.in-Some.tree.now in
    let is : get ts (id_in e) ≡ Some tree = ap (get ts) (sym c.id_in.ensures) ∙ sym (get-touched m c.id_in.result.now) ∙ sym c.in-Some.ensures.value in
    let stood = subst (λ d. DraftStandsFor d hs) (sym c.self.view_is) st in
    c.in_ok-edit_tree.ensures.outcome (history_at hs (id_in e)) (tree_touched c.self.inside.shard.now.documents ts hs (id_in e) tree is stood)

pub returns-in-Some-clause-stands : goal.returns-in-Some-clause-stands
returns-in-Some-clause-stands c = λ hs st.
    let e = c.args.edit in
    let m = c.self.inside.touched in
    let ts = touched_of m.entries in
    let ds = c.self.inside.shard.now.documents in
    let tree = c.in-Some.tree.now in
    let t = c.edit_tree.new.tree in
    let named = c.id_in.ensures in
    let id = c.id_in.result.now in
    let is : get ts (id_in e) ≡ Some tree = ap (get ts) (sym named) ∙ sym (get-touched m id) ∙ sym c.in-Some.ensures.value in
    let stood = subst (λ d. DraftStandsFor d hs) (sym c.self.view_is) st in
    let n : TreeMap = c.get_mut.follows.lender t in
    next_kept ds ts (touched_of n.entries) hs e tree t is
    (λ q. get-updated m n id (Some t) ((c.get_mut.follows.holds t).3 (search rules)) q ∙ ap (λ i. cond (eq_by_cmp bytes_cmp q i) (Some t) (get ts q)) named)
    (c.in_ok-edit_tree.ensures.stands (history_at hs (id_in e)) (tree_touched ds ts hs (id_in e) tree is stood)) stood

pub returns-in_err-edit_tree-clause-foreseen : goal.returns-in_err-edit_tree-clause-foreseen
returns-in_err-edit_tree-clause-foreseen c = on_err_when {P = (hs : Histories) → DraftStandsFor c.args.self.now hs → first_refusal_in hs c.args.edit ≡ None} c.from_residual.result (λ hs st.
    let e = c.args.edit in
    let m = c.self.inside.touched in
    let ts = touched_of m.entries in
    let tree = c.in-Some.tree.now in
    let is : get ts (id_in e) ≡ Some tree = ap (get ts) (sym c.id_in.ensures) ∙ sym (get-touched m c.id_in.result.now) ∙ sym c.in-Some.ensures.value in
    let stood = subst (λ d. DraftStandsFor d hs) (sym c.self.view_is) st in
    c.in_err-edit_tree.ensures.foreseen (history_at hs (id_in e)) (tree_touched c.self.inside.shard.now.documents ts hs (id_in e) tree is stood))

pub returns-clause-outcome : goal.returns-clause-outcome
returns-clause-outcome c = λ hs st.
    let stood = subst (λ d. DraftStandsFor d hs) (sym c.self.view_is) st in
    c.in_ok-edit_first.ensures.outcome hs (subst (λ (m : TreeMap). TouchedStandFor c.self.inside.shard.now.documents (touched_of m.entries) hs) (sym c.get_mut.follows.holds-at-none) stood)

pub returns-clause-stands : goal.returns-clause-stands
returns-clause-stands c = λ hs st.
    let stood = subst (λ d. DraftStandsFor d hs) (sym c.self.view_is) st in
    c.in_ok-edit_first.ensures.stands hs (subst (λ (m : TreeMap). TouchedStandFor c.self.inside.shard.now.documents (touched_of m.entries) hs) (sym c.get_mut.follows.holds-at-none) stood)

pub returns-in_err-edit_first-clause-foreseen : goal.returns-in_err-edit_first-clause-foreseen
returns-in_err-edit_first-clause-foreseen c = on_err_when {P = (hs : Histories) → DraftStandsFor c.args.self.now hs → first_refusal_in hs c.args.edit ≡ None} c.from_residual-in_err-edit_first.result (λ hs st.
    let stood = subst (λ d. DraftStandsFor d hs) (sym c.self.view_is) st in
    c.in_err-edit_first.ensures.foreseen hs (subst (λ (m : TreeMap). TouchedStandFor c.self.inside.shard.now.documents (touched_of m.entries) hs) (sym c.get_mut.follows.holds-at-none) stood))
