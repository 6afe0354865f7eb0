use Rattle.std.proofs.Common.{◌≡◌, drop}
use Rattle.mg_value.specs.Value.{no_members, object}
use Rattle.mg_value.specs.View.{view}
use Rattle.mg_engine.specs.Design.{with_views}
use Rattle.mg_engine.proofs.design.views_json.Given as goal

-- the views so far, with those of the indexes that are left, are all views
abbrev pub invariant-loop-definition : goal.invariant-loop-definition
invariant-loop-definition l = with_views l.ddoc l.definitions (object no_members) ≡ with_views l.ddoc (drop l.definition-index l.definitions) (view l.views)
