use Rattle.std.proofs.Common.{List, ℕ, ap, ap₂, ◌∙◌}
use Rattle.mg_bookmark.specs.Bookmark.{spelled}
use Rattle.mg_value.specs.Value.{Items}
use Rattle.mg_value.specs.View.{items_view}
use Rattle.mg_query.specs.Page.{ddoc_of, name_of}
use Rattle.mg_query.specs.Served.{source_view}
use Rattle.mg_query.proofs.answer.bookmark_at.Goals as goal

pub returns : goal.returns
returns c =
    let s = source_view c.args.source in
    c.in_ok-bookmark.ensures
    ∙ ap₂ (λ (key : Items) (id : List ℕ). spelled (record { ddoc = ddoc_of s; name = name_of s; direction = c.args.direction; key = key; id = id }))
    (ap items_view c.deref.ensures.value ∙ c.in_ok-key.ensures) c.id.ensures
