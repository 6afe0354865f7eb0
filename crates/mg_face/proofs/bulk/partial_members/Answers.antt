use Rattle.std.proofs.Common.{◌≡◌, List, Option, option_map, map, string_bytes, sym, ap, ap₂, ◌∙◌, subst, rules}
use Rattle.std.specs.Prelude.{IfOk, codes, option_and_then}
use Rattle.serde_json.specs.Data as parsed
use Rattle.serde_json.specs.Data.{Data, put}
use Rattle.serde_json.specs.Find.{as_array, get_member}
use Rattle.serde_json.specs.View.{view as data_view, items_view as data_items, members_view as data_members}
use Rattle.serde_json.specs.declared.value.Value as made
use Rattle.serde_json.specs.declared.value.Value.{the_lemmas}
use Rattle.serde_json.proofs.Views.{Entry, view-lookup, view-Object, members_view-insert_entry}
use Rattle.mg_value.specs.Value.{Value}
use Rattle.mg_value.specs.View.{view}
use Rattle.mg_face.specs.Bulk.{partial_with, partial_of}
use Rattle.mg_face.specs.Numbers.{value_of}
use Rattle.mg_face.proofs.bulk.partial_members.Goals as goal

pub returns : goal.returns
returns c =
    let es = c.args.members.entries in
    let ms : parsed.Members = data_members es in
    let named : string_bytes c.in_ok-name.name ≡ codes "docs" = search rules in
    let nothing : data_view made.Null ≡ parsed.null = search (rules, the_lemmas) in
    let found : option_map data_view c.in_ok-found.found ≡ get_member (codes "docs") ms =
    ap (option_map data_view) c.in_ok-found.ensures.old ∙ view-lookup (string_bytes c.in_ok-name.name) es ∙ ap (λ k. get_member k ms) named in
    let left : data_view (made.Object c.insert.new.self) ≡ parsed.object (put (codes "docs") parsed.null ms) =
    view-Object c.insert.new.self ∙ ap (λ (all : List Entry). parsed.object (data_members all)) c.in_ok-found.ensures.entries
    ∙ ap parsed.object (members_view-insert_entry es c.in_ok-name.name made.Null)
    ∙ ap (λ (d : Data). parsed.object (put (string_bytes c.in_ok-name.name) d ms)) nothing ∙ ap (λ k. parsed.object (put k parsed.null ms)) named in
    let rest : option_map view c.in_ok-rest.rest ≡ value_of (parsed.object (put (codes "docs") parsed.null ms)) = c.in_ok-rest.ensures ∙ ap value_of left in
    let documents : option_map (λ v. data_items v.items) c.array_of-documents.result ≡ option_and_then as_array (get_member (codes "docs") ms) =
    c.array_of-documents.ensures ∙ ap (option_and_then as_array) found in
    let same : partial_with (option_map (λ v. data_items v.items) c.array_of-documents.result) (option_map view c.in_ok-rest.rest) ≡ partial_of (parsed.object ms) =
    ap₂ partial_with documents rest in
    rw (← same) c.partial_with.ensures
