use Rattle.std.proofs.Common.{◌∙◌, Some, ap, option_map}
use Rattle.std.specs.FinMap.{get}
use Rattle.mg_pages.specs.Identified.{id_against}
use Rattle.mg_pages.specs.Order.{found}
use Rattle.mg_shard.specs.Documents.{id_bytes, kept_of}
use Rattle.mg_shard.proofs.Owned.{found_through}
use Rattle.mg_shard.proofs.Shown.{get-kept_documents}
use Rattle.mg_shard.proofs.shard.Shard.document.Goals as goal

pub returns-in-Some-clause-kept : goal.returns-in-Some-clause-kept
returns-in-Some-clause-kept c =
    ap (λ d. Some (kept_of d)) c.get-in-Some.ensures ∙ ap (option_map kept_of) (c.in-Some.ensures ∙ ap (found (id_against id_bytes c.args.id.now)) c.all.ensures.all) ∙ get-kept_documents c.args.id.now c.self.inside.documents
    ∙ ap (λ v. get v.documents c.args.id.now) c.self.view_is

pub returns-in-Some-clause-id : goal.returns-in-Some-clause-id
returns-in-Some-clause-id c = ap id_bytes c.get-in-Some.ensures ∙ found_through c.args.id.now c.all.result.now (Some c.in-Some.document) c.in-Some.ensures

pub returns-in-None-clause-kept : goal.returns-in-None-clause-kept
returns-in-None-clause-kept c =
    ap (option_map kept_of) (c.in-None.ensures ∙ ap (found (id_against id_bytes c.args.id.now)) c.all.ensures.all) ∙ get-kept_documents c.args.id.now c.self.inside.documents ∙ ap (λ v. get v.documents c.args.id.now) c.self.view_is
