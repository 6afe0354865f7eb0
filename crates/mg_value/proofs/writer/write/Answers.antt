use Rattle.std.proofs.Common.{◌≡◌, [], ◌++◌, sym, ap, ◌∙◌, subst}
use Rattle.std.specs.Str.{IsUtf8}
use Rattle.json.specs.Print.{print}
use Rattle.serde_json.proofs.Texts.{print-outline}
use Rattle.mg_value.specs.Held.{tokens_of}
use Rattle.mg_value.specs.Text.{Reads, compact, data_of}
use Rattle.mg_value.specs.View.{view}
use Rattle.mg_value.proofs.Compact.{reads_compact}
use Rattle.mg_value.proofs.Texts.{compact_text-data_of}
use Rattle.mg_value.proofs.writer.write.Goals as goal

-- the buffer was empty at the start
pub returns-clause-text : goal.returns-clause-text
returns-clause-text c =
    let v = view c.args.value.now in
    let tokens : c.write_value.new.out.tokens ≡ tokens_of v = c.in_ok-write_value.ensures.tokens ∙ ap (λ ts. ts ++ tokens_of v) c.new-out.ensures.tokens in
    let before : c.write_value.new.out.before ≡ [] = c.write_value.ensures.before ∙ c.new-out.ensures.before ∙ c.in_ok-with_capacity.ensures.items in
    c.into_inner.ensures.items ∙ rw (before, tokens) (print-outline (data_of v) ∙ compact_text-data_of v)

pub returns-clause-reads_back : goal.returns-clause-reads_back
returns-clause-reads_back c shallow =
    let v = view c.args.value.now in
    let written : c.write_value.new.out.tokens ≡ tokens_of v = c.in_ok-write_value.ensures.tokens ∙ ap (λ ts. ts ++ tokens_of v) c.new-out.ensures.tokens in
    let before : c.write_value.new.out.before ≡ [] = c.write_value.ensures.before ∙ c.new-out.ensures.before ∙ c.in_ok-with_capacity.ensures.items in
    let printed : print c.write_value.new.out.tokens ≡ compact v = ap print written ∙ print-outline (data_of v) ∙ compact_text-data_of v in
    let text : c.into_inner.result.items ≡ compact v = c.into_inner.ensures.items ∙ ap (λ b. b ++ print c.write_value.new.out.tokens) before ∙ printed in
    let read = reads_compact v c.in_ok-write_value.ensures.held shallow (subst IsUtf8 printed c.into_inner.ensures.utf8) in
    subst (λ bytes. Reads bytes v) (sym text) read
