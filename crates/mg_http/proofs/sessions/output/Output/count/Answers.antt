use Rattle.std.proofs.Common.{arith, ◌≡◌, ◌-◌, ◌+◌, ◌++◌, min, length}
use Rattle.std.proofs.lemmas.Grind.{common_steps}
use Rattle.std.specs.Cow.{cow_slice_items}
use Rattle.mg_http.proofs.OutputLemmas.{sent_more}
use Rattle.mg_http.proofs.sessions.output.Output.count.Goals as goal

pub returns : goal.returns
returns c =
    let o = c.args.self.now in
    let last = o.head.items ++ cow_slice_items o.body in
    let first : c.min-first.result ≡ min c.args.count (length o.joined.items) = grind (arith, common_steps) in
    let now : c.min-self.result ≡ min (o.sent + (c.args.count - c.min-first.result)) (length last) = grind (arith, common_steps) in
    rw c.advance.ensures.items (sent_more o.joined.items last o.sent c.args.count c.min-first.result c.min-self.result first now)
