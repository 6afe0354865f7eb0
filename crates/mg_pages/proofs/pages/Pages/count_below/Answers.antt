use Rattle.std.proofs.Common.{rules, Fits, w64, length, arith, ap}
use Rattle.std.proofs.Math.Facts.{Fits-lt-pow}
use Rattle.mg_pages.specs.Subtree.{elements_of}
use Rattle.mg_pages.proofs.pages.Pages.count_below.Goals as goal

pub count_below-requires-clause-few : goal.count_below-requires-clause-few
count_below-requires-clause-few g c =
    let fits : Fits w64 c.len-all.result = search rules in
    omega (arith, Fits-lt-pow fits, c.len-all.ensures, ap length c.self.view_is, ap (λ ts. length (elements_of ts)) c.deref.ensures.value)
