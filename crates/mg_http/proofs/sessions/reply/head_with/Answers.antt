use Rattle.std.proofs.Common.{append_assoc, refl}
use Rattle.mg_http.specs.Reply.{text_with}
use Rattle.mg_http.proofs.sessions.reply.head_with.Goals as goal

pub returns : goal.returns
unfolding text_with
returns c =
    λ body. rw (c.append-7.ensures, c.append-6.ensures, c.append-5.ensures, c.append-4.ensures, c.append-3.ensures, c.append-2.ensures, c.append.ensures, c.new-head.ensures) (simp append_assoc refl)
