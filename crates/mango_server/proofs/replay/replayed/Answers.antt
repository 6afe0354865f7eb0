use Rattle.mango_server.proofs.replay.replayed.Goals as goal

pub returns-in-Ok : goal.returns-in-Ok
returns-in-Ok g c =
    let opened = c.in_ok-log.ensures.opened in
    record { rows = opened.0; are = rw (c.as_slice.ensures.value, opened.1) at c.in-Ok.ensures; kept = λ honest is_open. opened.2 honest }
