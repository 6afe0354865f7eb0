-- The writes that are ready to be executed.
use Rattle.std.specs.Prelude.{List, map}
use Rattle.mg_engine.specs.Commands.{Asked}
use Rattle.mg_engine.specs.View.{command_view}
use Rattle.mango_server.specs.declared.ready.Ready.{Ready}

-- what they ask, in their order
abbrev pub writes_of : List Ready → List Asked
writes_of = map (λ r. command_view r.command.value)
