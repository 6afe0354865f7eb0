-- What the code's events stand for.
use Rattle.std.specs.Prelude.{List, map}
use Rattle.mg_engine.specs.View.{command_view}
use Rattle.mg_machine.specs.Machine.{Event, publish, enter, answer, told}
use Rattle.mg_machine.specs.declared.interleave.Event as code
use Rattle.mg_machine.specs.declared.interleave.Event.TheVariants.{Publish, Enter, Answer, Told}

-- the event that an event of the code stands for
abbrev pub event_view : code.Event → Event
event_view (Publish seat command) = publish seat (command_view command)
event_view (Enter seat) = enter seat
event_view (Answer seat command) = answer seat (command_view command)
event_view (Told seat by) = told seat by

-- the events that a list of the code's events stands for, in order
abbrev pub events_view : List code.Event → List Event
events_view es = map event_view es
