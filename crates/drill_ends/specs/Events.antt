-- Contract: what the code gives to an end, as the model has it.
use Rattle.drill_model.specs.Ends.{EndEvent}
use Rattle.drill_model.specs.Ends as model
use Rattle.drill_ends.specs.declared.end_event.EndEvent.{EndEvent as CodeEvent}
use Rattle.drill_ends.specs.declared.end_event.EndEvent.TheVariants as event

-- what is given to an end
abbrev pub event_of : CodeEvent → EndEvent
event_of event.Start = model.Start
event_of (event.Receive octets) = model.Receive octets.now
event_of (event.Send octets) = model.Send octets.now
event_of event.Take = model.Take
event_of (event.Release sub) = model.Release sub
event_of event.Tick = model.Tick
