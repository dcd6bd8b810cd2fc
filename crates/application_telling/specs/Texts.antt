-- The octets of the lines that an application is told of an event at a connection.
use Rattle.std.specs.Prelude.{ℕ, List, map, Option, Some, None}
use Rattle.std.specs.List.{flat_map}
use Rattle.er_end_model.specs.Outcomes.{Outcome}
use Rattle.er_trace.specs.declared.event.Event.{Event}
use Rattle.er_trace.specs.declared.event.Event.TheVariants.{Send, Take}
use Rattle.trace_model.specs.Printed.{trace_outcome_of}
use Rattle.application_lines.specs.Notices.{notice_text}
use Rattle.application_model.specs.Lines.{notices_of_event}

-- an event that sent this message, or another one: of these a take, of which the lines are those of any
abbrev pub event_of_sent : Option (List ℕ) → Event
event_of_sent (Some text) = Send text
event_of_sent None = Take

unfoldable pub application_text : ℕ → Event → List Outcome → List ℕ
application_text conn what outcomes = flat_map notice_text (notices_of_event conn what (map trace_outcome_of outcomes))
