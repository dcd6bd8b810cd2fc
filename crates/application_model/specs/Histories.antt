-- What happens between a loop, its connections and an application, and what the loop does, in one order (this profile).
use Rattle.std.specs.Prelude.{ℕ, List}
use Rattle.er_trace.specs.declared.event.Event.{Event}
use Rattle.er_trace.specs.Outcomes.{TraceOutcome}
use Rattle.application_lines.specs.declared.application_line.ApplicationLine.{ApplicationLine}
use Rattle.application_lines.specs.Notices.{ApplicationNotice}
use Rattle.application_model.specs.Ends.{EventTime}

-- what the key file gave: so many entries hold, or the words of its fault
pub data KeysAnswer : Type 0 where
  Hold : (entries : ℕ) → KeysAnswer
  AreFaulty : (words : List (List ℕ)) → KeysAnswer

-- what comes
pub data ServiceHappening : Type 0 where
  -- an application comes; it ends or fails
  Attaches : ServiceHappening
  Departs : ServiceHappening
  -- octets come from it; it took so many of those that wait for it
  Brings : (octets : List ℕ) → ServiceHappening
  Takes : (count : ℕ) → ServiceHappening
  -- a connection is opened, by this event of its end; an event of a connection, by its line or the clock; a connection is closed
  Opens : Event → ServiceHappening
  Befalls : (conn : ℕ) → Event → ServiceHappening
  Closes : (conn : ℕ) → ServiceHappening
  -- the key file was fetched and read: with so many entries it holds from now on, or what was read before holds still
  KeysRead : KeysAnswer → ServiceHappening

-- what a history is made of
pub data ServiceItem : Type 0 where
  Came : ServiceHappening → ServiceItem
  -- a line of the application was read
  LineRead : ApplicationLine → ServiceItem
  -- an event at the end of a connection, and its outcomes: its lines are printed
  Occurred : EventTime → (conn : ℕ) → Event → List TraceOutcome → ServiceItem
  -- a line is appended to what waits for the application
  Informed : ApplicationNotice → ServiceItem
  -- the key file is fetched
  KeysFetched : ServiceItem
