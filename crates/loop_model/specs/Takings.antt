-- Messages are taken as long as one waits: none waits when anything else comes to a connection, and none behind its last event.
use Rattle.loop_model.specs.Ends.{ModelEnd}
use Rattle.std.specs.Prelude.{ℕ, ◌≡◌, ◌≤◌, Option, Some, None}
use Rattle.safety_automaton.specs.Keys.{key_at}
use Rattle.er_end_model.specs.Layers as layers
use Rattle.er_end_model.specs.Ends.{End}
use Rattle.er_trace.specs.declared.event.Event.{Event}
use Rattle.er_trace.specs.declared.event.Event.TheVariants.{Call, Answer, Octets, Send, Take, Release, Tick, Ended, Fault, Stalled, Full, Unserved}
use Rattle.trace_model.specs.Connections.{end_at}
use Rattle.loop_model.specs.Journals.{trace_lines_of}
use Rattle.loop_model.specs.Outs.{Out}
use Rattle.loop_model.specs.Loops.{Plan, Course}
use Rattle.loop_model.specs.Parts.{of}
use Rattle.loop_model.specs.Laws.{HoldsOfEachLoop}
use Rattle.loop_model.specs.Walks.{EachAt}

-- how many messages wait at an end, where there is one
abbrev pub count_waiting_at_end : Option End → ℕ
count_waiting_at_end None = 0
count_waiting_at_end (Some m) = layers.model.untaken m.core.upper

-- one at least waits before a take; none waits before what comes from the line, the clock or the loop. A send and a release are replies of
-- the user, and a stall follows the event that gave too many octets: they come while messages wait or not
abbrev pub IsTaken : Option End → Event → Type 0
IsTaken m (Call engine rbc rb) = count_waiting_at_end m ≡ 0
IsTaken m (Answer rbc ra) = count_waiting_at_end m ≡ 0
IsTaken m (Octets octets) = count_waiting_at_end m ≡ 0
IsTaken m (Send text) = Unit {0}
IsTaken m Take = 1 ≤ count_waiting_at_end m
IsTaken m (Release sub) = Unit {0}
IsTaken m Tick = count_waiting_at_end m ≡ 0
IsTaken m Ended = count_waiting_at_end m ≡ 0
IsTaken m Fault = count_waiting_at_end m ≡ 0
IsTaken m Stalled = Unit {0}
IsTaken m (Full count) = count_waiting_at_end m ≡ 0
IsTaken m (Unserved count) = count_waiting_at_end m ≡ 0

-- so before each event of each connection, and none waits behind the last
pub record AllTaken (plan : Plan) (o : Out (Course ModelEnd)) : Type 0 where
  pub each : (conn : ℕ) → EachAt plan.settings (key_at plan.keys) IsTaken None (of conn o.entries)
  pub none : (conn : ℕ) → count_waiting_at_end (end_at plan.settings (key_at plan.keys) conn (trace_lines_of o.entries)) ≡ 0

abbrev pub AllAreTaken : Type 0
AllAreTaken = HoldsOfEachLoop AllTaken
