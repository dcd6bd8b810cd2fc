-- Contract: how what an end keeps stands for an end of the end model, and that each call's function on what is kept is the
-- model's step.
use Rattle.std.specs.Prelude.{ℕ, ◌≡◌, ◌≤◌, List, [], ◌∷◌, ◌++◌, length, take, drop, None}
use Rattle.er_settings.specs.Ranges.{AllAllowed}
use Rattle.hdlc_frames.specs.Deframing as deframing
use Rattle.hdlc_station_model.specs.Stations.{Station}
use Rattle.hdlc_station.specs.Kept.{kept_of, octets_of_sent_frames}
use Rattle.hdlc_station.specs.Alike.{Sound}
use Rattle.x224_class2.specs.Standing.{StandsForTransport}
use Rattle.er_end_model.specs.Outcomes.{Outcome}
use Rattle.er_end_model.specs.Stacks.{Stack}
use Rattle.er_end_model.specs.Layers.{Upper, Core, model}
use Rattle.er_end_model.specs.Steps.{deadline}
use Rattle.er_end_model.specs.Ends.{Opening, Call, Answer, Event, Start, Come, Send, Take, Leave, Tick, Ended, Fault, Stalled, End, opened, step_event, Moment}
use Rattle.er_end_model.specs.Ends.{end_run, outcomes}
use Rattle.er_end.specs.Inboxes.{newest_of}
use Rattle.er_end.specs.KeptLayers.{KLine, KUpper, KCore, kept}
use Rattle.er_end.specs.KeptEnds.{KEnd, kept_opened, kept_end_behind_event, tells, used_of, deadline_of}

-- the station is kept so, and these octets are those of the frames that it sent
pub record LineStands (l : KLine) (s : Station) : Type 0 where
  pub is : l.station ≡ kept_of s
  pub sound : Sound s
  pub text : l.out ≡ octets_of_sent_frames s.calling s.extended s.said

-- the transport that is kept stands for this one, and the messages that wait are those accepted and not taken yet
pub record UpperStands (u : KUpper) (v : Upper) : Type 0 where
  pub transport : StandsForTransport u.transport v.transport
  pub waits : u.inbox.waits ≡ drop v.used v.accepted
  pub used : v.used ≤ length v.accepted
  pub few : length u.inbox.waits ≤ length u.transport.lasts
  pub fewer : length u.transport.lasts ≤ 15
  pub news : v.news ≡ newest_of u.inbox

-- a stack with these layers in place of its own
abbrev pub over : {S U S' U' : Type 0} → Stack S U → S' → U' → Stack S' U'
over x line upper = record {
  line = line;
  joined = x.joined;
  upper = upper;
  safe = x.safe;
  limit = x.limit;
  moment = x.moment;
  connected = x.connected;
  leaves = x.leaves;
  released = x.released;
}

-- the layers stand so, and all else is the same
pub record Tied {S U S' U' : Type 0} (R : S → S' → Type 0) (Q : U → U' → Type 0) (x : Stack S U) (y : Stack S' U') : Type 0 where
  pub line : R x.line y.line
  pub upper : Q x.upper y.upper
  pub same : y ≡ over x y.line y.upper

abbrev pub CoreStands : KCore → Core → Type 0
CoreStands k m = Tied LineStands UpperStands k m

-- until a release the deframer keeps what is to be kept of all octets that came
pub record EndStands (k : KEnd) (m : End) : Type 0 where
  pub fed : m.core.released ≡ None → k.deframer ≡ deframing.kept_of m.stream
  pub core : CoreStands k.core m.core

-- ---- the laws

-- settings of an opening
abbrev pub IsAllowed : Opening → Type 0
IsAllowed (Call settings me peer kmac rb now) = AllAllowed settings
IsAllowed (Answer settings me ra now) = AllAllowed settings

abbrev pub MadeStands : Type 0
MadeStands = (opening : Opening) → IsAllowed opening → EndStands (kept_opened opening) (opened opening)

-- the event of the model that a call is: octets are those that the call uses
abbrev pub event_of : KEnd → Event → Event
event_of k Start = Start
event_of k (Come finds octets) = Come finds (take (used_of k octets) octets)
event_of k (Send user) = Send user
event_of k Take = Take
event_of k (Leave sub) = Leave sub
event_of k Tick = Tick
event_of k Ended = Ended
event_of k Fault = Fault
event_of k Stalled = Stalled

-- each call is one step of the model, with the same outcomes
abbrev pub StepsAlike : Type 0
StepsAlike =
    (now : ℕ) (event : Event) (k : KEnd) (m : End) → EndStands k m
    → EndStands (kept_end_behind_event now event k) (step_event now (event_of k event) m).0 × (tells now event k ≡ (step_event now (event_of k event) m).1)

-- calls one after the other, each an event at its moment: what is kept behind them, the events of the model that they are, and all
-- outcomes
abbrev pub kept_run : List Moment → KEnd → KEnd
kept_run [] k = k
kept_run (e ∷ events) k = kept_run events (kept_end_behind_event e.now e.event k)

abbrev pub events_of : List Moment → KEnd → List Moment
events_of [] k = []
events_of (e ∷ events) k = record { now = e.now; event = event_of k e.event } ∷ events_of events (kept_end_behind_event e.now e.event k)

abbrev pub kept_outcomes : List Moment → KEnd → List Outcome
kept_outcomes [] k = []
kept_outcomes (e ∷ events) k = tells e.now e.event k ++ kept_outcomes events (kept_end_behind_event e.now e.event k)

-- a run of calls is a run of the model, with the same outcomes
abbrev pub RunsAlike : Type 0
RunsAlike =
    (events : List Moment) (k : KEnd) (m : End) → EndStands k m
    → EndStands (kept_run events k) (end_run (events_of events k) m) × (kept_outcomes events k ≡ outcomes (events_of events k) m)

-- what shows between two calls is what the model says
abbrev pub ShowsAlike : Type 0
ShowsAlike =
    (k : KEnd) (m : End) → EndStands k m
    → (deadline_of k ≡ deadline model m.core)
    × (k.core.released ≡ m.core.released)
    × (kept.untaken k.core.upper ≡ model.untaken m.core.upper)
    × (k.core.safe ≡ m.core.safe)
    × (kept.counts k.core.line ≡ model.counts m.core.line)
