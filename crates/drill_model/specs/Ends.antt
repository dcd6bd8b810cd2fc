-- The ends of a link, one kind a level, and what an end does with an event (this profile). At level safe an end is a side of a safe
-- connection, and what it sends is an SaPDU; at levels link and link-sr it is a station, at level full a stack of four layers, and what they send is a
-- frame from flag to flag.
use Rattle.std.specs.Prelude.{ℕ, Bool, List, [], ◌∷◌, ◌++◌, Option, Some, None}
use Rattle.des_block.specs.declared.triple_key.TripleKey.{TripleKey}
use Rattle.safety_automaton.specs.Safety.{Safety, SafetyEvent, ConnectRequest, Received, DataRequest, DisconnectRequest, Refusal, SafetyOutcome, SentAu1}
use Rattle.safety_automaton.specs.Safety.{SentAu2, SentAu3, SentAr, ReceivedAr, AcceptedDt, SentDt, ReleasedLocally, ReleasedByPeer, NothingDone}
use Rattle.safety_automaton.specs.Safety as safety
use Rattle.safety_pair_laws.specs.Facts.{Sent, Sealed, Verified, Connected, Accepted, heard_in}
use Rattle.hdlc_station_model.specs.Stations.{Station}
use Rattle.hdlc_station_model.specs.Events.{news}
use Rattle.er_end_model.specs.Ends.{End as Stack}
use Rattle.drill_model.specs.StackEnds.{stack_start, stack_hear, stack_send, stack_take, stack_release, stack_tick}
use Rattle.drill_model.specs.StationEnds.{station_start, frames_heard, station_send, station_release, station_tick}
use Rattle.er_end_model.specs.Outcomes.{SendRefusal, RefusedReleased, RefusedNotConnected, RefusedLength}
use Rattle.drill_model.specs.Outcomes.{DrillOutcome, OfSafety, Refused, Released, Frame}

-- what is given to an end
pub data EndEvent : Type 0 where
  -- an end that calls is to begin
  Start : EndEvent
  -- octets from the peer: at level safe an SaPDU, else a piece of what it sent from flag to flag, in which several frames may close
  Receive : (octets : List ℕ) → EndEvent
  -- the user sends
  Send : (octets : List ℕ) → EndEvent
  -- the user takes a message
  Take : EndEvent
  -- the user releases, with this sub-reason
  Release : (sub : ℕ) → EndEvent
  -- the moment has come
  Tick : EndEvent

pub data EndAtLevel : Type 0 where
  -- level safe
  OfSafe : (side : Safety) → EndAtLevel
  -- levels link and link-sr: a station, whether it has selective reject, and the stream of all octets that it was given
  OfStation : (selective : Bool) (station : Station) (stream : List ℕ) → EndAtLevel
  -- level full: a stack, with the stream of all octets that it was given
  OfStack : (stack : Stack) → EndAtLevel

-- ---- level safe

-- an event, as the safety layer has it
abbrev pub safety_event : EndEvent → Option SafetyEvent
safety_event Start = Some ConnectRequest
safety_event (Receive octets) = Some (Received octets)
safety_event (Send octets) = Some (DataRequest octets)
safety_event Take = None
safety_event (Release sub) = Some (DisconnectRequest sub)
safety_event Tick = None

abbrev pub send_refusal_from_safety : Refusal → SendRefusal
send_refusal_from_safety (safety.RefusedReleased release) = RefusedReleased release
send_refusal_from_safety safety.RefusedNotConnected = RefusedNotConnected
send_refusal_from_safety (safety.RefusedLength found) = RefusedLength found

-- the outcomes of a side that received these octets
abbrev pub outcomes_by : (heard : List ℕ) → SafetyOutcome → List DrillOutcome
outcomes_by heard (SentAu1 octets) = Frame octets ∷ []
outcomes_by heard (SentAu2 session sealed octets) = OfSafety (Sealed session sealed) ∷ Frame octets ∷ []
outcomes_by heard (SentAu3 session verified sealed octets) =
    OfSafety (Verified heard session verified) ∷ OfSafety (Sealed session sealed) ∷ Frame octets ∷ []
outcomes_by heard (SentAr connection verified sealed octets) =
    OfSafety (Connected heard connection verified) ∷ OfSafety (Sealed connection.session sealed) ∷ Frame octets ∷ []
outcomes_by heard (ReceivedAr connection verified) = OfSafety (Connected heard connection verified) ∷ []
outcomes_by heard (AcceptedDt session user verified) = OfSafety (Accepted heard user session verified) ∷ []
outcomes_by heard (SentDt session user sealed octets) = OfSafety (Sent user session sealed) ∷ Frame octets ∷ []
outcomes_by heard (safety.Refused refusal) = Refused (send_refusal_from_safety refusal) ∷ []
outcomes_by heard (ReleasedLocally release octets) = Released release ∷ Frame octets ∷ []
outcomes_by heard (ReleasedByPeer release) = Released release ∷ []
outcomes_by heard NothingDone = []

abbrev pub safe_end_step : (ℕ → ℕ → Option TripleKey) → Safety → Option SafetyEvent → EndAtLevel × List DrillOutcome
safe_end_step key_of s None = (OfSafe s, [])
safe_end_step key_of s (Some event) =
    let a = safety.step key_of s event in
    (OfSafe a.0, outcomes_by (heard_in event) a.1)

-- ---- levels link and link-sr

-- a station went on so, and this is all that it was given
abbrev pub station_end : (selective : Bool) (stream : List ℕ) → Station × List DrillOutcome → EndAtLevel × List DrillOutcome
station_end selective stream a = (OfStation selective a.0 stream, a.1)

-- octets go on from the stream before them, so a frame may begin in one piece and close in another; a station has no messages to take
abbrev pub station_end_step : (selective : Bool) (moment : ℕ) → Station → (stream : List ℕ) → EndEvent → EndAtLevel × List DrillOutcome
station_end_step selective moment s stream Start = station_end selective stream (station_start moment s)
station_end_step selective moment s stream (Receive octets) = station_end selective (stream ++ octets) (frames_heard selective moment (news stream octets) s)
station_end_step selective moment s stream (Send payload) = station_end selective stream (station_send moment payload s)
station_end_step selective moment s stream Take = station_end selective stream (s, [])
station_end_step selective moment s stream (Release sub) = station_end selective stream (station_release sub s)
station_end_step selective moment s stream Tick = station_end selective stream (station_tick moment s)

-- ---- level full

-- a stack went on so
abbrev pub stack_end : Stack × List DrillOutcome → EndAtLevel × List DrillOutcome
stack_end a = (OfStack a.0, a.1)

-- a stack that looks KMACs up so, at every moment
abbrev pub stack_end_step : (ℕ → ℕ → Option TripleKey) → (moment : ℕ) → Stack → EndEvent → EndAtLevel × List DrillOutcome
stack_end_step key_of moment m Start = stack_end (stack_start moment m)
stack_end_step key_of moment m (Receive octets) = stack_end (stack_hear (λ now. key_of) moment octets m)
stack_end_step key_of moment m (Send user) = stack_end (stack_send moment user m)
stack_end_step key_of moment m Take = stack_end (stack_take moment m)
stack_end_step key_of moment m (Release sub) = stack_end (stack_release moment sub m)
stack_end_step key_of moment m Tick = stack_end (stack_tick moment m)

-- ---- any level

-- an end that looks KMACs up so is given an event at a moment: the end after it, and its outcomes in their order
abbrev pub end_step : (ℕ → ℕ → Option TripleKey) → (moment : ℕ) → EndAtLevel → EndEvent → EndAtLevel × List DrillOutcome
end_step key_of moment (OfSafe s) event = safe_end_step key_of s (safety_event event)
end_step key_of moment (OfStation selective s stream) event = station_end_step selective moment s stream event
end_step key_of moment (OfStack m) event = stack_end_step key_of moment m event
