-- Where what an end tells of its peer comes from: each message that it accepts, and each peer with whom it connects, is the doing of a text
-- whose MAC verified, and which the layers made of one of the frames that octets from the line closed (UNISIG SUBSET-037; this profile).
use Rattle.std.specs.Prelude.{ℕ, ◌≡◌, List, [], ◌∷◌, ◌++◌}
use Rattle.std.specs.List.{flat_map, All}
use Rattle.des_block.specs.declared.triple_key.TripleKey.{TripleKey}
use Rattle.hdlc_frames.specs.Framing.{Verdict}
use Rattle.hdlc_station_model.specs.Events.{news}
use Rattle.safety_automaton.specs.Safety.{Safety, Connection, Received}
use Rattle.safety_automaton.specs.Rules.{SendsAr, ReceivesAr}
use Rattle.safety_automaton.specs.Laws.{IsVerifiedMessage}
use Rattle.er_end_model.specs.Outcomes.{Outcome, ConnectedTo, Accepted, Taken, NothingToTake, Refused, WasReleased, Octets}
use Rattle.er_end_model.specs.Steps.{Finds, new_event_at}
use Rattle.er_end_model.specs.Layers.{Core, model}
use Rattle.er_end_model.specs.Ends.{Event, Start, Come, Send, Take, Leave, Tick, Ended, Fault, Stalled, End, Moment, hears_each, step_event, end_run, outcomes}
use Rattle.er_end_model.specs.Hearing.{IsTextOf}

-- ---- what a text does

-- a text is a DT with this message at a connected side, and its MAC is that of its sealed text
abbrev pub BringsMessage : (message : List ℕ) → Safety → (text : List ℕ) → Type 0
BringsMessage message s text = (session : TripleKey) × (verified : List ℕ) × IsVerifiedMessage s session text message verified

-- a text connects a side with this peer: an AU3 or an AR for which it waits, whose MAC is that of its sealed text
pub data ConnectsWith (peer : ℕ) (s : Safety) (text : List ℕ) : Type 0 where
  ByAu3 : (next : Safety) (connection : Connection) (verified sealed octets : List ℕ) → connection.peer ≡ peer
      → SendsAr s (Received text) next connection verified sealed octets → ConnectsWith peer s text
  ByAr : (next : Safety) (connection : Connection) (verified : List ℕ) → connection.peer ≡ peer
      → ReceivesAr s (Received text) next connection verified → ConnectsWith peer s text

-- ---- one event

-- the end behind the first of the frames that octets close
abbrev pub core_behind_frames : Finds → ℕ → List Verdict → End → Core
core_behind_frames finds now first m = hears_each finds now first (new_event_at model now m.core)

-- one of the frames that octets close brought the safety side, as it was then, a text that does this
pub record Brings (finds : Finds) (now : ℕ) (octets : List ℕ) (m : End) (Does : Safety → List ℕ → Type 0) : Type 0 where
  pub first : List Verdict
  pub verdict : Verdict
  pub later : List Verdict
  pub frames : news m.stream octets ≡ first ++ verdict ∷ later
  pub text : List ℕ
  pub is_text : IsTextOf (core_behind_frames finds now first m) now verdict text
  pub does : Does (core_behind_frames finds now first m).safe.safety text

-- what must have been brought where this is told
abbrev pub Origin : ((Safety → List ℕ → Type 0) → Type 0) → Outcome → Type 0
Origin Brought (ConnectedTo peer) = Brought (ConnectsWith peer)
Origin Brought (Accepted message) = Brought (BringsMessage message)
Origin Brought (Taken message) = Unit {0}
Origin Brought NothingToTake = Unit {0}
Origin Brought (Refused refusal) = Unit {0}
Origin Brought (WasReleased release) = Unit {0}
Origin Brought (Octets octets) = Unit {0}

-- of octets that come to an end
abbrev pub OctetOutcomesHaveOrigin : Type 0
OctetOutcomesHaveOrigin = (finds : Finds) (now : ℕ) (octets : List ℕ) (m : End)
    → All (Origin (Brings finds now octets m)) (step_event now (Come finds octets) m).1

-- ---- a run

-- at one of these events octets came that brought such a text
pub record BringsIn (events : List Moment) (m : End) (Does : Safety → List ℕ → Type 0) : Type 0 where
  pub before : List Moment
  pub now : ℕ
  pub finds : Finds
  pub octets : List ℕ
  pub after : List Moment
  pub events_are : events ≡ before ++ record { now = now; event = Come finds octets } ∷ after
  pub brings : Brings finds now octets (end_run before m) Does

-- of all events at an end
abbrev pub RunsAreHeard : Type 0
RunsAreHeard = (events : List Moment) (m : End) → All (Origin (BringsIn events m)) (outcomes events m)

-- the octets that came at an event
abbrev pub octets_brought_by_event : Event → List ℕ
octets_brought_by_event Start = []
octets_brought_by_event (Come finds octets) = octets
octets_brought_by_event (Send user) = []
octets_brought_by_event Take = []
octets_brought_by_event (Leave sub) = []
octets_brought_by_event Tick = []
octets_brought_by_event Ended = []
octets_brought_by_event Fault = []
octets_brought_by_event Stalled = []

-- an end cuts frames out of all octets that came, in their order
abbrev pub StreamIsWhole : Type 0
StreamIsWhole = (events : List Moment) (m : End) → (end_run events m).stream ≡ m.stream ++ flat_map (λ e. octets_brought_by_event e.event) events
