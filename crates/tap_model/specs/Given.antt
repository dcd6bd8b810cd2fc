-- The octets that the safety side of an end was given, over its events (this profile); and that they are what is heard of the other side.
use Rattle.hdlc_station_model.specs.Lines.{IsPrefix}
use Rattle.std.specs.Prelude.{ℕ, ◌≡◌, ◌≤◌, List, [], ◌∷◌, ◌++◌, length, Option, Some, None}
use Rattle.std.specs.List.{flat_map}
use Rattle.er_base.specs.declared.side.Side.{Side}
use Rattle.er_base.specs.declared.side.Side.TheVariants.{E, R}
use Rattle.er_settings.specs.Values.{Settings}
use Rattle.hdlc_frames.specs.Framing.{Verdict}
use Rattle.hdlc_station_model.specs.Events.{news}
use Rattle.safety_automaton.specs.Safety.{SafetyEvent, ConnectRequest, Received, DataRequest, DisconnectRequest}
use Rattle.er_end_model.specs.Outcomes.{SendRefusal}
use Rattle.er_end_model.specs.Steps.{Finds, new_event_at, step_frame, refusal_of}
use Rattle.er_end_model.specs.Layers.{Spoken, Core, model}
use Rattle.er_end_model.specs.Ends.{Opening, Call, Answer, Event, Start, Come, Send, Take, Leave, Tick, Ended, Fault, Stalled, End, Moment, opened, step_event}
use Rattle.er_end_model.specs.Ends.{end_run}
use Rattle.er_end_model.specs.Origins.{octets_brought_by_event}
use Rattle.tap_model.specs.Hearing.{heard, payloads}

-- the octets that came, where the safety side was given some
abbrev pub received_in : SafetyEvent → List (List ℕ)
received_in ConnectRequest = []
received_in (Received octets) = octets ∷ []
received_in (DataRequest user) = []
received_in (DisconnectRequest sub) = []

abbrev pub received_of : Option Spoken → List (List ℕ)
received_of None = []
received_of (Some spoke) = received_in spoke.event

-- in the event that led here
abbrev pub received_by : Core → List (List ℕ)
received_by x = received_of x.upper.spoke

-- frame by frame
abbrev pub received_of_each : Finds → (now : ℕ) → List Verdict → Core → List (List ℕ)
received_of_each finds now [] x = []
received_of_each finds now (verdict ∷ verdicts) x =
    let y = step_frame model finds now verdict x in received_by y ++ received_of_each finds now verdicts y

-- a send that is refused gives nothing
abbrev pub received_unless : Option SendRefusal → Core → List (List ℕ)
received_unless (Some refusal) x = []
received_unless None x = received_by x

-- in one event
abbrev pub received_at : (now : ℕ) → Event → End → List (List ℕ)
received_at now Start m = received_by (step_event now Start m).0.core
received_at now (Come finds octets) m = received_of_each finds now (news m.stream octets) (new_event_at model now m.core)
received_at now (Send user) m = received_unless (refusal_of model user m.core) (step_event now (Send user) m).0.core
received_at now Take m = received_by (step_event now Take m).0.core
received_at now (Leave sub) m = received_by (step_event now (Leave sub) m).0.core
received_at now Tick m = received_by (step_event now Tick m).0.core
received_at now Ended m = received_by (step_event now Ended m).0.core
received_at now Fault m = received_by (step_event now Fault m).0.core
received_at now Stalled m = received_by (step_event now Stalled m).0.core

-- in several
abbrev pub received : List Moment → End → List (List ℕ)
received [] m = []
received (e ∷ events) m = received_at e.now e.event m ++ received events (step_event e.now e.event m).0

-- the octets that came from the line, joined
abbrev pub octets_of_moments : List Moment → List ℕ
octets_of_moments events = flat_map (λ e. octets_brought_by_event e.event) events

-- the side that sends to an end
abbrev pub sender_to : Opening → Side
sender_to (Call settings me peer kmac rb now) = R
sender_to (Answer settings me ra now) = E

abbrev pub settings_of_opening : Opening → Settings
settings_of_opening (Call settings me peer kmac rb now) = settings
settings_of_opening (Answer settings me ra now) = settings

-- an end that calls is started before anything else
abbrev pub IsCallerStartedFirst : Opening → List Moment → Type 0
IsCallerStartedFirst (Call settings me peer kmac rb now) [] = Unit {0}
IsCallerStartedFirst (Call settings me peer kmac rb now) (e ∷ events) = e.event ≡ Start
IsCallerStartedFirst (Answer settings me ra now) events = Unit {0}

-- ---- what was given is what is heard

pub record HasHeardStreamTexts (side : Side) (stream : List ℕ) (came : List (List ℕ)) (m : End) : Type 0 where
  pub given : IsPrefix came (heard side stream).texts
  -- while it isn't released it was given all; a DR releases, so there is no last item from one
  pub all : m.core.released ≡ None → (came ≡ (heard side stream).texts) × ((heard side stream).parting ≡ None)
  -- of the payloads that its station took too; and a text comes in payloads
  pub taken : IsPrefix m.core.line.taken (payloads side stream)
  pub carried : 1 ≤ length came → 1 ≤ length m.core.line.taken

-- of every end at modulo 8 that is started first where it calls, behind all events
abbrev pub GivenIsHeard : Type 0
GivenIsHeard =
    (opening : Opening) (events : List Moment) → (settings_of_opening opening).modulo ≡ 8 → IsCallerStartedFirst opening events
    → HasHeardStreamTexts (sender_to opening) (octets_of_moments events) (received events (opened opening)) (end_run events (opened opening))
