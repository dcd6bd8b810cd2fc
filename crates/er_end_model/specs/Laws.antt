-- What follows of an event at an end.
use Rattle.std.specs.Prelude.{ℕ, ◌≡◌, ◌≤◌, max, Bool, true, false, List, [], length, map, Option, Some, None}
use Rattle.std.specs.List.{flat_map}
use Rattle.er_base.specs.declared.release.Release.{Release}
use Rattle.er_base.specs.declared.cause.Cause.{Cause}
use Rattle.des_block.specs.declared.triple_key.TripleKey.{TripleKey}
use Rattle.hdlc_frames.specs.Framing.{Verdict}
use Rattle.hdlc_station_model.specs.Stations.{is_down}
use Rattle.x224_class2.specs.declared.stage.Stage.{Stage}
use Rattle.x224_class2.specs.declared.stage.Stage.TheVariants as stages
use Rattle.safety_automaton.specs.Safety.{no_keys, Safety, SafetyOutcome, SentAu1, SentAu2, SentAu3, SentAr, ReceivedAr, AcceptedDt, SentDt, Refused}
use Rattle.safety_automaton.specs.Safety.{ReleasedLocally, ReleasedByPeer, NothingDone, sealed_by, verified_by, step}
use Rattle.safety_automaton.specs.Reports.{kept_side_without_texts}
use Rattle.er_end_model.specs.Outcomes.{RefusedReleased}
use Rattle.er_end_model.specs.Steps.{Finds, new_event_at, has_next_tpdu, hand_waiting_tpdus, most_offers, step_start, step_frame, refusal_of, on_send}
use Rattle.er_end_model.specs.Steps.{step_take, step_release, step_tick, step_break, is_connected, outcomes_of}
use Rattle.er_end_model.specs.Layers.{Spoken, Core, model}
use Rattle.er_end_model.specs.Ends.{Opening, Come, End, Moment, opened, end_run, outcomes}

-- ---- the safety side

-- the peer with whom an outcome connects, and the message that it accepts
abbrev pub connected_by : SafetyOutcome → Option ℕ
connected_by (SentAu1 octets) = None
connected_by (SentAu2 session sealed octets) = None
connected_by (SentAu3 session verified sealed octets) = None
connected_by (SentAr connection verified sealed octets) = Some connection.peer
connected_by (ReceivedAr connection verified) = Some connection.peer
connected_by (AcceptedDt session user verified) = None
connected_by (SentDt session user sealed octets) = None
connected_by (Refused refusal) = None
connected_by (ReleasedLocally release octets) = None
connected_by (ReleasedByPeer release) = None
connected_by NothingDone = None

abbrev pub accepted_safety_message : SafetyOutcome → Option (List ℕ)
accepted_safety_message (SentAu1 octets) = None
accepted_safety_message (SentAu2 session sealed octets) = None
accepted_safety_message (SentAu3 session verified sealed octets) = None
accepted_safety_message (SentAr connection verified sealed octets) = None
accepted_safety_message (ReceivedAr connection verified) = None
accepted_safety_message (AcceptedDt session user verified) = Some user
accepted_safety_message (SentDt session user sealed octets) = None
accepted_safety_message (Refused refusal) = None
accepted_safety_message (ReleasedLocally release octets) = None
accepted_safety_message (ReleasedByPeer release) = None
accepted_safety_message NothingDone = None

-- what an event shows of the safety side that was s before it: nothing, or all that one step of it says
abbrev pub ShowsSafetyStep : (ℕ → ℕ → Option TripleKey) → Safety → Option Spoken → Core → Type 0
ShowsSafetyStep key_of s None y = (y.safe ≡ kept_side_without_texts s) × (y.connected ≡ None) × (y.upper.news ≡ None)
ShowsSafetyStep key_of s (Some t) y =
    (step key_of s t.event ≡ (y.safe.safety, t.outcome))
    × (y.safe.sealed ≡ sealed_by t.outcome)
    × (y.safe.verified ≡ verified_by t.outcome)
    × (y.connected ≡ connected_by t.outcome)
    × (y.upper.news ≡ accepted_safety_message t.outcome)

-- the transport isn't called or connected yet
abbrev pub is_early : Stage → Bool
is_early stages.New = true
is_early stages.Calling = true
is_early stages.Called = false
is_early stages.Open = false
is_early stages.Over = false

-- the safe connection stands on one of the transport
abbrev pub IsSane : Core → Type 0
IsSane x = is_early x.upper.transport.stage ≡ true → is_connected x.safe.safety.phase ≡ false

-- at most one step of the safety side
pub record SpeaksOnce (key_of : ℕ → ℕ → Option TripleKey) (x y : Core) : Type 0 where
  pub sane : IsSane y
  pub step : ShowsSafetyStep key_of x.safe.safety y.upper.spoke y

-- each event of an end is at most one step of its safety side; of octets, each frame that they close
pub record EventsSpeakOnce : Type 0 where
  pub made : (opening : Opening) → IsSane (opened opening).core
  pub starts : (now : ℕ) (x : Core) → IsSane x → SpeaksOnce no_keys x (step_start model now x)
  pub comes : (finds : Finds) (now : ℕ) (verdict : Verdict) (x : Core) → IsSane x
      → SpeaksOnce (finds (max x.moment now)) x (step_frame model finds now verdict x)
  pub sends : (now : ℕ) (user : List ℕ) (x : Core) → IsSane x → SpeaksOnce no_keys x (on_send model user (new_event_at model now x))
  pub uses : (now : ℕ) (x : Core) → IsSane x → SpeaksOnce no_keys x (step_take model now x)
  pub leaves : (now sub : ℕ) (x : Core) → IsSane x → SpeaksOnce no_keys x (step_release model now sub x)
  pub ticks : (now : ℕ) (x : Core) → IsSane x → SpeaksOnce no_keys x (step_tick model now x)
  pub breaks : (cause : Cause) (x : Core) → IsSane x → SpeaksOnce no_keys x (step_break model cause x)

-- ---- rest

-- an end stays released for this reason, and an event told nothing
abbrev pub IsSilentAfterRelease : Release → Core → Type 0
IsSilentAfterRelease why y = (y.released ≡ Some why) × (outcomes_of model y ≡ [])

-- after a release every event but a take and a send has no outcome, a take sends nothing, and a send is refused for that reason
pub record IsEndInertAfterRelease (x : Core) (why : Release) : Type 0 where
  pub starts : (now : ℕ) → IsSilentAfterRelease why (step_start model now x)
  pub comes : (finds : Finds) (now : ℕ) (verdict : Verdict) → IsSilentAfterRelease why (step_frame model finds now verdict x)
  pub sends : (user : List ℕ) → refusal_of model user x ≡ Some (RefusedReleased why)
  pub uses : (now : ℕ) → IsSilentAfterRelease why (step_take model now x)
  pub leaves : (now sub : ℕ) → IsSilentAfterRelease why (step_release model now sub x)
  pub ticks : (now : ℕ) → IsSilentAfterRelease why (step_tick model now x)
  pub breaks : (cause : Cause) → IsSilentAfterRelease why (step_break model cause x)

abbrev pub ReleasedRest : Type 0
ReleasedRest = (x : Core) (why : Release) → x.released ≡ Some why → IsEndInertAfterRelease x why

-- ---- what goes down

-- behind the TPDUs that go down at a live station a payload waits there, or no TPDU is due
abbrev pub OffersRest : Type 0
OffersRest =
    (x : Core) → is_down x.line.phase ≡ false → x.line.acked ≤ x.line.sent → x.line.sent ≤ length x.line.handed → x.line.window ≤ 31
    → has_next_tpdu model (hand_waiting_tpdus model most_offers x) ≡ false

-- ---- cuts

-- octets that come in pieces at one moment, and KMACs are looked up in one way
abbrev pub come_in : Finds → ℕ → List (List ℕ) → List Moment
come_in finds now pieces = map (λ piece. record { now = now; event = Come finds piece }) pieces

-- however the same octets are cut, at every end: their outcomes are the same, and they lead to the same end, what its last event told aside
abbrev pub AnyCut : Type 0
AnyCut =
    (finds : Finds) (now : ℕ) (m : End) (pieces others : List (List ℕ))
    → flat_map (λ piece. piece) pieces ≡ flat_map (λ piece. piece) others
    → (outcomes (come_in finds now pieces) m ≡ outcomes (come_in finds now others) m)
    × ((end_run (come_in finds now pieces) m).stream ≡ (end_run (come_in finds now others) m).stream)
    × (new_event_at model now (end_run (come_in finds now pieces) m).core ≡ new_event_at model now (end_run (come_in finds now others) m).core)
