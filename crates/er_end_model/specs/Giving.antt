-- What each event gives to the safety side of an end, as a law: none that it is given is swallowed (UNISIG SUBSET-037).
use Rattle.std.specs.Prelude.{ℕ, ◌≡◌, true, List, [], Option, Some, None}
use Rattle.er_base.specs.declared.cause.Cause.{Cause}
use Rattle.hdlc_frames.specs.Framing.{Verdict}
use Rattle.x224_class2.specs.declared.stage.Stage.TheVariants.{New}
use Rattle.safety_automaton.specs.Safety.{SafetyEvent, ConnectRequest, Received, DataRequest, DisconnectRequest}
use Rattle.er_end_model.specs.Steps.{Finds, new_event_at, is_ready, step_start, step_frame, on_send, step_take, step_release, step_tick, step_break}
use Rattle.er_end_model.specs.Layers.{Spoken, Core, model}
use Rattle.er_end_model.specs.Hearing.{IsTextOf, station_behind}

-- what a frame may give: the request to connect where by it the link came up, or such a text
abbrev pub FrameGives : Core → ℕ → Verdict → SafetyEvent → Type 0
FrameGives x now verdict ConnectRequest = (station_behind x now verdict).deed.up ≡ true
FrameGives x now verdict (Received text) = IsTextOf x now verdict text
FrameGives x now verdict (DataRequest user) = ⊥
FrameGives x now verdict (DisconnectRequest sub) = ⊥

-- the safety side took a step, and was given this
abbrev pub IsGiven : SafetyEvent → Option Spoken → Type 0
IsGiven event None = ⊥
IsGiven event (Some t) = t.event ≡ event

-- a frame brought the link up, at an end that calls and whose safety side hasn't begun
pub record CallsNow (x : Core) (now : ℕ) (verdict : Verdict) : Type 0 where
  pub up : (station_behind x now verdict).deed ≡ record { up = true; payload = None; more = []; released = None }
  pub transport : (x.upper.transport.is_caller ≡ true) × (x.upper.transport.stage ≡ New)
  pub ready : is_ready x.safe.safety.phase ≡ true

-- what each event gives: a start, a take, a tick and a broken line nothing, a frame the above, a send and a release the request of the user.
-- None is swallowed: each request to connect and each such text is given, each send that isn't refused, and each release, where the end wasn't
-- released before
pub record EventsGive : Type 0 where
  pub starts : (now : ℕ) (x : Core) → (step_start model now x).upper.spoke ≡ None
  pub each_call : (finds : Finds) (now : ℕ) (verdict : Verdict) (x : Core) → x.released ≡ None → CallsNow x now verdict
      → IsGiven ConnectRequest (step_frame model finds now verdict x).upper.spoke
  pub each_text : (finds : Finds) (now : ℕ) (verdict : Verdict) (x : Core) (text : List ℕ) → x.released ≡ None → IsTextOf x now verdict text
      → IsGiven (Received text) (step_frame model finds now verdict x).upper.spoke
  pub comes : (finds : Finds) (now : ℕ) (verdict : Verdict) (x : Core) (t : Spoken) → (step_frame model finds now verdict x).upper.spoke ≡ Some t
      → FrameGives x now verdict t.event
  pub each_send : (now : ℕ) (user : List ℕ) (x : Core) → IsGiven (DataRequest user) (on_send model user (new_event_at model now x)).upper.spoke
  pub sends : (now : ℕ) (user : List ℕ) (x : Core) (t : Spoken) → (on_send model user (new_event_at model now x)).upper.spoke ≡ Some t
      → t.event ≡ DataRequest user
  pub uses : (now : ℕ) (x : Core) → (step_take model now x).upper.spoke ≡ None
  pub each_release : (now sub : ℕ) (x : Core) → x.released ≡ None → IsGiven (DisconnectRequest sub) (step_release model now sub x).upper.spoke
  pub leaves : (now sub : ℕ) (x : Core) (t : Spoken) → (step_release model now sub x).upper.spoke ≡ Some t → t.event ≡ DisconnectRequest sub
  pub ticks : (now : ℕ) (x : Core) → (step_tick model now x).upper.spoke ≡ None
  pub breaks : (cause : Cause) (x : Core) → (step_break model cause x).upper.spoke ≡ None
