-- What a stack keeps of an event tells what its safety side did in it; and how far the safety side is, where the transport isn't made yet.
use Rattle.std.specs.Prelude.{ℕ, ◌≡◌, List, Option, Some, None}
use Rattle.des_block.specs.declared.triple_key.TripleKey.{TripleKey}
use Rattle.x224_class2.specs.declared.stage.Stage.{Stage}
use Rattle.x224_class2.specs.declared.stage.Stage.TheVariants as stage
use Rattle.safety_automaton.specs.Safety.{Phase, Ready, WaitAu1, WaitAu2, WaitAu3, WaitAr, Connected, Released, SafetyOutcome, SentAu1, SentAu2, SentAu3}
use Rattle.safety_automaton.specs.Safety.{SentAr, ReceivedAr, AcceptedDt, SentDt, Refused, ReleasedLocally, ReleasedByPeer, NothingDone, sealed_by, verified_by}
use Rattle.safety_automaton.specs.Safety.{session_in}
use Rattle.safety_automaton.specs.Reports.{KeptSafe}
use Rattle.safety_automaton.specs.Laws.{session_keys_of_outcome}
use Rattle.hdlc_frames.specs.Framing.{Verdict}
use Rattle.er_end_model.specs.Layers.{Spoken, Core, model}
use Rattle.er_end_model.specs.Steps.{Finds, step_start, step_frame, step_send_unless, step_take, step_release, step_tick}
use Rattle.er_end_model.specs.Ends.{Opening, opened}

-- ---- what a step of the safety side tells

abbrev pub peer_by : SafetyOutcome → Option ℕ
peer_by (SentAu1 octets) = None
peer_by (SentAu2 session sealed octets) = None
peer_by (SentAu3 session verified sealed octets) = None
peer_by (SentAr connection verified sealed octets) = Some connection.peer
peer_by (ReceivedAr connection verified) = Some connection.peer
peer_by (AcceptedDt session user verified) = None
peer_by (SentDt session user sealed octets) = None
peer_by (Refused refusal) = None
peer_by (ReleasedLocally release octets) = None
peer_by (ReleasedByPeer release) = None
peer_by NothingDone = None

abbrev pub user_by : SafetyOutcome → Option (List ℕ)
user_by (SentAu1 octets) = None
user_by (SentAu2 session sealed octets) = None
user_by (SentAu3 session verified sealed octets) = None
user_by (SentAr connection verified sealed octets) = None
user_by (ReceivedAr connection verified) = None
user_by (AcceptedDt session user verified) = Some user
user_by (SentDt session user sealed octets) = None
user_by (Refused refusal) = None
user_by (ReleasedLocally release octets) = None
user_by (ReleasedByPeer release) = None
user_by NothingDone = None

abbrev pub sealed_in : Option Spoken → Option (List ℕ)
sealed_in None = None
sealed_in (Some s) = sealed_by s.outcome

abbrev pub verified_in : Option Spoken → Option (List ℕ)
verified_in None = None
verified_in (Some s) = verified_by s.outcome

abbrev pub peer_in : Option Spoken → Option ℕ
peer_in None = None
peer_in (Some s) = peer_by s.outcome

abbrev pub user_octets_spoken : Option Spoken → Option (List ℕ)
user_octets_spoken None = None
user_octets_spoken (Some s) = user_by s.outcome

abbrev pub keys_in : Option Spoken → Option TripleKey
keys_in None = None
keys_in (Some s) = session_keys_of_outcome s.outcome

-- what is kept of an event is what the step of the safety side tells
pub record Reports (safe : KeptSafe) (connected : Option ℕ) (news : Option (List ℕ)) (spoke : Option Spoken) : Type 0 where
  pub sealed_is : safe.sealed ≡ sealed_in spoke
  pub verified_is : safe.verified ≡ verified_in spoke
  pub connected_is : connected ≡ peer_in spoke
  pub accepted_is : news ≡ user_octets_spoken spoke
  pub keys_are : (session : TripleKey) → keys_in spoke ≡ Some session → session_in safe.safety.phase ≡ Some session

abbrev pub ReportsAt : Core → Type 0
ReportsAt x = Reports x.safe x.connected x.upper.news x.upper.spoke

-- ---- how far the safety side is

abbrev pub IsUnmet : Phase → Type 0
IsUnmet (Ready peer kmac rb) = Unit {0}
IsUnmet (WaitAu1 ra) = Unit {0}
IsUnmet (WaitAu2 peer kmac rb) = ⊥
IsUnmet (WaitAu3 connection) = ⊥
IsUnmet (WaitAr connection) = ⊥
IsUnmet (Connected peer session) = ⊥
IsUnmet (Released release session) = ⊥

abbrev pub AwaitsAu2 : Phase → Type 0
AwaitsAu2 (Ready peer kmac rb) = ⊥
AwaitsAu2 (WaitAu1 ra) = ⊥
AwaitsAu2 (WaitAu2 peer kmac rb) = Unit {0}
AwaitsAu2 (WaitAu3 connection) = ⊥
AwaitsAu2 (WaitAr connection) = ⊥
AwaitsAu2 (Connected peer session) = ⊥
AwaitsAu2 (Released release session) = ⊥

-- before a CR went or came nothing was said; the caller waits for AU2 with its CC; a CR is accepted in the event in which it comes
abbrev pub IsEarly : Stage → Phase → Type 0
IsEarly stage.New phase = IsUnmet phase
IsEarly stage.Calling phase = AwaitsAu2 phase
IsEarly stage.Called phase = ⊥
IsEarly stage.Open phase = Unit {0}
IsEarly stage.Over phase = Unit {0}

abbrev pub IsOrderly : Core → Type 0
IsOrderly x = x.released ≡ None → IsEarly x.upper.transport.stage x.safe.safety.phase

-- ---- what follows of each call

-- a stack is orderly as it is opened
abbrev pub OpensOrderly : Type 0
OpensOrderly = (opening : Opening) → IsOrderly (opened opening).core

-- and behind each call of it, in which it also reports
abbrev pub CallsReport : Type 0
CallsReport =
    (x : Core) → IsOrderly x
    → ((now : ℕ) → IsOrderly (step_start model now x) × ReportsAt (step_start model now x))
    × ((finds : Finds) (now : ℕ) (verdict : Verdict) → IsOrderly (step_frame model finds now verdict x) × ReportsAt (step_frame model finds now verdict x))
    × ((now : ℕ) (user : List ℕ) → IsOrderly (step_send_unless model None now user x) × ReportsAt (step_send_unless model None now user x))
    × ((now : ℕ) → IsOrderly (step_take model now x) × ReportsAt (step_take model now x))
    × ((now sub : ℕ) → IsOrderly (step_release model now sub x) × ReportsAt (step_release model now sub x))
    × ((now : ℕ) → IsOrderly (step_tick model now x) × ReportsAt (step_tick model now x))
