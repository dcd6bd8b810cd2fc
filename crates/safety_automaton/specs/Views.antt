-- Contract: what the calls of a side of the code answer, in the words of the model.
use Rattle.std.specs.Prelude.{ℕ, ◌≡◌, List, Result, Ok, Err}
use Rattle.safety_automaton.specs.declared.deed.SafeDeed.{SafeDeed as CodeDeed}
use Rattle.safety_automaton.specs.declared.deed.SafeDeed.TheVariants as deed
use Rattle.safety_automaton.specs.declared.deed.SealRefused.{SealRefused}
use Rattle.safety_automaton.specs.declared.deed.SealRefused.TheVariants as refused
use Rattle.safety_automaton.specs.declared.safe_state.SafeState.{SafeState}
use Rattle.safety_automaton.specs.declared.safe_state.SafeState.TheVariants as state
use Rattle.safety_automaton.specs.Safety.{Phase, Ready, WaitAu1, WaitAu2, WaitAu3, WaitAr, Connected, Released, SafetyOutcome, SentAu1, SentAu2, SentAu3}
use Rattle.safety_automaton.specs.Safety.{SentAr, ReceivedAr, AcceptedDt, SentDt, Refused, ReleasedLocally, ReleasedByPeer, NothingDone, Refusal}
use Rattle.safety_automaton.specs.Safety.{RefusedReleased, RefusedNotConnected, RefusedLength}
use Rattle.safety_automaton.specs.Reports.{Report, ToldAccepted, ToldAnswered, ToldConnected, ToldIgnored, ToldReleased}

-- the state of a phase
abbrev pub state_of : Phase → SafeState
state_of (Ready peer kmac rb) = state.Ready
state_of (WaitAu1 ra) = state.WaitAu1
state_of (WaitAu2 peer kmac rb) = state.WaitAu2
state_of (WaitAu3 connection) = state.WaitAu3
state_of (WaitAr connection) = state.WaitAr
state_of (Connected peer session) = state.Connected
state_of (Released release session) = state.Released

-- user octets that were accepted, if any, are so
abbrev pub IfAccepted : Report → (List ℕ → Type 0) → Type 0
IfAccepted ToldAnswered P = Unit {0}
IfAccepted (ToldConnected peer) P = Unit {0}
IfAccepted (ToldAccepted user) P = P user
IfAccepted (ToldReleased release) P = Unit {0}
IfAccepted ToldIgnored P = Unit {0}

-- an answer of the code
abbrev pub report_view : CodeDeed → Report
report_view deed.Answered = ToldAnswered
report_view (deed.Connected peer) = ToldConnected peer
report_view (deed.Accepted user) = ToldAccepted user.now
report_view (deed.Released release) = ToldReleased release
report_view deed.Ignored = ToldIgnored

-- why the code refuses a send
abbrev pub refusal_view : SealRefused → Refusal
refusal_view (refused.Released release) = RefusedReleased release
refusal_view refused.NotConnected = RefusedNotConnected
refusal_view (refused.Length found) = RefusedLength found

-- a send was Ok exactly where the model sends a DT, and else refused for the model's reason
abbrev pub SendsAs : Result (Unit {0}) SealRefused → SafetyOutcome → Type 0
SendsAs (Ok done) (SentDt session user sealed octets) = Unit {0}
SendsAs (Ok done) (SentAu1 octets) = ⊥
SendsAs (Ok done) (SentAu2 session sealed octets) = ⊥
SendsAs (Ok done) (SentAu3 session verified sealed octets) = ⊥
SendsAs (Ok done) (SentAr connection verified sealed octets) = ⊥
SendsAs (Ok done) (ReceivedAr connection verified) = ⊥
SendsAs (Ok done) (AcceptedDt session user verified) = ⊥
SendsAs (Ok done) (Refused refusal) = ⊥
SendsAs (Ok done) (ReleasedLocally release octets) = ⊥
SendsAs (Ok done) (ReleasedByPeer release) = ⊥
SendsAs (Ok done) NothingDone = ⊥
SendsAs (Err refused) outcome = outcome ≡ Refused (refusal_view refused)
