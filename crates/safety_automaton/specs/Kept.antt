-- Representation: how the code keeps a side of a safe connection, and what one step does to it; no claim rests on it.
use Rattle.std.specs.Prelude.{ℕ, ◌≡◌, Bool, List, [], ◌∷◌, Option, Some, None, Result, Ok, Err}
use Rattle.des_block.specs.declared.triple_key.TripleKey.{TripleKey}
use Rattle.sapdu.specs.Spelling.{SafetyPdu, Au1, Au2, Au3, Ar, Dt, Di, spelling}
use Rattle.safety_automaton.specs.declared.control_pdu.ControlPdu.{ControlPdu}
use Rattle.safety_automaton.specs.declared.control_pdu.ControlPdu.TheVariants as control
use Rattle.safety_automaton.specs.declared.deed.SealRefused.{SealRefused}
use Rattle.safety_automaton.specs.declared.reaction.Reaction.{Reaction}
use Rattle.safety_automaton.specs.declared.phase.Stage.{Stage}
use Rattle.safety_automaton.specs.declared.phase.Stage.TheVariants as stage
use Rattle.safety_automaton.specs.declared.phase.Phase.{Phase as CodePhase}
use Rattle.safety_automaton.specs.declared.phase.Phase.TheVariants as code
use Rattle.safety_automaton.specs.Safety.{Safety, Phase, Ready, WaitAu1, WaitAu2, WaitAu3, WaitAr, Connected, Released, SafetyOutcome, sealed_by, verified_by}
use Rattle.safety_automaton.specs.Safety.{octets_sent_in_outcome, flag_of}
use Rattle.safety_automaton.specs.Reports.{KeptSafe, report_of}
use Rattle.safety_automaton.specs.Views.{report_view, SendsAs}

-- a phase in which the session keys are known, at a side of this number
abbrev pub stage_view : (me peer : ℕ) → TripleKey → Stage → Phase
stage_view me peer session (stage.WaitAu3 ra rb) = WaitAu3 (record { me = me; peer = peer; ra = ra; rb = rb; session = session })
stage_view me peer session (stage.WaitAr ra rb) = WaitAr (record { me = me; peer = peer; ra = ra; rb = rb; session = session })
stage_view me peer session stage.Connected = Connected peer session

-- a phase of the code
abbrev pub phase_view : ℕ → CodePhase → Phase
phase_view me (code.Ready peer kmac rb) = Ready peer kmac rb
phase_view me (code.WaitAu1 ra) = WaitAu1 ra
phase_view me (code.WaitAu2 peer kmac rb) = WaitAu2 peer kmac rb
phase_view me (code.Keyed session) = stage_view me session.peer session.keys session.stage
phase_view me (code.Released release session) = Released release session

-- the phase where both sides have authenticated each other, if the session keys are known; else the phase as it is
abbrev pub connected_of : Phase → Phase
connected_of (WaitAu3 connection) = Connected connection.peer connection.session
connected_of (WaitAr connection) = Connected connection.peer connection.session
connected_of (Ready peer kmac rb) = Ready peer kmac rb
connected_of (WaitAu1 ra) = WaitAu1 ra
connected_of (WaitAu2 peer kmac rb) = WaitAu2 peer kmac rb
connected_of (Connected peer session) = Connected peer session
connected_of (Released release session) = Released release session

-- an SaPDU without user octets; the safety feature is 1
abbrev pub pdu_view : ControlPdu → SafetyPdu
pdu_view (control.Au1 id rb) = Au1 id 1 rb
pdu_view (control.Au2 id ra mac) = Au2 id 1 ra mac
pdu_view (control.Au3 mac) = Au3 mac
pdu_view (control.Ar mac) = Ar mac
pdu_view (control.Di reason sub) = Di reason sub

-- its octets with a flag; none where there is none
abbrev pub octets_of_control_sapdu : ControlPdu → Bool → List ℕ
octets_of_control_sapdu pdu flag = spelling (pdu_view pdu) flag

abbrev pub octets_if : Option ControlPdu → Bool → List ℕ
octets_if None flag = []
octets_if (Some pdu) flag = octets_of_control_sapdu pdu flag

-- the text in a room of octets: none where the room is empty
abbrev pub text_in_room : List ℕ → Option (List ℕ)
text_in_room [] = None
text_in_room (octet ∷ octets) = Some (octet ∷ octets)

-- a released side keeps no texts
abbrev pub HasNoTexts : CodePhase → Option (List ℕ) → Option (List ℕ) → Type 0
HasNoTexts (code.Ready peer kmac rb) sealed verified = Unit {0}
HasNoTexts (code.WaitAu1 ra) sealed verified = Unit {0}
HasNoTexts (code.WaitAu2 peer kmac rb) sealed verified = Unit {0}
HasNoTexts (code.Keyed session) sealed verified = Unit {0}
HasNoTexts (code.Released release session) sealed verified = (sealed ≡ None) × (verified ≡ None)

-- one step was done: the side after it, the texts that it sealed and verified, what is told, what is to be sent
pub record DoesSafetyStep (next : Safety × SafetyOutcome) (new : KeptSafe) (reaction : Reaction) : Type 0 where
  pub safety : new.safety ≡ next.0
  pub sealed : new.sealed ≡ sealed_by next.1
  pub verified : new.verified ≡ verified_by next.1
  pub report : report_view reaction.deed ≡ report_of next.1
  pub sends : octets_if reaction.sends (flag_of new.safety.role) ≡ octets_sent_in_outcome next.1

-- a send is refused for the model's reason; or the model sends a DT, and this is its MAC
abbrev pub SealsAs : (user : List ℕ) (flag : Bool) → Result ℕ SealRefused → SafetyOutcome → Type 0
SealsAs user flag (Ok mac) outcome = SendsAs (Ok tt) outcome × (octets_sent_in_outcome outcome ≡ spelling (Dt user mac) flag)
SealsAs user flag (Err refused) outcome = SendsAs (Err refused) outcome
