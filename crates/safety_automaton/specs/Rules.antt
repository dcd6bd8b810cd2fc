-- The rule of one side of a safe connection (UNISIG SUBSET-037: peer entity authentication, Safe Transmission, release; the order of
-- checks and the reasons are this profile's), as a relation: what was met where a step has an outcome, and how the side stands
-- after it. `step` is exactly this relation.
use Rattle.std.specs.Prelude.{ℕ, ◌≡◌, ◌≢◌, List, length, Option, Some, None, Ok, Err}
use Rattle.er_base.specs.declared.release.Release.{Release}
use Rattle.er_base.specs.declared.cause.Cause.{Cause}
use Rattle.er_base.specs.declared.cause.Cause.TheVariants as cause
use Rattle.er_base.specs.Causes.{release_of, by_peer_di}
use Rattle.des_block.specs.declared.triple_key.TripleKey.{TripleKey}
use Rattle.cbc_mac.specs.Mac.{mac_of}
use Rattle.session_keys.specs.Session.{session_of}
use Rattle.sapdu.specs.Spelling.{SafetyPdu, Au1, Au2, Au3, Ar, Dt, Di, spelling, read_of}
use Rattle.sapdu.specs.Messages.{IsMessage}
use Rattle.sapdu.specs.declared.fault.SaFault.{SaFault}
use Rattle.safety_automaton.specs.Safety.{Safety, Connection, Phase, Ready, WaitAu1, WaitAu2, WaitAu3, WaitAr, Connected, Released, SafetyEvent, ConnectRequest}
use Rattle.safety_automaton.specs.Safety.{Received, DataRequest, DisconnectRequest, Refusal, RefusedReleased, RefusedNotConnected, RefusedLength, SafetyOutcome}
use Rattle.safety_automaton.specs.Safety.{SentAu1, SentAu2, SentAu3, SentAr, ReceivedAr, AcceptedDt, SentDt, Refused, ReleasedLocally, ReleasedByPeer}
use Rattle.safety_automaton.specs.Safety.{NothingDone, flag_of, peer_flag, session_in, au2_text, au3_text, ar_text, message_text, step}

-- ---- states and received SaPDUs

-- a side that isn't released
abbrev pub IsOpen : Phase → Type 0
IsOpen (Ready peer kmac rb) = Unit {0}
IsOpen (WaitAu1 ra) = Unit {0}
IsOpen (WaitAu2 peer kmac rb) = Unit {0}
IsOpen (WaitAu3 connection) = Unit {0}
IsOpen (WaitAr connection) = Unit {0}
IsOpen (Connected peer session) = Unit {0}
IsOpen (Released release session) = ⊥

-- a side in the set-up: neither connected nor released
abbrev pub IsInSetUp : Phase → Type 0
IsInSetUp (Ready peer kmac rb) = Unit {0}
IsInSetUp (WaitAu1 ra) = Unit {0}
IsInSetUp (WaitAu2 peer kmac rb) = Unit {0}
IsInSetUp (WaitAu3 connection) = Unit {0}
IsInSetUp (WaitAr connection) = Unit {0}
IsInSetUp (Connected peer session) = ⊥
IsInSetUp (Released release session) = ⊥

-- an initiator that hasn't begun
abbrev pub IsReady : Phase → Type 0
IsReady (Ready peer kmac rb) = Unit {0}
IsReady (WaitAu1 ra) = ⊥
IsReady (WaitAu2 peer kmac rb) = ⊥
IsReady (WaitAu3 connection) = ⊥
IsReady (WaitAr connection) = ⊥
IsReady (Connected peer session) = ⊥
IsReady (Released release session) = ⊥

-- octets of the peer are read as an SaPDU with the peer's direction flag
pub record IsReceived (s : Safety) (event : SafetyEvent) (pdu : SafetyPdu) : Type 0 where
  pub octets : List ℕ
  pub event_is : event ≡ Received octets
  pub read : read_of octets ≡ Ok (pdu, peer_flag s)

-- the SaPDUs for which a state waits; a DI may come in each
abbrev pub IsAwaited : Phase → SafetyPdu → Type 0
IsAwaited phase (Di reason sub) = Unit {0}
IsAwaited phase (Au1 id feature rb) = (ra : ℕ) × (phase ≡ WaitAu1 ra)
IsAwaited phase (Au2 id feature ra mac) = (peer : ℕ) × (kmac : TripleKey) × (rb : ℕ) × (phase ≡ WaitAu2 peer kmac rb)
IsAwaited phase (Au3 mac) = (connection : Connection) × (phase ≡ WaitAu3 connection)
IsAwaited phase (Ar mac) = (connection : Connection) × (phase ≡ WaitAr connection)
IsAwaited phase (Dt user mac) = (peer : ℕ) × (session : TripleKey) × (phase ≡ Connected peer session)

-- ---- the causes of a release

-- an AU1 with safety feature 1, of an initiator with whom this responder has no KMAC
pub record NoKeyMet (key_of : ℕ → ℕ → Option TripleKey) (s : Safety) (event : SafetyEvent) : Type 0 where
  pub ra : ℕ
  pub id : ℕ
  pub rb : ℕ
  pub waits : s.phase ≡ WaitAu1 ra
  pub received : IsReceived s event (Au1 id 1 rb)
  pub none : key_of id s.me ≡ None

-- an AU2 of the peer that was called, with safety feature 1, whose MAC isn't that of its text under the session keys with its Ra
pub record Au2MacWrongMet (s : Safety) (event : SafetyEvent) : Type 0 where
  pub peer : ℕ
  pub kmac : TripleKey
  pub ra : ℕ
  pub rb : ℕ
  pub mac : ℕ
  pub waits : s.phase ≡ WaitAu2 peer kmac rb
  pub received : IsReceived s event (Au2 peer 1 ra mac)
  pub wrong : mac ≢ mac_of (session_of kmac ra rb) (au2_text (peer_flag s) s.me peer 1 ra rb)

-- an AU3 whose MAC isn't that of its text
pub record Au3MacWrongMet (s : Safety) (event : SafetyEvent) : Type 0 where
  pub connection : Connection
  pub mac : ℕ
  pub waits : s.phase ≡ WaitAu3 connection
  pub received : IsReceived s event (Au3 mac)
  pub wrong : mac ≢ mac_of connection.session (au3_text (peer_flag s) s.me connection.ra connection.rb)

-- an AR whose MAC isn't that of its text
pub record ArMacWrongMet (s : Safety) (event : SafetyEvent) : Type 0 where
  pub connection : Connection
  pub mac : ℕ
  pub waits : s.phase ≡ WaitAr connection
  pub received : IsReceived s event (Ar mac)
  pub wrong : mac ≢ mac_of connection.session (ar_text (peer_flag s) s.me)

-- an AU2 with safety feature 1 of another side than that which was called
pub record OtherResponderMet (s : Safety) (event : SafetyEvent) : Type 0 where
  pub peer : ℕ
  pub kmac : TripleKey
  pub id : ℕ
  pub ra : ℕ
  pub rb : ℕ
  pub mac : ℕ
  pub waits : s.phase ≡ WaitAu2 peer kmac rb
  pub received : IsReceived s event (Au2 id 1 ra mac)
  pub other : id ≢ peer

-- an AU1 or an AU2 with a safety feature other than 1
pub data OtherFeatureMet (s : Safety) (event : SafetyEvent) : Type 0 where
  OfAu1 : (ra id feature rb : ℕ) → s.phase ≡ WaitAu1 ra → IsReceived s event (Au1 id feature rb) → feature ≢ 1 → OtherFeatureMet s event
  OfAu2 : (peer rb id feature ra mac : ℕ) (kmac : TripleKey) → s.phase ≡ WaitAu2 peer kmac rb → IsReceived s event (Au2 id feature ra mac)
      → feature ≢ 1 → OtherFeatureMet s event

-- a DT whose MAC isn't that of its text
pub record DtMacWrongMet (s : Safety) (event : SafetyEvent) : Type 0 where
  pub peer : ℕ
  pub session : TripleKey
  pub user : List ℕ
  pub mac : ℕ
  pub waits : s.phase ≡ Connected peer session
  pub received : IsReceived s event (Dt user mac)
  pub wrong : mac ≢ mac_of session (message_text (peer_flag s) s.me user)

-- an SaPDU with this side's own direction flag, as one that is reflected
pub record WrongDirectionMet (s : Safety) (event : SafetyEvent) : Type 0 where
  pub octets : List ℕ
  pub pdu : SafetyPdu
  pub unreleased : IsOpen s.phase
  pub event_is : event ≡ Received octets
  pub read : read_of octets ≡ Ok (pdu, flag_of s.role)

-- an SaPDU for which the state doesn't wait
pub record UnexpectedMet (s : Safety) (event : SafetyEvent) : Type 0 where
  pub pdu : SafetyPdu
  pub unreleased : IsOpen s.phase
  pub received : IsReceived s event pdu
  pub unawaited : IsAwaited s.phase pdu → ⊥

-- octets that are no SaPDU
pub record MalformedMet (s : Safety) (event : SafetyEvent) : Type 0 where
  pub octets : List ℕ
  pub fault : SaFault
  pub unreleased : IsOpen s.phase
  pub event_is : event ≡ Received octets
  pub read : read_of octets ≡ Err fault

-- what is met where a side releases for a cause; of the causes of other layers a side of the safety layer doesn't learn
abbrev pub CauseMet : (ℕ → ℕ → Option TripleKey) → Safety → SafetyEvent → Cause → Type 0
CauseMet key_of s event (cause.User sub) = IsOpen s.phase × (event ≡ DisconnectRequest sub)
CauseMet key_of s event cause.SetUpUnanswered = ⊥
CauseMet key_of s event cause.NoProgress = ⊥
CauseMet key_of s event cause.FrameError = ⊥
CauseMet key_of s event cause.PeerDisconnected = ⊥
CauseMet key_of s event cause.LineEnded = ⊥
CauseMet key_of s event cause.LineFailed = ⊥
CauseMet key_of s event cause.LineStalled = ⊥
CauseMet key_of s event cause.DisconnectWithoutDi = ⊥
CauseMet key_of s event cause.TpduRefused = ⊥
CauseMet key_of s event cause.MessageTooLong = ⊥
CauseMet key_of s event cause.BlockRefused = ⊥
CauseMet key_of s event cause.NoKey = NoKeyMet key_of s event
CauseMet key_of s event cause.Au2MacWrong = Au2MacWrongMet s event
CauseMet key_of s event cause.Au3MacWrong = Au3MacWrongMet s event
CauseMet key_of s event cause.ArMacWrong = ArMacWrongMet s event
CauseMet key_of s event cause.OtherResponder = OtherResponderMet s event
CauseMet key_of s event cause.OtherFeature = OtherFeatureMet s event
CauseMet key_of s event cause.DtMacWrong = DtMacWrongMet s event
CauseMet key_of s event cause.WrongDirection = WrongDirectionMet s event
CauseMet key_of s event cause.Unexpected = UnexpectedMet s event
CauseMet key_of s event cause.Malformed = MalformedMet s event
CauseMet key_of s event cause.SetUpTimeSpent = ⊥

-- a side released for a cause: the session keys stay, and the DI has the reason, the sub-reason and the own flag
pub record ReleasesWith (s : Safety) (cause : Cause) (next : Safety) (release : Release) (octets : List ℕ) : Type 0 where
  pub release_is : release ≡ release_of cause
  pub next_is : next ≡ record s { phase = Released release (session_in s.phase) }
  pub octets_is : octets ≡ spelling (Di release.reason release.sub) (flag_of s.role)

-- ---- outcomes

-- AU1 is sent: a start of an initiator that hasn't begun
pub record SendsAu1 (s : Safety) (event : SafetyEvent) (next : Safety) (octets : List ℕ) : Type 0 where
  pub peer : ℕ
  pub kmac : TripleKey
  pub rb : ℕ
  pub event_is : event ≡ ConnectRequest
  pub waits : s.phase ≡ Ready peer kmac rb
  pub next_is : next ≡ record s { phase = WaitAu2 peer kmac rb }
  pub octets_is : octets ≡ spelling (Au1 s.me 1 rb) (flag_of s.role)

-- AU2 is sent: an AU1 with safety feature 1, of an initiator whose KMAC was found, at a responder that waits for it
pub record SendsAu2 (key_of : ℕ → ℕ → Option TripleKey) (s : Safety) (event : SafetyEvent) (next : Safety) (session : TripleKey)
    (sealed octets : List ℕ) : Type 0 where
  pub connection : Connection
  pub kmac : TripleKey
  pub waits : s.phase ≡ WaitAu1 connection.ra
  pub received : IsReceived s event (Au1 connection.peer 1 connection.rb)
  pub found : key_of connection.peer s.me ≡ Some kmac
  pub me_is : connection.me ≡ s.me
  pub keys_are : connection.session ≡ session_of kmac connection.ra connection.rb
  pub session_is : session ≡ connection.session
  pub next_is : next ≡ record s { phase = WaitAu3 connection }
  pub sealed_is : sealed ≡ au2_text (flag_of s.role) connection.peer s.me 1 connection.ra connection.rb
  pub octets_is : octets ≡ spelling (Au2 s.me 1 connection.ra (mac_of session sealed)) (flag_of s.role)

-- AU3 is sent: an AU2 of the peer that was called, with safety feature 1, whose MAC is that of its text under the session keys with
-- its Ra, at an initiator that waits for it
pub record SendsAu3 (s : Safety) (event : SafetyEvent) (next : Safety) (session : TripleKey) (verified sealed octets : List ℕ) : Type 0 where
  pub connection : Connection
  pub kmac : TripleKey
  pub waits : s.phase ≡ WaitAu2 connection.peer kmac connection.rb
  pub received : IsReceived s event (Au2 connection.peer 1 connection.ra (mac_of session verified))
  pub me_is : connection.me ≡ s.me
  pub keys_are : connection.session ≡ session_of kmac connection.ra connection.rb
  pub session_is : session ≡ connection.session
  pub next_is : next ≡ record s { phase = WaitAr connection }
  pub verified_is : verified ≡ au2_text (peer_flag s) s.me connection.peer 1 connection.ra connection.rb
  pub sealed_is : sealed ≡ au3_text (flag_of s.role) connection.peer connection.ra connection.rb
  pub octets_is : octets ≡ spelling (Au3 (mac_of session sealed)) (flag_of s.role)

-- AR is sent, and the responder is connected: an AU3 for which it waits, whose MAC is that of its text
pub record SendsAr (s : Safety) (event : SafetyEvent) (next : Safety) (connection : Connection) (verified sealed octets : List ℕ)
    : Type 0 where
  pub waits : s.phase ≡ WaitAu3 connection
  pub received : IsReceived s event (Au3 (mac_of connection.session verified))
  pub next_is : next ≡ record s { phase = Connected connection.peer connection.session }
  pub verified_is : verified ≡ au3_text (peer_flag s) s.me connection.ra connection.rb
  pub sealed_is : sealed ≡ ar_text (flag_of s.role) connection.peer
  pub octets_is : octets ≡ spelling (Ar (mac_of connection.session sealed)) (flag_of s.role)

-- the initiator is connected: an AR for which it waits, whose MAC is that of its text
pub record ReceivesAr (s : Safety) (event : SafetyEvent) (next : Safety) (connection : Connection) (verified : List ℕ) : Type 0 where
  pub waits : s.phase ≡ WaitAr connection
  pub received : IsReceived s event (Ar (mac_of connection.session verified))
  pub next_is : next ≡ record s { phase = Connected connection.peer connection.session }
  pub verified_is : verified ≡ ar_text (peer_flag s) s.me

-- user octets are accepted: a DT at a connected side, whose MAC is that of its text
pub record AcceptsDt (s : Safety) (event : SafetyEvent) (next : Safety) (session : TripleKey) (user verified : List ℕ) : Type 0 where
  pub peer : ℕ
  pub connected : s.phase ≡ Connected peer session
  pub received : IsReceived s event (Dt user (mac_of session verified))
  pub next_is : next ≡ s
  pub verified_is : verified ≡ message_text (peer_flag s) s.me user

-- a DT is sent: a message of the user at a connected side
pub record SendsDt (s : Safety) (event : SafetyEvent) (next : Safety) (session : TripleKey) (user sealed octets : List ℕ) : Type 0 where
  pub peer : ℕ
  pub event_is : event ≡ DataRequest user
  pub connected : s.phase ≡ Connected peer session
  pub message : IsMessage user
  pub next_is : next ≡ s
  pub sealed_is : sealed ≡ message_text (flag_of s.role) peer user
  pub octets_is : octets ≡ spelling (Dt user (mac_of session sealed)) (flag_of s.role)

-- why user octets are refused: the side is released; it is in the set-up; it is connected, and they are no message
abbrev pub RefusalMet : Safety → List ℕ → Refusal → Type 0
RefusalMet s user (RefusedReleased release) = (session : Option TripleKey) × (s.phase ≡ Released release session)
RefusalMet s user RefusedNotConnected = IsInSetUp s.phase
RefusalMet s user (RefusedLength found) =
    ((peer : ℕ) × (session : TripleKey) × (s.phase ≡ Connected peer session)) × (found ≡ length user) × (IsMessage user → ⊥)

-- a send is refused
pub record RefusesDataRequest (s : Safety) (event : SafetyEvent) (next : Safety) (refusal : Refusal) : Type 0 where
  pub user : List ℕ
  pub event_is : event ≡ DataRequest user
  pub met : RefusalMet s user refusal
  pub next_is : next ≡ s

-- this side releases
pub record ReleasesLocally (key_of : ℕ → ℕ → Option TripleKey) (s : Safety) (event : SafetyEvent) (next : Safety) (release : Release)
    (octets : List ℕ) : Type 0 where
  pub cause : Cause
  pub met : CauseMet key_of s event cause
  pub releases : ReleasesWith s cause next release octets

-- the peer releases: by its DI, with the DI's two octets; the session keys stay
pub record ReleasesByPeer (s : Safety) (event : SafetyEvent) (next : Safety) (release : Release) : Type 0 where
  pub reason : ℕ
  pub sub : ℕ
  pub unreleased : IsOpen s.phase
  pub received : IsReceived s event (Di reason sub)
  pub release_is : release ≡ by_peer_di reason sub
  pub next_is : next ≡ record s { phase = Released release (session_in s.phase) }

-- nothing is done: octets or a user's release at a released side, or a start of a side that has begun or is a responder
pub data StaysIdle (s : Safety) (event : SafetyEvent) (next : Safety) : Type 0 where
  AtReceived : (octets : List ℕ) (release : Release) (session : Option TripleKey) → event ≡ Received octets
      → s.phase ≡ Released release session → next ≡ s → StaysIdle s event next
  AtDisconnect : (sub : ℕ) (release : Release) (session : Option TripleKey) → event ≡ DisconnectRequest sub
      → s.phase ≡ Released release session → next ≡ s → StaysIdle s event next
  AtConnect : event ≡ ConnectRequest → (IsReady s.phase → ⊥) → next ≡ s → StaysIdle s event next

-- what was met where a step has this outcome, and how the side stands after it: of each outcome its row
abbrev pub IsStep : (ℕ → ℕ → Option TripleKey) → Safety → SafetyEvent → Safety → SafetyOutcome → Type 0
IsStep key_of s event next (SentAu1 octets) = SendsAu1 s event next octets
IsStep key_of s event next (SentAu2 session sealed octets) = SendsAu2 key_of s event next session sealed octets
IsStep key_of s event next (SentAu3 session verified sealed octets) = SendsAu3 s event next session verified sealed octets
IsStep key_of s event next (SentAr connection verified sealed octets) = SendsAr s event next connection verified sealed octets
IsStep key_of s event next (ReceivedAr connection verified) = ReceivesAr s event next connection verified
IsStep key_of s event next (AcceptedDt session user verified) = AcceptsDt s event next session user verified
IsStep key_of s event next (SentDt session user sealed octets) = SendsDt s event next session user sealed octets
IsStep key_of s event next (Refused refusal) = RefusesDataRequest s event next refusal
IsStep key_of s event next (ReleasedLocally release octets) = ReleasesLocally key_of s event next release octets
IsStep key_of s event next (ReleasedByPeer release) = ReleasesByPeer s event next release
IsStep key_of s event next NothingDone = StaysIdle s event next

-- a step has an outcome only where that outcome's row is met
abbrev pub StepsOnly : Type 0
StepsOnly = (key_of : ℕ → ℕ → Option TripleKey) (s : Safety) (event : SafetyEvent) → IsStep key_of s event (step key_of s event).0 (step key_of s event).1

-- where an outcome's row is met, the step has it
abbrev pub StepsEach : Type 0
StepsEach =
    (key_of : ℕ → ℕ → Option TripleKey) (s : Safety) (event : SafetyEvent) (next : Safety) (outcome : SafetyOutcome)
    → IsStep key_of s event next outcome → step key_of s event ≡ (next, outcome)

-- ---- releases

-- a side whose cause for a release is met releases for this cause
abbrev pub CauseReleases : Type 0
CauseReleases =
    (key_of : ℕ → ℕ → Option TripleKey) (s : Safety) (event : SafetyEvent) (cause : Cause) → CauseMet key_of s event cause
    → (next : Safety) × (release : Release) × (octets : List ℕ) × (step key_of s event ≡ (next, ReleasedLocally release octets))
    × ReleasesWith s cause next release octets

-- a side that releases met the cause of its reason
abbrev pub ReleasesOnly : Type 0
ReleasesOnly =
    (key_of : ℕ → ℕ → Option TripleKey) (s : Safety) (event : SafetyEvent) (release : Release) (octets : List ℕ)
    → (step key_of s event).1 ≡ ReleasedLocally release octets
    → (cause : Cause) × CauseMet key_of s event cause × ReleasesWith s cause (step key_of s event).0 release octets
