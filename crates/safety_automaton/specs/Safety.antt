-- The safety model of one side of a safe connection (UNISIG SUBSET-037: peer entity authentication, Safe Transmission, release;
-- this profile's octets, order of checks and reasons). `row` is the table of the automaton, its rows in their order.
use Rattle.std.specs.Prelude.{ℕ, ◌==◌, Bool, true, false, not, if◌then◌else◌, List, [], length, Option, Some, None, Result, Ok, Err}
use Rattle.er_base.specs.declared.release.Release.{Release}
use Rattle.er_base.specs.declared.cause.Cause.{Cause}
use Rattle.er_base.specs.declared.cause.Cause.TheVariants.{User, NoKey, Au2MacWrong, Au3MacWrong, ArMacWrong, OtherResponder, OtherFeature, DtMacWrong}
use Rattle.er_base.specs.declared.cause.Cause.TheVariants.{WrongDirection, Unexpected, Malformed}
use Rattle.er_base.specs.Causes.{release_of, by_peer_di}
use Rattle.des_block.specs.declared.triple_key.TripleKey.{TripleKey}
use Rattle.cbc_mac.specs.Mac.{mac_of}
use Rattle.session_keys.specs.Session.{session_of}
use Rattle.sapdu.specs.Spelling.{SafetyPdu, Au1, Au2, Au3, Ar, Dt, Di, spelling, read_of}
use Rattle.sapdu.specs.Messages.{is_message}
use Rattle.sapdu.specs.Sealed.{sealed_text}
use Rattle.sapdu.specs.declared.fault.SaFault.{SaFault}
use Rattle.safety_automaton.specs.declared.role.Role.{Role}
use Rattle.safety_automaton.specs.declared.role.Role.TheVariants.{Initiator, Responder}

-- the direction flag of what a side of this role sends: DF 0 from the initiator, DF 1 from the responder
abbrev pub flag_of : Role → Bool
flag_of Initiator = false
flag_of Responder = true

-- the role of the peer
abbrev pub other_role : Role → Role
other_role Initiator = Responder
other_role Responder = Initiator

-- two direction flags are equal
abbrev pub same_flag : Bool → Bool → Bool
same_flag true flag = flag
same_flag false flag = not flag

-- what two sides that know each other have in common: the own number and the peer's, the two random numbers, the session keys
pub record Connection : Type 0 where
  pub me : ℕ
  pub peer : ℕ
  -- the responder's random number
  pub ra : ℕ
  -- the initiator's random number
  pub rb : ℕ
  pub session : TripleKey

-- the state of a side, with all that it knows beside its own number and its role
pub data Phase : Type 0 where
  -- an initiator before its start: the peer to be called, their KMAC, the own random number
  Ready : (peer : ℕ) (kmac : TripleKey) (rb : ℕ) → Phase
  -- a responder before an AU1: the own random number
  WaitAu1 : (ra : ℕ) → Phase
  -- an initiator whose AU1 was sent
  WaitAu2 : (peer : ℕ) (kmac : TripleKey) (rb : ℕ) → Phase
  -- a responder whose AU2 was sent
  WaitAu3 : (connection : Connection) → Phase
  -- an initiator whose AU3 was sent
  WaitAr : (connection : Connection) → Phase
  Connected : (peer : ℕ) (session : TripleKey) → Phase
  -- after a release: the release, and the session keys where they were known
  Released : (release : Release) (session : Option TripleKey) → Phase

-- a side: its own number, its role, its phase
pub record Safety : Type 0 where
  pub me : ℕ
  pub role : Role
  pub phase : Phase

-- an initiator that is to call a peer
abbrev pub initiator : ℕ → ℕ → TripleKey → ℕ → Safety
initiator me peer kmac rb = record { me = me; role = Initiator; phase = Ready peer kmac rb }

-- a responder that waits to be called
abbrev pub responder : ℕ → ℕ → Safety
responder me ra = record { me = me; role = Responder; phase = WaitAu1 ra }

-- a side with fixed session keys: connected from the start
abbrev pub fixed : ℕ → ℕ → Role → TripleKey → Safety
fixed me peer role session = record { me = me; role = role; phase = Connected peer session }

-- the direction flag that a side expects: its peer's
abbrev pub peer_flag : Safety → Bool
peer_flag s = flag_of (other_role s.role)

-- the session keys, as soon as they are known
abbrev pub session_in : Phase → Option TripleKey
session_in (Ready peer kmac rb) = None
session_in (WaitAu1 ra) = None
session_in (WaitAu2 peer kmac rb) = None
session_in (WaitAu3 connection) = Some connection.session
session_in (WaitAr connection) = Some connection.session
session_in (Connected peer session) = Some session
session_in (Released release session) = session

-- the peer that was authenticated, while the safe connection stands
abbrev pub authenticated_peer : Phase → Option ℕ
authenticated_peer (Ready peer kmac rb) = None
authenticated_peer (WaitAu1 ra) = None
authenticated_peer (WaitAu2 peer kmac rb) = None
authenticated_peer (WaitAu3 connection) = None
authenticated_peer (WaitAr connection) = None
authenticated_peer (Connected peer session) = Some peer
authenticated_peer (Released release session) = None

-- what is given to a side
pub data SafetyEvent : Type 0 where
  -- Sa-CONNECT.request: an initiator is to begin
  ConnectRequest : SafetyEvent
  -- octets from the peer
  Received : (octets : List ℕ) → SafetyEvent
  -- Sa-DATA.request: the user sends
  DataRequest : (user : List ℕ) → SafetyEvent
  -- Sa-DISCONNECT.request: the user releases, with this sub-reason
  DisconnectRequest : (sub : ℕ) → SafetyEvent

-- why a send is refused: the side is released, it isn't connected, or the user octets, so many, aren't 1 to 1,023
pub data Refusal : Type 0 where
  RefusedReleased : (release : Release) → Refusal
  RefusedNotConnected : Refusal
  RefusedLength : (found : ℕ) → Refusal

-- what a side does; `sealed` is a text that it sealed for sending, `verified` one whose MAC verified, `octets` the SaPDU that it sends
pub data SafetyOutcome : Type 0 where
  -- an AU1 was sent
  SentAu1 : (octets : List ℕ) → SafetyOutcome
  -- an AU1 was received, an AU2 sent
  SentAu2 : (session : TripleKey) (sealed octets : List ℕ) → SafetyOutcome
  -- an AU2 was received, an AU3 sent
  SentAu3 : (session : TripleKey) (verified sealed octets : List ℕ) → SafetyOutcome
  -- an AU3 was received, an AR sent: the responder is connected
  SentAr : (connection : Connection) (verified sealed octets : List ℕ) → SafetyOutcome
  -- an AR was received: the initiator is connected
  ReceivedAr : (connection : Connection) (verified : List ℕ) → SafetyOutcome
  -- a DT was received and its user octets accepted
  AcceptedDt : (session : TripleKey) (user verified : List ℕ) → SafetyOutcome
  -- a DT was sent with these user octets
  SentDt : (session : TripleKey) (user sealed octets : List ℕ) → SafetyOutcome
  -- a send was refused
  Refused : (refusal : Refusal) → SafetyOutcome
  -- this side released, and sent a DI
  ReleasedLocally : (release : Release) (octets : List ℕ) → SafetyOutcome
  -- the peer released, by its DI
  ReleasedByPeer : (release : Release) → SafetyOutcome
  NothingDone : SafetyOutcome

-- the sealed text of an AU2 from a side of that number, to the initiator `receiver`
unfoldable pub au2_text : (flag : Bool) (receiver sender feature ra rb : ℕ) → List ℕ
au2_text flag receiver sender feature ra rb = sealed_text (Au2 sender feature ra 0) flag receiver ra rb

-- the sealed text of an AU3
unfoldable pub au3_text : (flag : Bool) (receiver ra rb : ℕ) → List ℕ
au3_text flag receiver ra rb = sealed_text (Au3 0) flag receiver ra rb

-- the sealed text of an AR
unfoldable pub ar_text : (flag : Bool) (receiver : ℕ) → List ℕ
ar_text flag receiver = sealed_text (Ar 0) flag receiver 0 0

-- the sealed text of a DT with these user octets
unfoldable pub message_text : (flag : Bool) (receiver : ℕ) (user : List ℕ) → List ℕ
message_text flag receiver user = sealed_text (Dt user 0) flag receiver 0 0

-- ---- outcomes, each with the side after it

-- this side releases for this cause: it sends a DI with the reason and the sub-reason
abbrev pub releases : Safety → Cause → Safety × SafetyOutcome
releases s cause =
    let release : Release = release_of cause in (
      record s { phase = Released release (session_in s.phase) },
      ReleasedLocally release (spelling (Di release.reason release.sub) (flag_of s.role)),
    )

-- the peer's DI releases
abbrev pub released_by_peer : Safety → (reason sub : ℕ) → Safety × SafetyOutcome
released_by_peer s reason sub =
    (record s { phase = Released (by_peer_di reason sub) (session_in s.phase) }, ReleasedByPeer (by_peer_di reason sub))

-- a responder has a connection in common with the initiator that called it: AU2 is sent
abbrev pub sends_au2 : Safety → Connection → Safety × SafetyOutcome
sends_au2 s c =
    let text : List ℕ = au2_text (flag_of s.role) c.peer s.me 1 c.ra c.rb in
    (record s { phase = WaitAu3 c }, SentAu2 c.session text (spelling (Au2 s.me 1 c.ra (mac_of c.session text)) (flag_of s.role)))

-- an initiator has verified the text of an AU2: AU3 is sent
abbrev pub sends_au3 : Safety → Connection → (verified : List ℕ) → Safety × SafetyOutcome
sends_au3 s c verified =
    let text : List ℕ = au3_text (flag_of s.role) c.peer c.ra c.rb in
    (record s { phase = WaitAr c }, SentAu3 c.session verified text (spelling (Au3 (mac_of c.session text)) (flag_of s.role)))

-- a responder has verified the text of an AU3: AR is sent, and it is connected
abbrev pub sends_ar : Safety → Connection → (verified : List ℕ) → Safety × SafetyOutcome
sends_ar s c verified =
    let text : List ℕ = ar_text (flag_of s.role) c.peer in
    (record s { phase = Connected c.peer c.session }, SentAr c verified text (spelling (Ar (mac_of c.session text)) (flag_of s.role)))

-- an initiator has verified the text of an AR: it is connected
abbrev pub receives_ar : Safety → Connection → (verified : List ℕ) → Safety × SafetyOutcome
receives_ar s c verified = (record s { phase = Connected c.peer c.session }, ReceivedAr c verified)

-- a connected side has verified the text of a DT: its user octets are accepted
abbrev pub accepts_dt : Safety → TripleKey → (user verified : List ℕ) → Safety × SafetyOutcome
accepts_dt s session user verified = (s, AcceptedDt session user verified)

-- a connected side sends user octets: they are sealed and spelled as a DT
abbrev pub sends_dt : Safety → (peer : ℕ) → TripleKey → (user : List ℕ) → Safety × SafetyOutcome
sends_dt s peer session user =
    let text : List ℕ = message_text (flag_of s.role) peer user in
    (s, SentDt session user text (spelling (Dt user (mac_of session text)) (flag_of s.role)))

-- ---- the table: state, received SaPDU, tests, outcome

-- a readable SaPDU with the peer's direction flag, at a side that isn't released, which looks KMACs up so: the first that fits. The
-- text of a received SaPDU is that of its header, so it has the peer's flag, and the receiver of its text is this side
abbrev pub row : (ℕ → ℕ → Option TripleKey) → Safety → Phase → SafetyPdu → Safety × SafetyOutcome
row key_of s phase (Di reason sub) = released_by_peer s reason sub
row key_of s (WaitAu1 ra) (Au1 id feature rb) =
    if not (feature == 1) then releases s OtherFeature
    else elim (key_of id s.me) [
      | None ↦ releases s NoKey
      | Some kmac ↦ sends_au2 s (record { me = s.me; peer = id; ra = ra; rb = rb; session = session_of kmac ra rb })
    ]
row key_of s (WaitAu2 peer kmac rb) (Au2 id feature ra mac) =
    let session : TripleKey = session_of kmac ra rb in
    let text : List ℕ = au2_text (peer_flag s) s.me peer 1 ra rb in
    if not (feature == 1) then releases s OtherFeature
    else if not (id == peer) then releases s OtherResponder
    else if not (mac == mac_of session text) then releases s Au2MacWrong
    else sends_au3 s (record { me = s.me; peer = peer; ra = ra; rb = rb; session = session }) text
row key_of s (WaitAu3 c) (Au3 mac) =
    let text : List ℕ = au3_text (peer_flag s) s.me c.ra c.rb in
    if not (mac == mac_of c.session text) then releases s Au3MacWrong
    else sends_ar s c text
row key_of s (WaitAr c) (Ar mac) =
    let text : List ℕ = ar_text (peer_flag s) s.me in
    if not (mac == mac_of c.session text) then releases s ArMacWrong
    else receives_ar s c text
row key_of s (Connected peer session) (Dt user mac) =
    let text : List ℕ = message_text (peer_flag s) s.me user in
    if not (mac == mac_of session text) then releases s DtMacWrong
    else accepts_dt s session user text
-- anything else
row key_of s phase pdu = releases s Unexpected

-- what was read of octets from the peer, at a side that isn't released: unreadable; a direction flag that isn't the peer's; then
-- the rows
abbrev pub checked : (ℕ → ℕ → Option TripleKey) → Safety → Result (SafetyPdu × Bool) SaFault → Safety × SafetyOutcome
checked key_of s (Err fault) = releases s Malformed
checked key_of s (Ok read) =
    if not (same_flag read.1 (peer_flag s)) then releases s WrongDirection
    else row key_of s s.phase read.0

-- octets from the peer; a released side ignores them
abbrev pub step_received_octets : (ℕ → ℕ → Option TripleKey) → Safety → Phase → List ℕ → Safety × SafetyOutcome
step_received_octets key_of s (Released release session) octets = (s, NothingDone)
step_received_octets key_of s (Ready peer kmac rb) octets = checked key_of s (read_of octets)
step_received_octets key_of s (WaitAu1 ra) octets = checked key_of s (read_of octets)
step_received_octets key_of s (WaitAu2 peer kmac rb) octets = checked key_of s (read_of octets)
step_received_octets key_of s (WaitAu3 connection) octets = checked key_of s (read_of octets)
step_received_octets key_of s (WaitAr connection) octets = checked key_of s (read_of octets)
step_received_octets key_of s (Connected peer session) octets = checked key_of s (read_of octets)

-- ---- the user's requests

-- a send is refused where the side is released, then where it isn't connected, then where the length isn't that of a message
abbrev pub sends : Safety → Phase → List ℕ → Safety × SafetyOutcome
sends s (Released release session) user = (s, Refused (RefusedReleased release))
sends s (Connected peer session) user =
    if not (is_message user) then (s, Refused (RefusedLength (length user)))
    else sends_dt s peer session user
sends s (Ready peer kmac rb) user = (s, Refused RefusedNotConnected)
sends s (WaitAu1 ra) user = (s, Refused RefusedNotConnected)
sends s (WaitAu2 peer kmac rb) user = (s, Refused RefusedNotConnected)
sends s (WaitAu3 connection) user = (s, Refused RefusedNotConnected)
sends s (WaitAr connection) user = (s, Refused RefusedNotConnected)

-- an initiator begins: AU1 is sent
abbrev pub connects : Safety → Phase → Safety × SafetyOutcome
connects s (Ready peer kmac rb) =
    (record s { phase = WaitAu2 peer kmac rb }, SentAu1 (spelling (Au1 s.me 1 rb) (flag_of s.role)))
connects s (WaitAu1 ra) = (s, NothingDone)
connects s (WaitAu2 peer kmac rb) = (s, NothingDone)
connects s (WaitAu3 connection) = (s, NothingDone)
connects s (WaitAr connection) = (s, NothingDone)
connects s (Connected peer session) = (s, NothingDone)
connects s (Released release session) = (s, NothingDone)

-- the user releases; a released side does nothing
abbrev pub disconnects : Safety → Phase → (sub : ℕ) → Safety × SafetyOutcome
disconnects s (Released release session) sub = (s, NothingDone)
disconnects s (Ready peer kmac rb) sub = releases s (User sub)
disconnects s (WaitAu1 ra) sub = releases s (User sub)
disconnects s (WaitAu2 peer kmac rb) sub = releases s (User sub)
disconnects s (WaitAu3 connection) sub = releases s (User sub)
disconnects s (WaitAr connection) sub = releases s (User sub)
disconnects s (Connected peer session) sub = releases s (User sub)

-- one step of a side that looks KMACs up so, by the engine's number and the radio block centre's
abbrev pub step : (ℕ → ℕ → Option TripleKey) → Safety → SafetyEvent → Safety × SafetyOutcome
step key_of s ConnectRequest = connects s s.phase
step key_of s (Received octets) = step_received_octets key_of s s.phase octets
step key_of s (DataRequest user) = sends s s.phase user
step key_of s (DisconnectRequest sub) = disconnects s s.phase sub

-- ---- what an outcome tells

-- the text that a step sealed for sending
abbrev pub sealed_by : SafetyOutcome → Option (List ℕ)
sealed_by (SentAu1 octets) = None
sealed_by (SentAu2 session sealed octets) = Some sealed
sealed_by (SentAu3 session verified sealed octets) = Some sealed
sealed_by (SentAr connection verified sealed octets) = Some sealed
sealed_by (ReceivedAr connection verified) = None
sealed_by (AcceptedDt session user verified) = None
sealed_by (SentDt session user sealed octets) = Some sealed
sealed_by (Refused refusal) = None
sealed_by (ReleasedLocally release octets) = None
sealed_by (ReleasedByPeer release) = None
sealed_by NothingDone = None

-- the text whose MAC verified in it
abbrev pub verified_by : SafetyOutcome → Option (List ℕ)
verified_by (SentAu1 octets) = None
verified_by (SentAu2 session sealed octets) = None
verified_by (SentAu3 session verified sealed octets) = Some verified
verified_by (SentAr connection verified sealed octets) = Some verified
verified_by (ReceivedAr connection verified) = Some verified
verified_by (AcceptedDt session user verified) = Some verified
verified_by (SentDt session user sealed octets) = None
verified_by (Refused refusal) = None
verified_by (ReleasedLocally release octets) = None
verified_by (ReleasedByPeer release) = None
verified_by NothingDone = None

-- the octets that it sends, none where it sends none
abbrev pub octets_sent_in_outcome : SafetyOutcome → List ℕ
octets_sent_in_outcome (SentAu1 octets) = octets
octets_sent_in_outcome (SentAu2 session sealed octets) = octets
octets_sent_in_outcome (SentAu3 session verified sealed octets) = octets
octets_sent_in_outcome (SentAr connection verified sealed octets) = octets
octets_sent_in_outcome (ReceivedAr connection verified) = []
octets_sent_in_outcome (AcceptedDt session user verified) = []
octets_sent_in_outcome (SentDt session user sealed octets) = octets
octets_sent_in_outcome (Refused refusal) = []
octets_sent_in_outcome (ReleasedLocally release octets) = octets
octets_sent_in_outcome (ReleasedByPeer release) = []
octets_sent_in_outcome NothingDone = []

-- a look-up that finds nothing, for events at which no key is looked up
abbrev pub no_keys : ℕ → ℕ → Option TripleKey
no_keys engine rbc = None
