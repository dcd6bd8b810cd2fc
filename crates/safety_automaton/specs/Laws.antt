-- What follows from the rows of one side of a safe connection (UNISIG SUBSET-037; octets and reasons are this profile's): messages,
-- connections, rest, the sides that there can be, session keys, lengths, what sealed texts tell, and the look-up of keys.
use Rattle.std.specs.Prelude.{ℕ, ◌+◌, ◌≡◌, ◌<◌, ◌≤◌, ◌^◌, ◌⊎◌, Bool, List, [], length, slice_get, Option, Some, None, Ok}
use Rattle.er_base.specs.Octets.{eight, AreOctets}
use Rattle.er_base.specs.declared.release.Release.{Release}
use Rattle.des_block.specs.declared.triple_key.TripleKey.{TripleKey}
use Rattle.cbc_mac.specs.Mac.{mac_of}
use Rattle.sapdu.specs.Spelling.{SafetyPdu, Dt, spelling, read_of}
use Rattle.sapdu.specs.SpellingLaws.{Fits}
use Rattle.sapdu.specs.Messages.{IsMessage}
use Rattle.safety_automaton.specs.declared.role.Role.{Role}
use Rattle.safety_automaton.specs.declared.role.Role.TheVariants.{Initiator, Responder}
use Rattle.safety_automaton.specs.Keys.{KmacEntry, key_at, AreKmacEntriesApart}
use Rattle.safety_automaton.specs.Safety.{Safety, Connection, Phase, Ready, WaitAu1, WaitAu2, WaitAu3, WaitAr, Connected, Released, SafetyEvent, ConnectRequest}
use Rattle.safety_automaton.specs.Safety.{Received, DataRequest, DisconnectRequest, RefusedReleased, SafetyOutcome, SentAu1, SentAu2, SentAu3, SentAr}
use Rattle.safety_automaton.specs.Safety.{ReceivedAr, AcceptedDt, SentDt, Refused, ReleasedLocally, ReleasedByPeer, NothingDone, initiator, responder, fixed}
use Rattle.safety_automaton.specs.Safety.{flag_of, peer_flag, session_in, octets_sent_in_outcome, au2_text, au3_text, ar_text, message_text, step}
use Rattle.safety_automaton.specs.Rules.{IsReceived}

-- ---- messages

-- a verified message: the side is connected under these session keys, the text is that of a DT to it with the peer's flag, and the
-- octets are a DT with that flag whose MAC is the MAC of the text
pub record IsVerifiedMessage (s : Safety) (session : TripleKey) (octets user text : List ℕ) : Type 0 where
  pub peer : ℕ
  pub connected : s.phase ≡ Connected peer session
  pub text_is : text ≡ message_text (peer_flag s) s.me user
  pub read : read_of octets ≡ Ok (Dt user (mac_of session text), peer_flag s)

-- only a verified message is accepted
abbrev pub AcceptsVerified : Type 0
AcceptsVerified =
    (key_of : ℕ → ℕ → Option TripleKey) (s : Safety) (session : TripleKey) (octets user text : List ℕ)
    → (step key_of s (Received octets)).1 ≡ AcceptedDt session user text → IsVerifiedMessage s session octets user text

-- each verified message is accepted, and the side stays as it is
abbrev pub VerifiedAccepts : Type 0
VerifiedAccepts =
    (key_of : ℕ → ℕ → Option TripleKey) (s : Safety) (session : TripleKey) (octets user text : List ℕ)
    → IsVerifiedMessage s session octets user text → step key_of s (Received octets) ≡ (s, AcceptedDt session user text)

-- the same in octets: a connected side receives the DT that its peer spells of a message
pub record IsPeersDt (s : Safety) (session : TripleKey) (octets user text : List ℕ) : Type 0 where
  pub peer : ℕ
  pub connected : s.phase ≡ Connected peer session
  pub message : IsMessage user
  pub text_is : text ≡ message_text (peer_flag s) s.me user
  pub spelled : octets ≡ spelling (Dt user (mac_of session text)) (peer_flag s)

-- only the peer's DT is accepted
abbrev pub AcceptsSpelled : Type 0
AcceptsSpelled =
    (key_of : ℕ → ℕ → Option TripleKey) (s : Safety) (session : TripleKey) (octets user text : List ℕ)
    → AreOctets octets → (step key_of s (Received octets)).1 ≡ AcceptedDt session user text → IsPeersDt s session octets user text

-- the peer's DT is accepted
abbrev pub SpelledAccepts : Type 0
SpelledAccepts =
    (key_of : ℕ → ℕ → Option TripleKey) (s : Safety) (session : TripleKey) (octets user text : List ℕ)
    → AreOctets user → IsPeersDt s session octets user text → step key_of s (Received octets) ≡ (s, AcceptedDt session user text)

-- an SaPDU that its peer spells is received
abbrev pub SpelledIsReceived : Type 0
SpelledIsReceived =
    (s : Safety) (octets : List ℕ) (pdu : SafetyPdu) → Fits pdu → octets ≡ spelling pdu (peer_flag s) → IsReceived s (Received octets) pdu

-- what is received is spelled so
abbrev pub ReceivedIsSpelled : Type 0
ReceivedIsSpelled =
    (s : Safety) (octets : List ℕ) (pdu : SafetyPdu) → AreOctets octets → IsReceived s (Received octets) pdu → Fits pdu × (octets ≡ spelling pdu (peer_flag s))

-- ---- connected only so

-- how a side comes to be connected: it was, or a responder received an AU3 or an initiator an AR that verified
pub data ComesConnected (s : Safety) (outcome : SafetyOutcome) (peer : ℕ) (session : TripleKey) : Type 0 where
  WasConnected : s.phase ≡ Connected peer session → ComesConnected s outcome peer session
  HasSentAr : (c : Connection) (verified sealed octets : List ℕ) → outcome ≡ SentAr c verified sealed octets → c.peer ≡ peer
      → c.session ≡ session → ComesConnected s outcome peer session
  HasReceivedAr : (c : Connection) (verified : List ℕ) → outcome ≡ ReceivedAr c verified → c.peer ≡ peer → c.session ≡ session
      → ComesConnected s outcome peer session

abbrev pub ConnectsOnly : Type 0
ConnectsOnly =
    (key_of : ℕ → ℕ → Option TripleKey) (s : Safety) (event : SafetyEvent) (peer : ℕ) (session : TripleKey)
    → (step key_of s event).0.phase ≡ Connected peer session → ComesConnected s (step key_of s event).1 peer session

-- ---- rest

-- a released side ignores what it receives, refuses what it is to send, does nothing else, and its release stays
pub record IsAtRest (s : Safety) (release : Release) : Type 0 where
  pub ignores : (key_of : ℕ → ℕ → Option TripleKey) (octets : List ℕ) → step key_of s (Received octets) ≡ (s, NothingDone)
  pub refuses : (key_of : ℕ → ℕ → Option TripleKey) (user : List ℕ) → step key_of s (DataRequest user) ≡ (s, Refused (RefusedReleased release))
  pub stays : (key_of : ℕ → ℕ → Option TripleKey) (sub : ℕ) → step key_of s (DisconnectRequest sub) ≡ (s, NothingDone)
  pub starts_nothing : (key_of : ℕ → ℕ → Option TripleKey) → step key_of s ConnectRequest ≡ (s, NothingDone)

abbrev pub ReleasedRests : Type 0
ReleasedRests = (s : Safety) (release : Release) (session : Option TripleKey) → s.phase ≡ Released release session → IsAtRest s release

-- ---- the sides that there can be

-- what a side of this number has in common with its peer: its own number, and numbers in range
pub record IsOwnConnection (me : ℕ) (c : Connection) : Type 0 where
  pub me_is : c.me ≡ me
  pub peer : c.peer < 2 ^ 24
  pub ra : c.ra < 2 ^ 64
  pub rb : c.rb < 2 ^ 64

-- a phase that a side of this number and role can have
abbrev pub IsValidPhase : ℕ → Role → Phase → Type 0
IsValidPhase me role (Ready peer kmac rb) = (role ≡ Initiator) × (peer < 2 ^ 24) × (rb < 2 ^ 64)
IsValidPhase me role (WaitAu1 ra) = (role ≡ Responder) × (ra < 2 ^ 64)
IsValidPhase me role (WaitAu2 peer kmac rb) = (role ≡ Initiator) × (peer < 2 ^ 24) × (rb < 2 ^ 64)
IsValidPhase me role (WaitAu3 connection) = (role ≡ Responder) × IsOwnConnection me connection
IsValidPhase me role (WaitAr connection) = (role ≡ Initiator) × IsOwnConnection me connection
IsValidPhase me role (Connected peer session) = peer < 2 ^ 24
IsValidPhase me role (Released release session) = (release.reason < 256) × (release.sub < 256)

-- a side that there can be
pub record IsValid (s : Safety) : Type 0 where
  pub me : s.me < 2 ^ 24
  pub phase : IsValidPhase s.me s.role s.phase

-- an event that there can be: its octets are octets
abbrev pub IsValidEvent : SafetyEvent → Type 0
IsValidEvent ConnectRequest = Unit {0}
IsValidEvent (Received octets) = AreOctets octets
IsValidEvent (DataRequest user) = AreOctets user
IsValidEvent (DisconnectRequest sub) = sub < 256

-- the sides that are made
pub record MakesValid : Type 0 where
  pub initiators : (me peer rb : ℕ) (kmac : TripleKey) → me < 2 ^ 24 → peer < 2 ^ 24 → rb < 2 ^ 64 → IsValid (initiator me peer kmac rb)
  pub responders : (me ra : ℕ) → me < 2 ^ 24 → ra < 2 ^ 64 → IsValid (responder me ra)
  pub fixed_sides : (me peer : ℕ) (role : Role) (session : TripleKey) → me < 2 ^ 24 → peer < 2 ^ 24 → IsValid (fixed me peer role session)

-- each step leads from such a side to such a side, of the same number and role
abbrev pub StaysValid : Type 0
StaysValid =
    (key_of : ℕ → ℕ → Option TripleKey) (s : Safety) (event : SafetyEvent) → IsValid s → IsValidEvent event → IsValid (step key_of s event).0

abbrev pub StaysItself : Type 0
StaysItself =
    (key_of : ℕ → ℕ → Option TripleKey) (s : Safety) (event : SafetyEvent)
    → ((step key_of s event).0.me ≡ s.me) × ((step key_of s event).0.role ≡ s.role)

-- octets are the spelling of an SaPDU with the own flag, whose numbers fit
pub record SpellsOwn (s : Safety) (octets : List ℕ) : Type 0 where
  pub pdu : SafetyPdu
  pub fits : Fits pdu
  pub octets_are : octets ≡ spelling pdu (flag_of s.role)

-- what a side sends is nothing or such an SaPDU
abbrev pub SendsOwn : Type 0
SendsOwn =
    (key_of : ℕ → ℕ → Option TripleKey) (s : Safety) (event : SafetyEvent) → IsValid s → IsValidEvent event
    → (octets_sent_in_outcome (step key_of s event).1 ≡ []) ⊎ SpellsOwn s (octets_sent_in_outcome (step key_of s event).1)

-- ---- session keys

-- the session keys under which the MACs of an outcome are made
abbrev pub session_keys_of_outcome : SafetyOutcome → Option TripleKey
session_keys_of_outcome (SentAu1 octets) = None
session_keys_of_outcome (SentAu2 session sealed octets) = Some session
session_keys_of_outcome (SentAu3 session verified sealed octets) = Some session
session_keys_of_outcome (SentAr connection verified sealed octets) = Some connection.session
session_keys_of_outcome (ReceivedAr connection verified) = Some connection.session
session_keys_of_outcome (AcceptedDt session user verified) = Some session
session_keys_of_outcome (SentDt session user sealed octets) = Some session
session_keys_of_outcome (Refused refusal) = None
session_keys_of_outcome (ReleasedLocally release octets) = None
session_keys_of_outcome (ReleasedByPeer release) = None
session_keys_of_outcome NothingDone = None

-- they are those of the side after the step
abbrev pub KeysAreOwn : Type 0
KeysAreOwn =
    (key_of : ℕ → ℕ → Option TripleKey) (s : Safety) (event : SafetyEvent) (session : TripleKey)
    → session_keys_of_outcome (step key_of s event).1 ≡ Some session → session_in (step key_of s event).0.phase ≡ Some session

-- session keys that are known stay, also after a release
abbrev pub KeysStay : Type 0
KeysStay =
    (key_of : ℕ → ℕ → Option TripleKey) (s : Safety) (event : SafetyEvent) (session : TripleKey)
    → session_in s.phase ≡ Some session → session_in (step key_of s event).0.phase ≡ Some session

-- how session keys come to be known: with the AU2 at a responder, with the AU3 at an initiator
pub data ComesToKnow (outcome : SafetyOutcome) (session : TripleKey) : Type 0 where
  WithAu2 : (sealed octets : List ℕ) → outcome ≡ SentAu2 session sealed octets → ComesToKnow outcome session
  WithAu3 : (verified sealed octets : List ℕ) → outcome ≡ SentAu3 session verified sealed octets → ComesToKnow outcome session

abbrev pub KeysOnly : Type 0
KeysOnly =
    (key_of : ℕ → ℕ → Option TripleKey) (s : Safety) (event : SafetyEvent) (session : TripleKey)
    → session_in s.phase ≡ None → session_in (step key_of s event).0.phase ≡ Some session → ComesToKnow (step key_of s event).1 session

-- ---- lengths

-- the length of what an outcome sends, and of what it accepts
abbrev pub HasOutcomeLength : SafetyOutcome → Type 0
HasOutcomeLength (SentAu1 octets) = length octets ≡ 13
HasOutcomeLength (SentAu2 session sealed octets) = length octets ≡ 21
HasOutcomeLength (SentAu3 session verified sealed octets) = length octets ≡ 9
HasOutcomeLength (SentAr connection verified sealed octets) = length octets ≡ 9
HasOutcomeLength (ReceivedAr connection verified) = Unit {0}
HasOutcomeLength (AcceptedDt session user verified) = IsMessage user
HasOutcomeLength (SentDt session user sealed octets) = IsMessage user × (length octets ≡ length user + 9)
HasOutcomeLength (Refused refusal) = Unit {0}
HasOutcomeLength (ReleasedLocally release octets) = length octets ≡ 3
HasOutcomeLength (ReleasedByPeer release) = Unit {0}
HasOutcomeLength NothingDone = Unit {0}

abbrev pub LengthsAre : Type 0
LengthsAre = (key_of : ℕ → ℕ → Option TripleKey) (s : Safety) (event : SafetyEvent) → IsValidEvent event → HasOutcomeLength (step key_of s event).1

-- the most octets that are sent at an event: an AU1, an AU2, the longest DT, a DI
abbrev pub most_sent : SafetyEvent → ℕ
most_sent ConnectRequest = 13
most_sent (Received octets) = 21
most_sent (DataRequest user) = 1032
most_sent (DisconnectRequest sub) = 3

abbrev pub SendsFew : Type 0
SendsFew =
    (key_of : ℕ → ℕ → Option TripleKey) (s : Safety) (event : SafetyEvent) → length (octets_sent_in_outcome (step key_of s event).1) ≤ most_sent event

-- ---- what sealed texts tell

-- the text of an AU2 tells its flag, the receiver, the sender, the safety feature and both random numbers in their eight octets
pub record SameAu2 (f g : Bool) (to to' from from' feature feature' ra ra' rb rb' : ℕ) : Type 0 where
  pub flag : f ≡ g
  pub receiver : to ≡ to'
  pub sender : from ≡ from'
  pub features : feature ≡ feature'
  pub responders : eight ra ≡ eight ra'
  pub initiators : eight rb ≡ eight rb'

-- that of an AU3 its flag, the receiver and both random numbers
pub record SameAu3 (f g : Bool) (to to' ra ra' rb rb' : ℕ) : Type 0 where
  pub flag : f ≡ g
  pub receiver : to ≡ to'
  pub responders : eight ra ≡ eight ra'
  pub initiators : eight rb ≡ eight rb'

-- that of an AR its flag and the receiver
pub record SameAr (f g : Bool) (to to' : ℕ) : Type 0 where
  pub flag : f ≡ g
  pub receiver : to ≡ to'

-- that of a DT its flag, the receiver and the user octets
pub record SameMessage (f g : Bool) (to to' : ℕ) (user user' : List ℕ) : Type 0 where
  pub flag : f ≡ g
  pub receiver : to ≡ to'
  pub users : user ≡ user'

-- equal texts are texts of one kind, and tell the same
pub record TextsTell : Type 0 where
  pub au2 : (f g : Bool) (to to' from from' feature feature' ra ra' rb rb' : ℕ)
      → au2_text f to from feature ra rb ≡ au2_text g to' from' feature' ra' rb' → SameAu2 f g to to' from from' feature feature' ra ra' rb rb'
  pub au3 : (f g : Bool) (to to' ra ra' rb rb' : ℕ) → au3_text f to ra rb ≡ au3_text g to' ra' rb' → SameAu3 f g to to' ra ra' rb rb'
  pub ar : (f g : Bool) (to to' : ℕ) → ar_text f to ≡ ar_text g to' → SameAr f g to to'
  pub message : (f g : Bool) (to to' : ℕ) (user user' : List ℕ) → message_text f to user ≡ message_text g to' user' → SameMessage f g to to' user user'
  pub au2_au3 : (f g : Bool) (to to' from feature ra ra' rb rb' : ℕ) → au2_text f to from feature ra rb ≡ au3_text g to' ra' rb' → ⊥
  pub au2_ar : (f g : Bool) (to to' from feature ra rb : ℕ) → au2_text f to from feature ra rb ≡ ar_text g to' → ⊥
  pub au2_message : (f g : Bool) (to to' from feature ra rb : ℕ) (user : List ℕ) → au2_text f to from feature ra rb ≡ message_text g to' user → ⊥
  pub au3_ar : (f g : Bool) (to to' ra rb : ℕ) → au3_text f to ra rb ≡ ar_text g to' → ⊥
  pub au3_message : (f g : Bool) (to to' ra rb : ℕ) (user : List ℕ) → au3_text f to ra rb ≡ message_text g to' user → ⊥
  pub ar_message : (f g : Bool) (to to' : ℕ) (user : List ℕ) → ar_text f to ≡ message_text g to' user → ⊥

-- ---- the look-up of keys

-- an entry that holds at a moment is found by its pair
abbrev pub FindsEach : Type 0
FindsEach =
    (entries : List KmacEntry) (entry : KmacEntry) (k now : ℕ) → AreKmacEntriesApart entries → slice_get entries k ≡ Some entry
    → entry.first ≤ now → now ≤ entry.last → key_at entries now entry.engine entry.rbc ≡ Some entry.kmac

-- an entry that was found, of this pair, at this moment
pub record IsFound (entries : List KmacEntry) (now engine rbc : ℕ) (kmac : TripleKey) : Type 0 where
  pub entry : KmacEntry
  pub place : ℕ
  pub stands : slice_get entries place ≡ Some entry
  pub engine_is : entry.engine ≡ engine
  pub rbc_is : entry.rbc ≡ rbc
  pub kmac_is : entry.kmac ≡ kmac
  pub has_begun : entry.first ≤ now
  pub holds_yet : now ≤ entry.last

abbrev pub FindsOnly : Type 0
FindsOnly = (entries : List KmacEntry) (now engine rbc : ℕ) (kmac : TripleKey) → key_at entries now engine rbc ≡ Some kmac → IsFound entries now engine rbc kmac
