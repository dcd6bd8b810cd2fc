-- Authentic messages and authentic peers (UNISIG SUBSET-037: message origin authentication, peer entity authentication): what is claimed
-- of each fact at a side, behind all that came before it.
use Rattle.std.specs.Prelude.{ℕ, ◌≡◌, ◌⊎◌, Bool, true, false, List, ◌∷◌, ◌++◌, Any, Option, Some, Ok}
use Rattle.er_base.specs.declared.side.Side.{Side}
use Rattle.er_base.specs.declared.side.Side.TheVariants.{E, R}
use Rattle.er_base.specs.Sides.{other}
use Rattle.er_base.specs.Octets.{eight}
use Rattle.des_block.specs.declared.triple_key.TripleKey.{TripleKey}
use Rattle.cbc_mac.specs.Mac.{mac_of}
use Rattle.session_keys.specs.Session.{session_of}
use Rattle.sapdu.specs.Spelling.{SafetyPdu, Au2, Au3, Ar, Dt, read_of}
use Rattle.safety_automaton.specs.Safety.{Connection, au2_text, au3_text, ar_text, message_text}
use Rattle.safety_pair_laws.specs.Facts.{Fact, Sent, Sealed, Verified, Connected, Accepted, SideFact, MarkedFact, marked}
use Rattle.safety_pair_laws.specs.Openings.{PairOpening, OfFixed, OfKeys, flag_from, etcs_number_of_side}

-- what was heard is this SaPDU with the direction flag of that side
abbrev pub IsReadFrom : Side → (heard : List ℕ) → SafetyPdu → Type 0
IsReadFrom side heard pdu = read_of heard ≡ Ok (pdu, flag_from side)

-- ---- what a side had done before

-- a send that was Ok, of these octets, which sealed this text under these session keys
abbrev pub Sends : (user : List ℕ) → TripleKey → (text : List ℕ) → Fact → Type 0
Sends user key text (Sent own_user own_key own_text) = (own_user ≡ user) × (own_key ≡ key) × (own_text ≡ text)
Sends user key text (Sealed own_key own_text) = ⊥
Sends user key text (Verified heard own_key own_text) = ⊥
Sends user key text (Connected heard connection own_text) = ⊥
Sends user key text (Accepted heard own_user own_key own_text) = ⊥

abbrev pub WasSent : Side → (user : List ℕ) → TripleKey → (text : List ℕ) → List MarkedFact → Type 0
WasSent side user key text before = Any (λ f. (f.side ≡ side) × Sends user key text f.fact) before

-- a sealing of this text of the set-up under these session keys
abbrev pub Seals : TripleKey → (text : List ℕ) → Fact → Type 0
Seals key text (Sent user own_key own_text) = ⊥
Seals key text (Sealed own_key own_text) = (own_key ≡ key) × (own_text ≡ text)
Seals key text (Verified heard own_key own_text) = ⊥
Seals key text (Connected heard connection own_text) = ⊥
Seals key text (Accepted heard user own_key own_text) = ⊥

abbrev pub WasSealed : Side → TripleKey → (text : List ℕ) → List MarkedFact → Type 0
WasSealed side key text before = Any (λ f. (f.side ≡ side) × Seals key text f.fact) before

-- a text of the set-up was verified under these session keys
abbrev pub Verifies : TripleKey → (text : List ℕ) → Fact → Type 0
Verifies key text (Sent user own_key own_text) = ⊥
Verifies key text (Sealed own_key own_text) = ⊥
Verifies key text (Verified heard own_key own_text) = (own_key ≡ key) × (own_text ≡ text)
Verifies key text (Connected heard connection own_text) = ⊥
Verifies key text (Accepted heard user own_key own_text) = ⊥

abbrev pub WasVerified : Side → TripleKey → (text : List ℕ) → List MarkedFact → Type 0
WasVerified side key text before = Any (λ f. (f.side ≡ side) × Verifies key text f.fact) before

-- this connection was reported
abbrev pub ConnectsAs : Connection → Fact → Type 0
ConnectsAs c (Sent user key text) = ⊥
ConnectsAs c (Sealed key text) = ⊥
ConnectsAs c (Verified heard key text) = ⊥
ConnectsAs c (Connected heard connection text) = connection ≡ c
ConnectsAs c (Accepted heard user key text) = ⊥

abbrev pub WasConnected : Side → Connection → List MarkedFact → Type 0
WasConnected side c before = Any (λ f. (f.side ≡ side) × ConnectsAs c f.fact) before

-- ---- marks

-- either side sealed this text under these session keys, in a set-up or for a message
abbrev pub EitherSealed : TripleKey → (text : List ℕ) → List MarkedFact → Type 0
EitherSealed key text before = Any (λ f. Seals key text f.fact ⊎ ((user : List ℕ) × Sends user key text f.fact)) before

-- a text that was verified is marked where neither side had sealed it, and only there
pub record IsMarkedRight (before : List MarkedFact) (key : TripleKey) (text : List ℕ) (forged : Bool) : Type 0 where
  pub only : forged ≡ true → EitherSealed key text before → ⊥
  pub else_sealed : forged ≡ false → EitherSealed key text before

-- a text that was verified earlier in the set-up of this side is marked
abbrev pub WasMarked : Side → List MarkedFact → Type 0
WasMarked side before =
    Any (λ f. (f.side ≡ side) × (f.forged ≡ true) × ((key : TripleKey) × (text : List ℕ) × Verifies key text f.fact)) before

-- ---- the set-up

-- an AU2 that an engine verified: that of the radio block centre it called, with some random number Ra, whose MAC is the MAC of its text
-- under the session keys of the engine's KMAC with that Ra and the engine's own random number
pub record IsAu2 (engine rbc : ℕ) (ke : TripleKey) (rb : ℕ) (heard : List ℕ) (key : TripleKey) (text : List ℕ) : Type 0 where
  pub ra : ℕ
  pub session : key ≡ session_of ke ra rb
  pub text_is : text ≡ au2_text (flag_from R) engine rbc 1 ra rb
  pub read : IsReadFrom R heard (Au2 rbc 1 ra (mac_of key text))

-- what is verified before a connection: the AU2 at an engine that called, and nothing else
abbrev pub IsVerifiedBeforeConnection : PairOpening → Side → (heard : List ℕ) → TripleKey → (text : List ℕ) → Type 0
IsVerifiedBeforeConnection (OfFixed engine rbc ke kr) side heard key text = ⊥
IsVerifiedBeforeConnection (OfKeys engine rbc ke kr ra rb) E heard key text = IsAu2 engine rbc ke rb heard key text
IsVerifiedBeforeConnection (OfKeys engine rbc ke kr ra rb) R heard key text = ⊥

-- a connection as a side of this opening can have it: its own number, the number of the other side, its own random number, and the session
-- keys of its KMAC with both random numbers
pub record IsEngines (engine rbc : ℕ) (ke : TripleKey) (rb : ℕ) (c : Connection) : Type 0 where
  pub me : c.me ≡ engine
  pub peer : c.peer ≡ rbc
  pub own : c.rb ≡ rb
  pub session : c.session ≡ session_of ke c.ra rb

pub record IsRbcs (engine rbc : ℕ) (kr : Option TripleKey) (ra : ℕ) (c : Connection) : Type 0 where
  pub me : c.me ≡ rbc
  pub peer : c.peer ≡ engine
  pub own : c.ra ≡ ra
  pub kmac : TripleKey
  pub found : kr ≡ Some kmac
  pub session : c.session ≡ session_of kmac ra c.rb

abbrev pub IsOwn : PairOpening → Side → Connection → Type 0
IsOwn (OfFixed engine rbc ke kr) side c = ⊥
IsOwn (OfKeys engine rbc ke kr ra rb) E c = IsEngines engine rbc ke rb c
IsOwn (OfKeys engine rbc ke kr ra rb) R c = IsRbcs engine rbc kr ra c

-- what is sealed in the set-up is the text of a connection of the side: at an engine that of AU3, at a radio block centre those of AU2 and AR
pub record IsEnginesSealing (opening : PairOpening) (key : TripleKey) (text : List ℕ) : Type 0 where
  pub connection : Connection
  pub own : IsOwn opening E connection
  pub key_is : key ≡ connection.session
  pub text_is : text ≡ au3_text (flag_from E) connection.peer connection.ra connection.rb

pub record IsRbcsSealing (opening : PairOpening) (key : TripleKey) (text : List ℕ) : Type 0 where
  pub connection : Connection
  pub own : IsOwn opening R connection
  pub key_is : key ≡ connection.session
  pub text_is : (text ≡ au2_text (flag_from R) connection.peer connection.me 1 connection.ra connection.rb)
      ⊎ (text ≡ ar_text (flag_from R) connection.peer)

abbrev pub IsSetUpSealing : PairOpening → Side → TripleKey → (text : List ℕ) → Type 0
IsSetUpSealing opening E key text = IsEnginesSealing opening key text
IsSetUpSealing opening R key text = IsRbcsSealing opening key text

-- what was heard connects: at a radio block centre an AU3, whose MAC is the MAC of its text with both random numbers
pub record IsAu3 (heard : List ℕ) (c : Connection) (text : List ℕ) : Type 0 where
  pub text_is : text ≡ au3_text (flag_from E) c.me c.ra c.rb
  pub read : IsReadFrom E heard (Au3 (mac_of c.session text))

-- at an engine an AR, whose MAC is the MAC of its text; the engine verified the text of the AU2 with both random numbers before
pub record IsAr (before : List MarkedFact) (heard : List ℕ) (c : Connection) (text : List ℕ) : Type 0 where
  pub text_is : text ≡ ar_text (flag_from R) c.me
  pub read : IsReadFrom R heard (Ar (mac_of c.session text))
  pub au2 : WasVerified E c.session (au2_text (flag_from R) c.me c.peer 1 c.ra c.rb) before

abbrev pub EndsSetUp : (before : List MarkedFact) → Side → (heard : List ℕ) → Connection → (text : List ℕ) → Type 0
EndsSetUp before E heard c text = IsAr before heard c text
EndsSetUp before R heard c text = IsAu3 heard c text

-- the peer sealed the texts of the set-up with both random numbers under these session keys: an engine that of AU3, a radio block centre
-- those of AU2 and AR
abbrev pub SealedSetUp : (before : List MarkedFact) → Side → Connection → Type 0
SealedSetUp before R c = WasSealed E c.session (au3_text (flag_from E) c.me c.ra c.rb) before
SealedSetUp before E c =
    WasSealed R c.session (au2_text (flag_from R) c.me c.peer 1 c.ra c.rb) before
    × WasSealed R c.session (ar_text (flag_from R) c.me) before

-- the peer has the same connection: one as it can have it, with the same session keys and both random numbers the same, octet by octet
pub record IsShared (opening : PairOpening) (side : Side) (c : Connection) : Type 0 where
  pub theirs : Connection
  pub own : IsOwn opening (other side) theirs
  pub session : theirs.session ≡ c.session
  pub ra : eight theirs.ra ≡ eight c.ra
  pub rb : eight theirs.rb ≡ eight c.rb

-- the random numbers of a connection are those of the opening, octet by octet
abbrev pub HasRandoms : PairOpening → Connection → Type 0
HasRandoms (OfFixed engine rbc ke kr) c = ⊥
HasRandoms (OfKeys engine rbc ke kr ra rb) c = (eight c.ra ≡ eight ra) × (eight c.rb ≡ eight rb)

pub record IsPeered (opening : PairOpening) (before : List MarkedFact) (side : Side) (c : Connection) : Type 0 where
  pub sealed : SealedSetUp before side c
  pub randoms : HasRandoms opening c
  pub shared : IsShared opening side c

-- a connection is one of the side itself, and what was heard ends its set-up; unless it is forged, it is one with an authentic peer. It is
-- forged only where neither side had sealed the text, or a text that was verified earlier in the set-up is marked
pub record IsConnection (opening : PairOpening) (before : List MarkedFact) (side : Side) (heard : List ℕ) (c : Connection) (text : List ℕ)
    (forged : Bool) : Type 0 where
  pub own : IsOwn opening side c
  pub set_up : EndsSetUp before side heard c text
  pub peered : forged ≡ false → IsPeered opening before side c
  pub trusted : forged ≡ false → WasMarked side before → ⊥
  pub only : forged ≡ true → (EitherSealed c.session text before → ⊥) ⊎ WasMarked side before

-- ---- messages

-- session keys of a connection of the side, that it reported before
pub record IsConnectedUnder (opening : PairOpening) (before : List MarkedFact) (side : Side) (key : TripleKey) : Type 0 where
  pub connection : Connection
  pub own : IsOwn opening side connection
  pub session : connection.session ≡ key
  pub reported : WasConnected side connection before

-- the session keys of a side: the fixed ones, or those of its connection, which are the session keys of its KMAC with both random numbers
abbrev pub HasSession : PairOpening → (before : List MarkedFact) → Side → TripleKey → Type 0
HasSession (OfFixed engine rbc ke kr) before E key = key ≡ ke
HasSession (OfFixed engine rbc ke kr) before R key = key ≡ kr
HasSession (OfKeys engine rbc ke kr ra rb) before side key = IsConnectedUnder (OfKeys engine rbc ke kr ra rb) before side key

-- a send: the text is that of these user octets to the other side, sealed under the side's session keys
pub record IsSend (opening : PairOpening) (before : List MarkedFact) (side : Side) (user : List ℕ) (key : TripleKey) (text : List ℕ) : Type 0 where
  pub session : HasSession opening before side key
  pub text_is : text ≡ message_text (flag_from side) (etcs_number_of_side opening (other side)) user

-- an accepted message: what was heard is a DT with these user octets and the peer's direction flag, whose MAC is the MAC of the text
-- under the side's session keys; the text is that of these user octets to this side; and unless it is forged, the peer sent these
-- octets before, sealed as this text under these session keys. It is forged only where neither side had sealed the text
pub record IsAcceptedMessage (opening : PairOpening) (before : List MarkedFact) (side : Side) (heard user : List ℕ) (key : TripleKey) (text : List ℕ)
    (forged : Bool) : Type 0 where
  pub session : HasSession opening before side key
  pub text_is : text ≡ message_text (flag_from (other side)) (etcs_number_of_side opening side) user
  pub read : IsReadFrom (other side) heard (Dt user (mac_of key text))
  pub sent : forged ≡ false → WasSent (other side) user key text before
  pub only : forged ≡ true → EitherSealed key text before → ⊥

-- ---- the claim

-- of a fact at a side, behind all that came before it; what is sealed is never marked
abbrev pub IsAuthentic : PairOpening → (before : List MarkedFact) → Side → Fact → (forged : Bool) → Type 0
IsAuthentic opening before side (Sent user key text) forged = (forged ≡ false) × IsSend opening before side user key text
IsAuthentic opening before side (Sealed key text) forged = (forged ≡ false) × IsSetUpSealing opening side key text
IsAuthentic opening before side (Verified heard key text) forged =
    IsVerifiedBeforeConnection opening side heard key text × IsMarkedRight before key text forged
IsAuthentic opening before side (Connected heard connection text) forged = IsConnection opening before side heard connection text forged
IsAuthentic opening before side (Accepted heard user key text) forged = IsAcceptedMessage opening before side heard user key text forged

-- this holds of each fact, at the moment when it came
abbrev pub Authentic : PairOpening → List SideFact → Type 0
Authentic opening facts =
    (before after : List MarkedFact) (f : MarkedFact) → marked facts ≡ before ++ f ∷ after → IsAuthentic opening before f.side f.fact f.forged
