-- What a side of a safe connection did with session keys: the facts on which authenticity is judged, and by which a verified text is
-- marked as forged (UNISIG SUBSET-037: peer entity authentication, message origin authentication; the mark is this profile's).
use Rattle.std.specs.Prelude.{ℕ, ◌==◌, ◌&&◌, ◌||◌, not, Bool, true, false, List, [], ◌∷◌, ◌++◌}
use Rattle.std.specs.List.{list_any, flat_map}
use Rattle.std.specs.Str.{bytes_eq}
use Rattle.er_base.specs.declared.side.Side.{Side}
use Rattle.er_base.specs.declared.side.Side.TheVariants.{E, R}
use Rattle.des_block.specs.declared.triple_key.TripleKey.{TripleKey}
use Rattle.safety_automaton.specs.Safety.{Connection, SafetyEvent, ConnectRequest, Received, DataRequest, DisconnectRequest, SafetyOutcome, SentAu1, SentAu2}
use Rattle.safety_automaton.specs.Safety.{SentAu3, SentAr, ReceivedAr, AcceptedDt, SentDt, Refused, ReleasedLocally, ReleasedByPeer, NothingDone}

-- a fact; `heard` is an SaPDU that the side received, and `text` the text that was sealed for sending or whose MAC verified
pub data Fact : Type 0 where
  -- a send that was Ok: its user octets, sealed under these session keys
  Sent : (user : List ℕ) (key : TripleKey) (text : List ℕ) → Fact
  -- a text of the set-up was sealed
  Sealed : (key : TripleKey) (text : List ℕ) → Fact
  -- a text of the set-up was verified, and the side isn't connected yet
  Verified : (heard : List ℕ) (key : TripleKey) (text : List ℕ) → Fact
  -- a text of the set-up was verified, and by it the side is connected
  Connected : (heard : List ℕ) (connection : Connection) (text : List ℕ) → Fact
  -- a message was accepted: its user octets
  Accepted : (heard user : List ℕ) (key : TripleKey) (text : List ℕ) → Fact

-- what a side received by an event
abbrev pub heard_in : SafetyEvent → List ℕ
heard_in ConnectRequest = []
heard_in (Received octets) = octets
heard_in (DataRequest user) = []
heard_in (DisconnectRequest sub) = []

-- the facts of an outcome of a side that received these octets
abbrev pub facts_by : (heard : List ℕ) → SafetyOutcome → List Fact
facts_by heard (SentAu1 octets) = []
facts_by heard (SentAu2 session sealed octets) = Sealed session sealed ∷ []
facts_by heard (SentAu3 session verified sealed octets) = Verified heard session verified ∷ Sealed session sealed ∷ []
facts_by heard (SentAr connection verified sealed octets) =
    Connected heard connection verified ∷ Sealed connection.session sealed ∷ []
facts_by heard (ReceivedAr connection verified) = Connected heard connection verified ∷ []
facts_by heard (AcceptedDt session user verified) = Accepted heard user session verified ∷ []
facts_by heard (SentDt session user sealed octets) = Sent user session sealed ∷ []
facts_by heard (Refused refusal) = []
facts_by heard (ReleasedLocally release octets) = []
facts_by heard (ReleasedByPeer release) = []
facts_by heard NothingDone = []

-- the facts of an event and its outcome
abbrev pub facts_of : SafetyEvent → SafetyOutcome → List Fact
facts_of event outcome = facts_by (heard_in event) outcome

-- a fact at a side
pub record SideFact : Type 0 where
  pub side : Side
  pub fact : Fact

abbrev pub at_side : Side → Fact → SideFact
at_side side fact = record { side = side; fact = fact }

-- the same with its mark: whether what it verified is forged
pub record MarkedFact : Type 0 where
  pub side : Side
  pub fact : Fact
  pub forged : Bool

-- a text and the session keys under which it was sealed
pub record Sealing : Type 0 where
  pub key : TripleKey
  pub text : List ℕ

abbrev pub sealings_of : Fact → List Sealing
sealings_of (Sent user key text) = record { key = key; text = text } ∷ []
sealings_of (Sealed key text) = record { key = key; text = text } ∷ []
sealings_of (Verified heard key text) = []
sealings_of (Connected heard connection text) = []
sealings_of (Accepted heard user key text) = []

-- `sealed` of both ends: what they had sealed
abbrev pub sealings : List MarkedFact → List Sealing
sealings facts = flat_map (λ f. sealings_of f.fact) facts

-- session keys are compared as three numbers of 64 bits
abbrev pub is_key : TripleKey → TripleKey → Bool
is_key a b = (a.first == b.first) && (a.second == b.second) && (a.third == b.third)

-- whether a sealing is that of this text under these session keys
abbrev pub is_sealing : TripleKey → List ℕ → Sealing → Bool
is_sealing key text sealing = is_key sealing.key key && bytes_eq sealing.text text

-- whether either end sealed this text under these session keys
abbrev pub was_sealed : TripleKey → List ℕ → List MarkedFact → Bool
was_sealed key text facts = list_any (is_sealing key text) (sealings facts)

abbrev pub is_side : Side → Side → Bool
is_side E E = true
is_side E R = false
is_side R E = false
is_side R R = true

-- whether a fact is a text of the set-up that was verified before the connection, and is forged
abbrev pub is_mistrust_of : Fact → (forged : Bool) → Bool
is_mistrust_of (Sent user key text) forged = false
is_mistrust_of (Sealed key text) forged = false
is_mistrust_of (Verified heard key text) forged = forged
is_mistrust_of (Connected heard connection text) forged = false
is_mistrust_of (Accepted heard user key text) forged = false

abbrev pub is_mistrust : Side → MarkedFact → Bool
is_mistrust side f = is_side side f.side && is_mistrust_of f.fact f.forged

-- whether a text that was verified in the set-up of this end is forged
abbrev pub mistrusts : Side → List MarkedFact → Bool
mistrusts side facts = list_any (is_mistrust side) facts

-- what was verified is forged where neither end had sealed that text under those session keys; a connection also where a text that was
-- verified earlier in the end's set-up is
abbrev pub is_forged : (before : List MarkedFact) → Side → Fact → Bool
is_forged before side (Sent user key text) = false
is_forged before side (Sealed key text) = false
is_forged before side (Verified heard key text) = not (was_sealed key text before)
is_forged before side (Connected heard connection text) = not (was_sealed connection.session text before) || mistrusts side before
is_forged before side (Accepted heard user key text) = not (was_sealed key text before)

-- a fact with its mark, behind all that came before
abbrev pub mark : (before : List MarkedFact) → SideFact → MarkedFact
mark before f = record { side = f.side; fact = f.fact; forged = is_forged before f.side f.fact }

-- fact by fact, each behind all that came before it
abbrev pub marked_from : (before : List MarkedFact) → List SideFact → List MarkedFact
marked_from before [] = []
marked_from before (f ∷ facts) = mark before f ∷ marked_from (before ++ mark before f ∷ []) facts

abbrev pub marked : List SideFact → List MarkedFact
marked facts = marked_from [] facts
