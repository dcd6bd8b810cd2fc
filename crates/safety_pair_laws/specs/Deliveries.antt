-- Delivery between two sides (this profile): where each SaPDU comes to the other side once, unchanged and in order, nothing is forged, and
-- all that one side sends the other accepts, in order.
use Rattle.std.specs.Prelude.{ℕ, ◌+◌, ◌≡◌, ◌≤◌, ◌<◌, ◌^◌, false, if◌then◌else◌, List, [], ◌∷◌, ◌++◌, length, map}
use Rattle.std.specs.List.{flat_map, list_any}
use Rattle.er_base.specs.declared.side.Side.{Side}
use Rattle.er_base.specs.declared.side.Side.TheVariants.{E, R}
use Rattle.er_base.specs.Sides.{other}
use Rattle.er_base.specs.Octets.{AreOctets}
use Rattle.safety_automaton.specs.Safety.{Safety, SafetyEvent, ConnectRequest, Received, DataRequest, SafetyOutcome, SentAu1, SentAu2, SentAu3, SentAr}
use Rattle.safety_automaton.specs.Safety.{ReceivedAr, AcceptedDt, SentDt, Refused, ReleasedLocally, ReleasedByPeer, NothingDone}
use Rattle.safety_pair_laws.specs.Facts.{SideFact, at_side, facts_of, is_side, marked}
use Rattle.safety_pair_laws.specs.Openings.{PairOpening, OfFixed, OfKeys, Pair, with_safety, pair_before_events, Agrees}
use Rattle.safety_pair_laws.specs.Messages.{sent_in, accepted_in, set_up_sapdus, IsConnectedPhase}
use Rattle.safety_pair_laws.specs.Talks.{answer}

-- ---- messages

-- `sent` and `accepted` of a side, in their order
abbrev pub sent_of : Side → List SideFact → List (List ℕ)
sent_of side facts = flat_map (λ f. if is_side side f.side then sent_in f.fact else []) facts

abbrev pub accepted_of : Side → List SideFact → List (List ℕ)
accepted_of side facts = flat_map (λ f. if is_side side f.side then accepted_in f.fact else []) facts

-- ---- deliveries

-- the SaPDUs of an outcome
abbrev pub sapdus_of : SafetyOutcome → List (List ℕ)
sapdus_of (SentAu1 octets) = octets ∷ []
sapdus_of (SentAu2 session sealed octets) = octets ∷ []
sapdus_of (SentAu3 session verified sealed octets) = octets ∷ []
sapdus_of (SentAr connection verified sealed octets) = octets ∷ []
sapdus_of (ReceivedAr connection verified) = []
sapdus_of (AcceptedDt session user verified) = []
sapdus_of (SentDt session user sealed octets) = octets ∷ []
sapdus_of (Refused refusal) = []
sapdus_of (ReleasedLocally release octets) = octets ∷ []
sapdus_of (ReleasedByPeer release) = []
sapdus_of NothingDone = []

-- what came of two sides so far, the two, the SaPDUs of each that are under way, and the number of deliveries
pub record Flow : Type 0 where
  pub facts : List SideFact
  pub pair : Pair
  pub from_e : List (List ℕ)
  pub from_r : List (List ℕ)
  pub deliveries : ℕ

-- the SaPDUs of a side that are under way
abbrev pub under_way : Flow → Side → List (List ℕ)
under_way f E = f.from_e
under_way f R = f.from_r

abbrev pub with_under_way : Flow → Side → List (List ℕ) → Flow
with_under_way f E sapdus = record f { from_e = sapdus }
with_under_way f R sapdus = record f { from_r = sapdus }

-- a side did this with an event
abbrev pub flow_with_answer : Flow → Side → SafetyEvent → Safety × SafetyOutcome → Flow
flow_with_answer f side event a = with_under_way
    (record f { facts = f.facts ++ map (at_side side) (facts_of event a.1); pair = with_safety f.pair side a.0 })
    side (under_way f side ++ sapdus_of a.1)

-- a side is given an event
abbrev pub flow_behind_event : PairOpening → Flow → Side → SafetyEvent → Flow
flow_behind_event opening f side event = flow_with_answer f side event (answer opening f.pair side event)

-- the first SaPDU of a side comes to the other, and the rest stay under way
abbrev pub delivered : PairOpening → Flow → Side → (octets : List ℕ) → (rest : List (List ℕ)) → Flow
delivered opening f side octets rest =
    flow_behind_event opening (record (with_under_way f side rest) { deliveries = f.deliveries + 1 }) (other side) (Received octets)

abbrev pub untouched : PairOpening → Flow
untouched opening = record { facts = []; pair = pair_before_events opening; from_e = []; from_r = []; deliveries = 0 }

-- the two as they begin; an engine that calls begins at once
abbrev pub begun_flow : PairOpening → Flow
begun_flow (OfFixed engine rbc ke kr) = untouched (OfFixed engine rbc ke kr)
begun_flow (OfKeys engine rbc ke kr ra rb) =
    flow_behind_event (OfKeys engine rbc ke kr ra rb) (untouched (OfKeys engine rbc ke kr ra rb)) E ConnectRequest

-- sends and deliveries, and nothing else
pub data Flows (opening : PairOpening) : Flow → Type 0 where
  Begins : Flows opening (begun_flow opening)
  Sends : (f : Flow) (side : Side) (user : List ℕ) → AreOctets user → Flows opening f → Flows opening (flow_behind_event opening f side (DataRequest user))
  Delivers : (f : Flow) (side : Side) (octets : List ℕ) (rest : List (List ℕ)) → under_way f side ≡ octets ∷ rest → Flows opening f
      → Flows opening (delivered opening f side octets rest)

-- ---- the claim

-- ETCS numbers are below 2^24, and random numbers have 64 bits
abbrev pub FitsOpening : PairOpening → Type 0
FitsOpening (OfFixed engine rbc ke kr) = (engine < 2 ^ 24) × (rbc < 2 ^ 24)
FitsOpening (OfKeys engine rbc ke kr ra rb) = (engine < 2 ^ 24) × (rbc < 2 ^ 24) × (ra < 2 ^ 64) × (rb < 2 ^ 64)

-- both sides are connected, and each accepted all that the other sent, in order
pub record IsFlowComplete (f : Flow) : Type 0 where
  pub e_connected : IsConnectedPhase f.pair.e.phase
  pub r_connected : IsConnectedPhase f.pair.r.phase
  pub at_r : accepted_of R f.facts ≡ sent_of E f.facts
  pub at_e : accepted_of E f.facts ≡ sent_of R f.facts

-- nothing is forged; there are no more deliveries than messages that were sent and SaPDUs of a set-up; where nothing is under way, all is
-- complete; and a delivery makes no more SaPDUs wait in the other direction than wait already, or one
pub record HasFlowed (opening : PairOpening) (f : Flow) : Type 0 where
  pub unforged : list_any (λ m. m.forged) (marked f.facts) ≡ false
  pub bounded : f.deliveries ≤ set_up_sapdus opening + (length (sent_of E f.facts) + length (sent_of R f.facts))
  pub complete : f.from_e ≡ [] → f.from_r ≡ [] → IsFlowComplete f
  pub room : (side : Side) (octets : List ℕ) (rest : List (List ℕ)) (most : ℕ) → under_way f side ≡ octets ∷ rest → 1 ≤ most
      → length (under_way f (other side)) ≤ most → length (under_way (delivered opening f side octets rest) (other side)) ≤ most

-- of two sides that agree
abbrev pub FlowsDeliver : Type 0
FlowsDeliver = (opening : PairOpening) → FitsOpening opening → Agrees opening → (f : Flow) → Flows opening f → HasFlowed opening f
