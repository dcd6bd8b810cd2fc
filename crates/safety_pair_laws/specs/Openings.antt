-- The two sides of a safe connection as they begin (this profile): by fixed session keys, or by a set-up with the KMACs and the random
-- numbers of an engine and a radio block centre.
use Rattle.std.specs.Prelude.{ℕ, ◌==◌, ◌&&◌, ◌≡◌, Bool, if◌then◌else◌, Option, Some, None}
use Rattle.er_base.specs.declared.side.Side.{Side}
use Rattle.er_base.specs.declared.side.Side.TheVariants.{E, R}
use Rattle.des_block.specs.declared.triple_key.TripleKey.{TripleKey}
use Rattle.safety_automaton.specs.declared.role.Role.{Role}
use Rattle.safety_automaton.specs.declared.role.Role.TheVariants.{Initiator, Responder}
use Rattle.safety_automaton.specs.Safety.{Safety, initiator, responder, fixed, flag_of}

-- how a pair of sides begins
pub data PairOpening : Type 0 where
  -- an engine and a radio block centre that are connected under these session keys, the engine's first
  OfFixed : (engine rbc : ℕ) (ke kr : TripleKey) → PairOpening
  -- an engine that calls a radio block centre: the KMAC of each, if the radio block centre has one, and the random number of each, the
  -- radio block centre's first
  OfKeys : (engine rbc : ℕ) (ke : TripleKey) (kr : Option TripleKey) (ra rb : ℕ) → PairOpening

-- the engine is the initiator, the radio block centre the responder
abbrev pub role_of_side : Side → Role
role_of_side E = Initiator
role_of_side R = Responder

-- the direction flag of what a side sends
abbrev pub flag_from : Side → Bool
flag_from side = flag_of (role_of_side side)

-- the ETCS number of a side
abbrev pub etcs_number_of_side : PairOpening → Side → ℕ
etcs_number_of_side (OfFixed engine rbc ke kr) E = engine
etcs_number_of_side (OfFixed engine rbc ke kr) R = rbc
etcs_number_of_side (OfKeys engine rbc ke kr ra rb) E = engine
etcs_number_of_side (OfKeys engine rbc ke kr ra rb) R = rbc

-- the KMACs that can be found: at every moment the radio block centre's for this pair, and none for any other
abbrev pub key_for : PairOpening → (engine rbc : ℕ) → Option TripleKey
key_for (OfFixed own_engine own_rbc ke kr) engine rbc = None
key_for (OfKeys own_engine own_rbc ke kr ra rb) engine rbc = if (own_engine == engine) && (own_rbc == rbc) then kr else None

-- the two sides of a safe connection
pub record Pair : Type 0 where
  pub e : Safety
  pub r : Safety

abbrev pub safety_of : Pair → Side → Safety
safety_of pair E = pair.e
safety_of pair R = pair.r

abbrev pub with_safety : Pair → Side → Safety → Pair
with_safety pair E s = record pair { e = s }
with_safety pair R s = record pair { r = s }

-- the two before any event
abbrev pub pair_before_events : PairOpening → Pair
pair_before_events (OfFixed engine rbc ke kr) = record { e = fixed engine rbc Initiator ke; r = fixed rbc engine Responder kr }
pair_before_events (OfKeys engine rbc ke kr ra rb) = record { e = initiator engine rbc ke rb; r = responder rbc ra }

-- the two sides agree: on their session keys, or on their KMAC
abbrev pub Agrees : PairOpening → Type 0
Agrees (OfFixed engine rbc ke kr) = ke ≡ kr
Agrees (OfKeys engine rbc ke kr ra rb) = kr ≡ Some ke
