-- How far the safety sides of two ends are, where the keys agree and the line is loss-free (UNISIG SUBSET-037: peer entity authentication):
-- both know the same connection as soon as they know one, and none is ahead of what the other has sealed.
use Rattle.std.specs.Prelude.{ℕ, ◌≡◌, true, is_some}
use Rattle.des_block.specs.declared.triple_key.TripleKey.{TripleKey}
use Rattle.session_keys.specs.Session.{session_of}
use Rattle.safety_automaton.specs.declared.role.Role.TheVariants.{Initiator, Responder}
use Rattle.safety_automaton.specs.Safety.{Safety, Connection, Phase, Ready, WaitAu1, WaitAu2, WaitAu3, WaitAr, Connected, Released, session_in}
use Rattle.er_end_model.specs.Steps.{is_connected}

-- what a side with this number knows of itself and its peer: the session keys are those of the KMAC with both random numbers
abbrev pub connection_of : (me peer : ℕ) → (kmac : TripleKey) → (ra rb : ℕ) → Connection
connection_of me peer kmac ra rb = record { me = me; peer = peer; ra = ra; rb = rb; session = session_of kmac ra rb }

-- the engine's side is about to begin, waits for AU2, waits for AR, or is connected
abbrev pub IsEnginesPhase : (engine rbc : ℕ) → (kmac : TripleKey) → (ra rb : ℕ) → Phase → Type 0
IsEnginesPhase engine rbc kmac ra rb (Ready peer own own_rb) = Unit {0}
IsEnginesPhase engine rbc kmac ra rb (WaitAu1 own_ra) = ⊥
IsEnginesPhase engine rbc kmac ra rb (WaitAu2 peer own own_rb) = Unit {0}
IsEnginesPhase engine rbc kmac ra rb (WaitAu3 connection) = ⊥
IsEnginesPhase engine rbc kmac ra rb (WaitAr connection) = connection ≡ connection_of engine rbc kmac ra rb
IsEnginesPhase engine rbc kmac ra rb (Connected peer session) = (peer ≡ rbc) × (session ≡ session_of kmac ra rb)
IsEnginesPhase engine rbc kmac ra rb (Released release session) = ⊥

-- the radio block centre's side waits for AU1, waits for AU3, or is connected
abbrev pub IsCentres : (engine rbc : ℕ) → (kmac : TripleKey) → (ra rb : ℕ) → Phase → Type 0
IsCentres engine rbc kmac ra rb (Ready peer own own_rb) = ⊥
IsCentres engine rbc kmac ra rb (WaitAu1 own_ra) = Unit {0}
IsCentres engine rbc kmac ra rb (WaitAu2 peer own own_rb) = ⊥
IsCentres engine rbc kmac ra rb (WaitAu3 connection) = connection ≡ connection_of rbc engine kmac ra rb
IsCentres engine rbc kmac ra rb (WaitAr connection) = ⊥
IsCentres engine rbc kmac ra rb (Connected peer session) = (peer ≡ engine) × (session ≡ session_of kmac ra rb)
IsCentres engine rbc kmac ra rb (Released release session) = ⊥

-- two safety sides of these numbers, KMAC and random numbers are in step
pub record AreInStep (engine rbc : ℕ) (kmac : TripleKey) (ra rb : ℕ) (e r : Safety) : Type 0 where
  pub e_me : e.me ≡ engine
  pub e_role : e.role ≡ Initiator
  pub e_is : IsEnginesPhase engine rbc kmac ra rb e.phase
  pub r_me : r.me ≡ rbc
  pub r_role : r.role ≡ Responder
  pub r_is : IsCentres engine rbc kmac ra rb r.phase
  -- the engine's side knows session keys only where the other, which sent AU2, knows them
  pub au2 : is_some (session_in e.phase) ≡ true → is_some (session_in r.phase) ≡ true
  -- the radio block centre's side is connected only where the other knows session keys: it sent AU3
  pub au3 : is_connected r.phase ≡ true → is_some (session_in e.phase) ≡ true
  -- the engine's side is connected only where the other is: it sent AR
  pub ar : is_connected e.phase ≡ true → is_connected r.phase ≡ true
