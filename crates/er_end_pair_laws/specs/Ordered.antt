-- Lemmas: how far two ends are where the keys agree and the line keeps its order, while it may lose and repeat; an end may be released.
-- (UNISIG SUBSET-037: peer entity authentication; ITU-T X.224.)
use Rattle.std.specs.Prelude.{ℕ, ◌≡◌, Bool, true, false, List, [], ◌∷◌, None, is_some}
use Rattle.des_block.specs.declared.triple_key.TripleKey.{TripleKey}
use Rattle.safety_automaton.specs.declared.role.Role.TheVariants.{Initiator, Responder}
use Rattle.safety_automaton.specs.Safety.{Safety, session_in}
use Rattle.x224_class2.specs.Segments.{messages_in}
use Rattle.x224_class2.specs.Tpdus.{GivenTpdu, Cr, Cc, Dt, Ak, Dr, Dc}
use Rattle.er_end_model.specs.Layers.{Core}
use Rattle.er_end_model.specs.Steps.{is_connected}
use Rattle.pair_model.specs.Steps.{PairStep}
use Rattle.er_end_pair_laws.specs.Openings.{EndLinkOpening, Agree}
use Rattle.er_end_pair_laws.specs.Phases.{IsEnginesPhase, IsCentres}
use Rattle.er_end_pair_laws.specs.Steps.{AllFit}
use Rattle.er_end_pair_laws.specs.Laws.{end_link_after}

-- the first TPDU that was given is a CC
abbrev pub is_cc : GivenTpdu → Bool
is_cc (Cr credit size user) = false
is_cc (Cc credit size user) = true
is_cc (Dt last n user) = false
is_cc (Ak credit n) = false
is_cc (Dr reason user) = false
is_cc Dc = false

abbrev pub begins_with_cc : List GivenTpdu → Bool
begins_with_cc [] = false
begins_with_cc (tpdu ∷ later) = is_cc tpdu

-- an end answered a CR
abbrev pub HasConfirmed : Core → Type 0
HasConfirmed x = begins_with_cc x.upper.transport.gave ≡ true

-- an end handed a message to its transport
abbrev pub HasSaid : Core → Type 0
HasSaid x = messages_in x.upper.transport.segments ≡ [] → ⊥

abbrev pub Knows : Core → Type 0
Knows x = is_some (session_in x.safe.safety.phase) ≡ true

abbrev pub IsJoined : Core → Type 0
IsJoined x = is_connected x.safe.safety.phase ≡ true

-- a side of the engine, and one of the radio block centre
pub record IsEngine (engine rbc : ℕ) (kmac : TripleKey) (ra rb : ℕ) (s : Safety) : Type 0 where
  pub me : s.me ≡ engine
  pub role : s.role ≡ Initiator
  pub is : IsEnginesPhase engine rbc kmac ra rb s.phase

pub record IsCentre (engine rbc : ℕ) (kmac : TripleKey) (ra rb : ℕ) (s : Safety) : Type 0 where
  pub me : s.me ≡ rbc
  pub role : s.role ≡ Responder
  pub is : IsCentres engine rbc kmac ra rb s.phase

pub record AreOrdered (engine rbc : ℕ) (kmac : TripleKey) (ra rb : ℕ) (e r : Core) : Type 0 where
  -- a live end is in a phase of these numbers, and what it gave and said tells the phase
  pub is_engine : e.released ≡ None → IsEngine engine rbc kmac ra rb e.safe.safety
  pub is_centre : r.released ≡ None → IsCentre engine rbc kmac ra rb r.safe.safety
  pub e_said : e.released ≡ None → HasSaid e → Knows e
  pub r_gave : r.released ≡ None → HasConfirmed r → Knows r
  pub r_said : r.released ≡ None → HasSaid r → IsJoined r
  -- a live end's phase tells what the other gave and said
  pub au2 : e.released ≡ None → Knows e → HasConfirmed r
  pub au3 : r.released ≡ None → IsJoined r → HasSaid e
  pub ar : e.released ≡ None → IsJoined e → HasSaid r

abbrev pub InStepWhileOrdered : Type 0
InStepWhileOrdered =
    (s : EndLinkOpening) (steps : List PairStep) → AllFit steps → Agree s → (end_link_after s steps).order_kept ≡ true
    → AreOrdered s.engine s.rbc s.kmac s.ra s.rb (end_link_after s steps).e.core (end_link_after s steps).r.core
