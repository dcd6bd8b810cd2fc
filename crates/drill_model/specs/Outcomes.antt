-- What comes of an event at an end of a link, or of a step at what it sent: of these outcomes a run is one list, which is printed and
-- which is judged (this profile).
use Rattle.std.specs.Prelude.{ℕ, List, [], ◌∷◌}
use Rattle.std.specs.List.{flat_map}
use Rattle.er_base.specs.declared.release.Release.{Release}
use Rattle.er_base.specs.declared.side.Side.{Side}
use Rattle.er_end_model.specs.Outcomes.{SendRefusal}
use Rattle.safety_pair_laws.specs.Facts.{Fact, SideFact, at_side}

pub data DrillOutcome : Type 0 where
  -- a fact of the safety layer: a send that was Ok, a sealed or verified text, a connection, an accepted message
  OfSafety : (fact : Fact) → DrillOutcome
  -- levels link and link-sr: a send that was Ok
  Handed : (payload : List ℕ) → DrillOutcome
  -- levels link and link-sr: a payload was accepted
  Arrived : (payload : List ℕ) → DrillOutcome
  -- levels link and link-sr: the station went up
  Up : DrillOutcome
  -- a message was taken; none was there
  Took : (message : List ℕ) → DrillOutcome
  NothingToTake : DrillOutcome
  -- a send was refused
  Refused : (refusal : SendRefusal) → DrillOutcome
  -- a release, by this end or by its peer
  Released : (release : Release) → DrillOutcome
  -- a frame for the peer
  Frame : (octets : List ℕ) → DrillOutcome
  -- a tick found an expired timer
  Expired : DrillOutcome
  -- the user of this end was told to release, with this sub-reason
  UserReleased : (sub : ℕ) → DrillOutcome
  -- the first waiting frame of this end was given to the other
  Passed : (octets : List ℕ) → DrillOutcome
  -- it was removed; a copy was put behind it; it was changed; octets were put before it
  Lost : DrillOutcome
  Repeated : DrillOutcome
  Altered : DrillOutcome
  Inserted : DrillOutcome
  -- no frame of this end waits for the step
  NothingWaits : DrillOutcome
  -- the first waiting frame of this end has so many octets, too few for the step
  IsShort : (length : ℕ) → DrillOutcome

-- an outcome at an end, or at what it sent
pub record Occurrence : Type 0 where
  pub side : Side
  pub outcome : DrillOutcome

abbrev pub at_end : Side → DrillOutcome → Occurrence
at_end side outcome = record { side = side; outcome = outcome }

-- the facts of the safety layer among outcomes
abbrev pub facts_at : Side → DrillOutcome → List SideFact
facts_at side (OfSafety fact) = at_side side fact ∷ []
facts_at side (Handed payload) = []
facts_at side (Arrived payload) = []
facts_at side Up = []
facts_at side (Took message) = []
facts_at side NothingToTake = []
facts_at side (Refused refusal) = []
facts_at side (Released release) = []
facts_at side (Frame octets) = []
facts_at side Expired = []
facts_at side (UserReleased sub) = []
facts_at side (Passed octets) = []
facts_at side Lost = []
facts_at side Repeated = []
facts_at side Altered = []
facts_at side Inserted = []
facts_at side NothingWaits = []
facts_at side (IsShort length) = []

abbrev pub facts_in : List Occurrence → List SideFact
facts_in history = flat_map (λ o. facts_at o.side o.outcome) history

-- the frames among outcomes
abbrev pub frames_of_outcome : DrillOutcome → List (List ℕ)
frames_of_outcome (OfSafety fact) = []
frames_of_outcome (Handed payload) = []
frames_of_outcome (Arrived payload) = []
frames_of_outcome Up = []
frames_of_outcome (Took message) = []
frames_of_outcome NothingToTake = []
frames_of_outcome (Refused refusal) = []
frames_of_outcome (Released release) = []
frames_of_outcome (Frame octets) = octets ∷ []
frames_of_outcome Expired = []
frames_of_outcome (UserReleased sub) = []
frames_of_outcome (Passed octets) = []
frames_of_outcome Lost = []
frames_of_outcome Repeated = []
frames_of_outcome Altered = []
frames_of_outcome Inserted = []
frames_of_outcome NothingWaits = []
frames_of_outcome (IsShort length) = []

abbrev pub frames_in : List DrillOutcome → List (List ℕ)
frames_in outcomes = flat_map frames_of_outcome outcomes
