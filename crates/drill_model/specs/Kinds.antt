-- What a link is and had so far, told by the one list of what came at it: its kind, the messages that were sent and accepted, counts and
-- bounds (this profile).
use Rattle.std.specs.Prelude.{ℕ, ◌+◌, ◌≡◌, ◌≤◌, Bool, true, false, if◌then◌else◌, List, [], ◌∷◌, length, Some}
use Rattle.std.specs.List.{flat_map, list_any}
use Rattle.er_base.specs.declared.side.Side.{Side}
use Rattle.er_base.specs.declared.side.Side.TheVariants.{E, R}
use Rattle.er_base.specs.declared.release.Release.{Release}
use Rattle.er_settings.specs.Values.{Settings}
use Rattle.safety_pair_laws.specs.Facts.{is_side}
use Rattle.safety_pair_laws.specs.Openings.{Agrees}
use Rattle.safety_pair_laws.specs.Messages as pair
use Rattle.hdlc_station_model.specs.Lines.{station_bound}
use Rattle.er_end_model.specs.Bounds.{end_bound}
use Rattle.drill_model.specs.Outcomes.{DrillOutcome, OfSafety, Handed, Arrived, Up, Took, NothingToTake, Refused, Released, Frame, Expired, UserReleased}
use Rattle.drill_model.specs.Outcomes.{Passed, Lost, Repeated, Altered, Inserted, NothingWaits, IsShort, Occurrence}
use Rattle.drill_model.specs.Links.{LinkOpening, OfPair, OfStations, OfStacks, Link}

-- ---- messages

-- the octets of a send that was Ok
abbrev pub sent_in : DrillOutcome → List (List ℕ)
sent_in (OfSafety fact) = pair.sent_in fact
sent_in (Handed payload) = payload ∷ []
sent_in (Arrived payload) = []
sent_in Up = []
sent_in (Took message) = []
sent_in NothingToTake = []
sent_in (Refused refusal) = []
sent_in (Released release) = []
sent_in (Frame octets) = []
sent_in Expired = []
sent_in (UserReleased sub) = []
sent_in (Passed octets) = []
sent_in Lost = []
sent_in Repeated = []
sent_in Altered = []
sent_in Inserted = []
sent_in NothingWaits = []
sent_in (IsShort length) = []

-- the octets that were accepted
abbrev pub accepted_in : DrillOutcome → List (List ℕ)
accepted_in (OfSafety fact) = pair.accepted_in fact
accepted_in (Handed payload) = []
accepted_in (Arrived payload) = payload ∷ []
accepted_in Up = []
accepted_in (Took message) = []
accepted_in NothingToTake = []
accepted_in (Refused refusal) = []
accepted_in (Released release) = []
accepted_in (Frame octets) = []
accepted_in Expired = []
accepted_in (UserReleased sub) = []
accepted_in (Passed octets) = []
accepted_in Lost = []
accepted_in Repeated = []
accepted_in Altered = []
accepted_in Inserted = []
accepted_in NothingWaits = []
accepted_in (IsShort length) = []

-- `sent` and `accepted` of an end, in their order
abbrev pub sent_by : Side → List Occurrence → List (List ℕ)
sent_by side history = flat_map (λ o. if is_side side o.side then sent_in o.outcome else []) history

abbrev pub accepted_by : Side → List Occurrence → List (List ℕ)
accepted_by side history = flat_map (λ o. if is_side side o.side then accepted_in o.outcome else []) history

-- a message that the user took
abbrev pub took_in : DrillOutcome → List (List ℕ)
took_in (OfSafety fact) = []
took_in (Handed payload) = []
took_in (Arrived payload) = []
took_in Up = []
took_in (Took message) = message ∷ []
took_in NothingToTake = []
took_in (Refused refusal) = []
took_in (Released release) = []
took_in (Frame octets) = []
took_in Expired = []
took_in (UserReleased sub) = []
took_in (Passed octets) = []
took_in Lost = []
took_in Repeated = []
took_in Altered = []
took_in Inserted = []
took_in NothingWaits = []
took_in (IsShort length) = []

abbrev pub taken_by : Side → List Occurrence → List (List ℕ)
taken_by side history = flat_map (λ o. if is_side side o.side then took_in o.outcome else []) history

-- ---- releases

-- a release that was told, not what a user asked for
abbrev pub released_in : DrillOutcome → List Release
released_in (OfSafety fact) = []
released_in (Handed payload) = []
released_in (Arrived payload) = []
released_in Up = []
released_in (Took message) = []
released_in NothingToTake = []
released_in (Refused refusal) = []
released_in (Released release) = release ∷ []
released_in (Frame octets) = []
released_in Expired = []
released_in (UserReleased sub) = []
released_in (Passed octets) = []
released_in Lost = []
released_in Repeated = []
released_in Altered = []
released_in Inserted = []
released_in NothingWaits = []
released_in (IsShort length) = []

-- the releases of both ends, in their order
abbrev pub releases_in : List Occurrence → List Release
releases_in history = flat_map (λ o. released_in o.outcome) history

-- ---- passes

-- the octets of a delivery
abbrev pub passed_in : DrillOutcome → List (List ℕ)
passed_in (OfSafety fact) = []
passed_in (Handed payload) = []
passed_in (Arrived payload) = []
passed_in Up = []
passed_in (Took message) = []
passed_in NothingToTake = []
passed_in (Refused refusal) = []
passed_in (Released release) = []
passed_in (Frame octets) = []
passed_in Expired = []
passed_in (UserReleased sub) = []
passed_in (Passed octets) = octets ∷ []
passed_in Lost = []
passed_in Repeated = []
passed_in Altered = []
passed_in Inserted = []
passed_in NothingWaits = []
passed_in (IsShort length) = []

-- the number of deliveries
abbrev pub deliveries : List Occurrence → ℕ
deliveries history = length (flat_map (λ o. passed_in o.outcome) history)

-- ---- room

-- at most 4,096 frames wait in each direction
abbrev pub FramesHaveRoom : Link → Type 0
FramesHaveRoom l = (length l.from_e ≤ 4096) × (length l.from_r ≤ 4096)

-- ---- kinds of link

-- a frame was lost, repeated, altered or inserted, a user was told to release, or a tick found an expired timer
abbrev pub is_disturbance : DrillOutcome → Bool
is_disturbance (OfSafety fact) = false
is_disturbance (Handed payload) = false
is_disturbance (Arrived payload) = false
is_disturbance Up = false
is_disturbance (Took message) = false
is_disturbance NothingToTake = false
is_disturbance (Refused refusal) = false
is_disturbance (Released release) = false
is_disturbance (Frame octets) = false
is_disturbance Expired = true
is_disturbance (UserReleased sub) = true
is_disturbance (Passed octets) = false
is_disturbance Lost = true
is_disturbance Repeated = true
is_disturbance Altered = true
is_disturbance Inserted = true
is_disturbance NothingWaits = false
is_disturbance (IsShort length) = false

abbrev pub is_disturbed : List Occurrence → Bool
is_disturbed history = list_any (λ o. is_disturbance o.outcome) history

-- a frame was altered or inserted
abbrev pub is_disorder : DrillOutcome → Bool
is_disorder (OfSafety fact) = false
is_disorder (Handed payload) = false
is_disorder (Arrived payload) = false
is_disorder Up = false
is_disorder (Took message) = false
is_disorder NothingToTake = false
is_disorder (Refused refusal) = false
is_disorder (Released release) = false
is_disorder (Frame octets) = false
is_disorder Expired = false
is_disorder (UserReleased sub) = false
is_disorder (Passed octets) = false
is_disorder Lost = false
is_disorder Repeated = false
is_disorder Altered = true
is_disorder Inserted = true
is_disorder NothingWaits = false
is_disorder (IsShort length) = false

abbrev pub is_disordered : List Occurrence → Bool
is_disordered history = list_any (λ o. is_disorder o.outcome) history

-- the ends of a link number what they send: at every level but safe
abbrev pub IsNumbered : LinkOpening → Type 0
IsNumbered (OfPair opening) = ⊥
IsNumbered (OfStations selective) = Unit {0}
IsNumbered (OfStacks engine rbc ke kr ra rb) = Unit {0}

-- order-keeping so far: frames may be lost and repeated. An alter that changes no octet isn't told as one, and the link keeps its order:
-- where no frame waits, where the first one has no octet at that place, or where the mask is 0
pub record IsOrderKeeping (opening : LinkOpening) (history : List Occurrence) : Type 0 where
  pub numbered : IsNumbered opening
  pub ordered : is_disordered history ≡ false

-- the ends of a link agree; two stations always do, and two stacks where the radio block centre has the engine's KMAC
abbrev pub EndsAgree : LinkOpening → Type 0
EndsAgree (OfPair opening) = Agrees opening
EndsAgree (OfStations selective) = Unit {0}
EndsAgree (OfStacks engine rbc ke kr ra rb) = kr ≡ Some ke

-- loss-free so far
pub record IsLossFree (opening : LinkOpening) (history : List Occurrence) : Type 0 where
  pub undisturbed : is_disturbed history ≡ false
  pub agree : EndsAgree opening

-- ---- bounds

-- Bound: at level safe one delivery for each message that was sent, and four for a set-up; at levels link and link-sr two for each payload, its I frame and
-- the answer, and two for the set-up frame and its answer; at level full four for each segment of a message, a DT and an AK with the answer of
-- each, and fourteen for the set-up of the four layers
abbrev pub bound : Settings → LinkOpening → List Occurrence → ℕ
bound settings (OfPair opening) history = pair.set_up_sapdus opening + (length (sent_by E history) + length (sent_by R history))
bound settings (OfStations selective) history = station_bound (length (sent_by E history)) (length (sent_by R history))
bound settings (OfStacks engine rbc ke kr ra rb) history = end_bound settings (sent_by E history) (sent_by R history)
