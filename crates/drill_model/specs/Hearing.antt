-- What a side of a safe connection heard is what the line brought it: at level safe the SaPDU that was passed to it last, at level full a
-- text that the layers below made of that; and a payload that a station accepted is the information of an I frame that the line brought
-- (UNISIG SUBSET-037; ITU-T X.224; ITU-T T.70; ISO/IEC 13239; this profile).
use Rattle.std.specs.Prelude.{ℕ, ◌≡◌, ◌==◌, Bool, true, false, List, [], ◌∷◌, ◌++◌, if◌then◌else◌, Option, Some, None}
use Rattle.std.specs.List.{flat_map, AllByRecursion}
use Rattle.er_base.specs.declared.side.Side.{Side}
use Rattle.er_base.specs.declared.side.Side.TheVariants.{E}
use Rattle.er_base.specs.Sides.{other}
use Rattle.des_block.specs.declared.triple_key.TripleKey.{TripleKey}
use Rattle.er_settings.specs.Values.{Settings}
use Rattle.er_scenario.specs.declared.step.Step.{Step}
use Rattle.hdlc_frames.specs.declared.controls.Control.TheVariants as control
use Rattle.hdlc_frames.specs.ControlOctets.{control_of}
use Rattle.hdlc_frames.specs.Framing.{Verdict}
use Rattle.hdlc_frames.specs.Framing as framing
use Rattle.hdlc_station_model.specs.Frames.{modulo, address_of}
use Rattle.safety_pair_laws.specs.Facts.{Fact, Sent, Sealed, Verified, Connected, Accepted, is_side}
use Rattle.er_end_model.specs.Layers.{model}
use Rattle.er_end_model.specs.Steps.{new_event_at}
use Rattle.er_end_model.specs.Ends.{End as Stack, hears_each}
use Rattle.hdlc_station_model.specs.Events as station_events
use Rattle.er_end_model.specs.Hearing.{IsTextOf}
use Rattle.drill_model.specs.Outcomes.{DrillOutcome, OfSafety, Handed, Arrived, Up, Took, NothingToTake, Refused, Released, Frame, Expired, UserReleased}
use Rattle.drill_model.specs.Outcomes.{Passed, Lost, Repeated, Altered, Inserted, NothingWaits, IsShort, Occurrence, at_end}
use Rattle.drill_model.specs.Ends.{EndAtLevel, OfSafe, OfStation, OfStack}
use Rattle.drill_model.specs.Links.{Link, OfStations, end_of, key_on, LinkStep, life}
use Rattle.drill_model.specs.Worlds.{DrillPlan, link_at, history_on, world_run}
use Rattle.drill_model.specs.Kinds.{passed_in, deliveries}

-- the octets that a fact says its side heard
abbrev pub heard_by : Fact → Option (List ℕ)
heard_by (Sent user key text) = None
heard_by (Sealed key text) = None
heard_by (Verified heard key text) = Some heard
heard_by (Connected heard connection text) = Some heard
heard_by (Accepted heard user key text) = Some heard

-- all octets that were passed of what a side sent: an occurrence `Passed` stands at the side that sent the octets, and the other side
-- hears them
abbrev pub passed_of : Side → List Occurrence → List ℕ
passed_of side history = flat_map (λ o. if is_side side o.side then flat_map (λ octets. octets) (passed_in o.outcome) else []) history

-- a stack makes a text of the octets that are passed to it: of one of the frames that they close behind all that was passed to it before
pub record MakesTextOfOctets (keys : (engine rbc : ℕ) → Option TripleKey) (moment : ℕ) (m : Stack) (earlier octets text : List ℕ) : Type 0 where
  pub stream : m.stream ≡ earlier
  pub first : List Verdict
  pub verdict : Verdict
  pub later : List Verdict
  pub frames : station_events.news earlier octets ≡ first ++ verdict ∷ later
  pub made : IsTextOf (hears_each (λ now. keys) moment first (new_event_at model moment m.core)) moment verdict text

-- what an end hears of the octets that are passed to it; a station has no safety layer
abbrev pub IsHeard : (keys : (engine rbc : ℕ) → Option TripleKey) (moment : ℕ) → EndAtLevel → (earlier octets heard : List ℕ) → Type 0
IsHeard keys moment (OfSafe side) earlier octets heard = heard ≡ octets
IsHeard keys moment (OfStation selective station stream) earlier octets heard = ⊥
IsHeard keys moment (OfStack m) earlier octets heard = MakesTextOfOctets keys moment m earlier octets heard

-- what was heard at a side of a link behind this history is what the newest pass brought it from the other side: the link's own steps up
-- to that pass, its octets, and what came behind it, in which there is no pass. The steps are some steps of a link, and not those of the
-- file: a drain of the file is several passes, and the pass that is meant may stand in its midst. Whichever they are, they lead to this
-- link and this history
pub record WasBrought (settings : Settings) (l : Link) (before : List Occurrence) (side : Side) (heard : List ℕ) : Type 0 where
  pub steps : List LinkStep
  pub octets : List ℕ
  pub later : List Occurrence
  pub is : before ≡ (life settings l.opened_at l.opening steps).1 ++ at_end (other side) (Passed octets) ∷ later
  pub newest : deliveries later ≡ 0
  pub hears : IsHeard (key_on l.opening) (life settings l.opened_at l.opening steps).0.moment
      (end_of (life settings l.opened_at l.opening steps).0 side)
      (passed_of (other side) (life settings l.opened_at l.opening steps).1) octets heard

-- each fact of a link that speaks of octets which its side heard speaks of such
abbrev pub HeardIsBrought : DrillPlan → List Step → Type 0
HeardIsBrought plan steps =
    (n : ℕ) (l : Link) → link_at (world_run plan steps).0 n ≡ Some l
    → (before after : List Occurrence) (side : Side) (fact : Fact) (heard : List ℕ)
    → history_on n (world_run plan steps).1 ≡ before ++ at_end side (OfSafety fact) ∷ after
    → heard_by fact ≡ Some heard → WasBrought plan.settings l before side heard

-- ---- levels link and link-sr

-- what a deframer found is a frame whose check sequence is right, with the address of the calling station or of the called one, the control
-- of an I frame, and this information
pub record IsInformationOf (calling extended : Bool) (verdict : Verdict) (payload : List ℕ) : Type 0 where
  pub body : List ℕ
  pub ns : ℕ
  pub nr : ℕ
  pub frame : verdict ≡ framing.Frame (address_of calling) body
  pub read : control_of (modulo extended) body ≡ Some (control.Info ns nr, payload)

-- octets that are passed to a side behind this history close such a frame, addressed to its station
pub record ClosesPayload (settings : Settings) (side : Side) (earlier : List Occurrence) (octets payload : List ℕ) : Type 0 where
  pub first : List Verdict
  pub verdict : Verdict
  pub later : List Verdict
  pub frames : station_events.news (passed_of (other side) earlier) octets ≡ first ++ verdict ∷ later
  pub info : IsInformationOf (is_side side E) (settings.modulo == 128) verdict payload

-- one of the passes of a history did
pub record CameInPass (settings : Settings) (side : Side) (history : List Occurrence) (payload : List ℕ) : Type 0 where
  pub earlier : List Occurrence
  pub octets : List ℕ
  pub later : List Occurrence
  pub is : history ≡ earlier ++ at_end (other side) (Passed octets) ∷ later
  pub closes : ClosesPayload settings side earlier octets payload

-- what a station tells of the frames that came
abbrev pub IsToldOfFrames : DrillOutcome → Type 0
IsToldOfFrames (OfSafety fact) = ⊥
IsToldOfFrames (Handed payload) = ⊥
IsToldOfFrames (Arrived payload) = Unit {0}
IsToldOfFrames Up = Unit {0}
IsToldOfFrames (Took message) = ⊥
IsToldOfFrames NothingToTake = ⊥
IsToldOfFrames (Refused refusal) = ⊥
IsToldOfFrames (Released release) = Unit {0}
IsToldOfFrames (Frame octets) = Unit {0}
IsToldOfFrames Expired = ⊥
IsToldOfFrames (UserReleased sub) = ⊥
IsToldOfFrames (Passed octets) = ⊥
IsToldOfFrames Lost = ⊥
IsToldOfFrames Repeated = ⊥
IsToldOfFrames Altered = ⊥
IsToldOfFrames Inserted = ⊥
IsToldOfFrames NothingWaits = ⊥
IsToldOfFrames (IsShort length) = ⊥

-- with go-back the octets of this pass close the frame; with selective reject it may have come in an earlier pass, and was held
abbrev pub PayloadIsOfPass : (selective : Bool) → Settings → Side → (earlier : List Occurrence) → (octets payload : List ℕ) → Type 0
PayloadIsOfPass false settings side earlier octets payload = ClosesPayload settings side earlier octets payload
PayloadIsOfPass true settings side earlier octets payload = CameInPass settings side (earlier ++ at_end (other side) (Passed octets) ∷ []) payload

-- what was accepted at a station behind this history is of the newest pass to it, behind which nothing came but what the station tells of
-- frames
pub record PayloadWasBrought (settings : Settings) (selective : Bool) (before : List Occurrence) (side : Side) (payload : List ℕ) : Type 0 where
  pub earlier : List Occurrence
  pub octets : List ℕ
  pub later : List Occurrence
  pub is : before ≡ earlier ++ at_end (other side) (Passed octets) ∷ later
  pub told : AllByRecursion (λ o. (o.side ≡ side) × IsToldOfFrames o.outcome) later
  pub brought : PayloadIsOfPass selective settings side earlier octets payload

-- each payload that was accepted at a link of stations, whatever its line did
abbrev pub PayloadsAreBrought : DrillPlan → List Step → Type 0
PayloadsAreBrought plan steps =
    (n : ℕ) (l : Link) (selective : Bool) → link_at (world_run plan steps).0 n ≡ Some l → l.opening ≡ OfStations selective
    → (before after : List Occurrence) (side : Side) (payload : List ℕ)
    → history_on n (world_run plan steps).1 ≡ before ++ at_end side (Arrived payload) ∷ after
    → PayloadWasBrought plan.settings selective before side payload
