-- Contract: what an end of levels link and link-sr tells of an event.
use Rattle.std.specs.Prelude.{ℕ, ◌≡◌, Bool, true, false, List, [], ◌∷◌, ◌++◌, map, Option, Some, None}
use Rattle.er_base.specs.declared.release.Release.{Release}
use Rattle.hdlc_station_model.specs.Frames.{Frame, sent_octets}
use Rattle.hdlc_station_model.specs.Stations.{Station, Deed}
use Rattle.hdlc_station_model.specs.Events.{news}
use Rattle.drill_model.specs.Outcomes.{DrillOutcome}
use Rattle.drill_model.specs.Ends.{EndAtLevel, OfStation}
use Rattle.drill_model.specs.StationEnds.{station_and_told, frames_heard}
use Rattle.hdlc_station.specs.Kept.{octets_of_sent_frames}
use Rattle.hdlc_station.specs.Stations.{StationKept}
use Rattle.drill_ends.specs.declared.told.Told.{Told}
use Rattle.drill_ends.specs.declared.told.Told.TheVariants as told
use Rattle.drill_ends.specs.Tellings.{AreTold}
use Rattle.drill_ends.specs.declared.station_end.StationEnd.{StationEnd}
use Rattle.drill_ends.specs.KeptStations.{StandsQuiet, StandsStation}

-- what is told of a call
abbrev pub told_up : Bool → List Told
told_up true = told.Up ∷ []
told_up false = []

abbrev pub told_arrived : Option (List ℕ) → List Told
told_arrived None = []
told_arrived (Some payload) = told.Arrived payload ∷ []

-- the payloads that were taken, in their order
abbrev pub told_payloads : Deed → List Told
told_payloads d = told_arrived d.payload ++ map told.Arrived d.more

abbrev pub told_released : Option Release → List Told
told_released None = []
told_released (Some release) = told.Released release ∷ []

abbrev pub told_deed : Deed → List Told
told_deed d = (told_up d.up ++ told_payloads d) ++ told_released d.released

-- frames that were written are told one by one
abbrev pub told_frames : (calling extended : Bool) → List Frame → List Told
told_frames calling extended frames = map (λ f. told.Frame (sent_octets calling extended f)) frames

abbrev pub TellsFrames : List ℕ → List Told → List Told → Type 0
TellsFrames written before now =
    (calling extended : Bool) (frames : List Frame) → written ≡ octets_of_sent_frames calling extended frames
    → now ≡ before ++ told_frames calling extended frames

-- in the midst of it: what is left leads from here to where all lead from the beginning
pub record TellingFrames (calling extended : Bool) (frames : List Frame) (rest : List ℕ) (before now : List Told) : Type 0 where
  pub left : List Frame
  pub is : rest ≡ octets_of_sent_frames calling extended left
  pub leads : now ++ told_frames calling extended left ≡ before ++ told_frames calling extended frames

-- a call was made, what it told and the frames that it sent were told
pub record CallDid (new : StationKept) (selective : Bool) (before now : List Told) (a : Station × List DrillOutcome) : Type 0 where
  pub stands : StandsQuiet new selective a.0
  pub list : List Told
  pub grew : now ≡ before ++ list
  pub told : AreTold a.1 list

-- wherever the station stands
abbrev pub CallDoes : (selective : Bool) → StationKept → StationKept → List Told → List Told → (Station → Station × List DrillOutcome) → Type 0
CallDoes selective old new before now moves = (s : Station) → StandsQuiet old selective s → CallDid new selective before now (moves s)

-- the same of a call that may tell a release
abbrev pub CallTells : (selective : Bool) → StationKept → StationKept → List Told → List Told → Option Release → (Station → Station) → Type 0
CallTells selective old new before now released call =
    (s : Station) → StandsQuiet old selective s → CallDid new selective before now (station_and_told (call s)) × (released ≡ (call s).deed.released)

-- a station went on so, was given this stream, and told its outcomes
pub record StationDid (new : StationEnd) (selective : Bool) (stream : List ℕ) (before now : List Told) (a : Station × List DrillOutcome) : Type 0 where
  pub stands : StandsStation new selective a.0 stream
  pub list : List Told
  pub grew : now ≡ before ++ list
  pub told : AreTold a.1 list

-- an event that gives no octets, wherever the station stands
abbrev pub StationDoes : StationEnd → StationEnd → List Told → List Told → (Station → Station × List DrillOutcome) → Type 0
StationDoes old new before now moves =
    (selective : Bool) (s : Station) (stream : List ℕ) → StandsStation old selective s stream → StationDid new selective stream before now (moves s)

-- octets were given
abbrev pub StationReads : (moment : ℕ) → StationEnd → List ℕ → StationEnd → List Told → List Told → Type 0
StationReads moment old octets new before now =
    (selective : Bool) (s : Station) (stream : List ℕ) → StandsStation old selective s stream
    → StationDid new selective (stream ++ octets) before now (frames_heard selective moment (news stream octets) s)

-- in the midst of it: some octets were given, and with what is left it is all
pub record IsWithinReading (selective : Bool) (moment : ℕ) (s : Station) (stream octets rest : List ℕ) (kept : StationEnd) (before now : List Told) : Type 0
  where
    pub at : Station
    pub given : List ℕ
    pub came : List DrillOutcome
    pub whole : given ++ rest ≡ stream ++ octets
    pub leads : frames_heard selective moment (news stream octets) s
        ≡ ((frames_heard selective moment (news given rest) at).0, came ++ (frames_heard selective moment (news given rest) at).1)
    pub did : StationDid kept selective given before now (at, came)

-- an end of level link or link-sr went on so, and told its outcomes
pub record StationWent (new : StationEnd) (before now : List Told) (a : EndAtLevel × List DrillOutcome) : Type 0 where
  pub at : Station
  pub given : List ℕ
  pub selective : Bool
  pub is : a.0 ≡ OfStation selective at given
  pub stands : StandsStation new selective at given
  pub list : List Told
  pub grew : now ≡ before ++ list
  pub told : AreTold a.1 list
