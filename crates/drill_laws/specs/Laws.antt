-- The headline point by point, each with no more premises than it needs: what the laws of this crate say of every list of steps.
use Rattle.std.specs.Prelude.{ℕ, ◌*◌, ◌≡◌, ◌≤◌, true, false, List, [], ◌∷◌, ◌++◌, Some, None, option_map}
use Rattle.std.specs.List.{AllByRecursion}
use Rattle.er_settings.specs.Values.{Settings}
use Rattle.er_settings.specs.Ranges.{AllAllowed}
use Rattle.er_scenario.specs.declared.step.Step.{Step}
use Rattle.drill_model.specs.Links.{LinkOpening, OfPair, OfStations, OfStacks, Link}
use Rattle.drill_model.specs.Steps.{AllFit}
use Rattle.drill_model.specs.Worlds.{DrillPlan, link_at, history_on, world_run}
use Rattle.drill_model.specs.Faults.{fault_behind}
use Rattle.drill_model.specs.Kinds.{releases_in, FramesHaveRoom, IsOrderKeeping, IsLossFree}
use Rattle.drill_model.specs.Recovery.{IsRepairable, AreStations, DrainEmpties}
use Rattle.drill_model.specs.Opened.{opening_of}
use Rattle.drill_model.specs.Claims.{LawfulAt, IsInOrder, IsLosingLineReason, Delivers, Repairs}

-- ---- authentic messages and peers, openings

-- for every list of steps, at each number
abbrev pub LawfulAlways : Type 0
LawfulAlways =
    (plan : DrillPlan) (steps : List Step) (n : ℕ) → LawfulAt (link_at (world_run plan steps).0 n) (history_on n (world_run plan steps).1)

-- a link has the opening of the step that opened it, and where no step did there is none
abbrev pub OpensAlways : Type 0
OpensAlways =
    (plan : DrillPlan) (steps : List Step) (n : ℕ)
    → option_map (λ l. l.opening) (link_at (world_run plan steps).0 n) ≡ opening_of plan n steps

-- ---- room

-- behind a step that is done at most 4,096 frames wait in each direction of any link
abbrev pub RoomAlways : Type 0
RoomAlways =
    (plan : DrillPlan) (before : List Step) (s : Step) → fault_behind plan before s ≡ None
    → (n : ℕ) (l : Link) → link_at (world_run plan (before ++ s ∷ [])).0 n ≡ Some l → FramesHaveRoom l

-- ---- settings

-- two stations and two stacks ask for settings in their ranges; stations with selective reject besides for a window of at most half the
-- modulo (ISO/IEC 13239)
abbrev pub FitsSettings : Settings → LinkOpening → Type 0
FitsSettings settings (OfPair opening) = Unit {0}
FitsSettings settings (OfStations true) = AllAllowed settings × (2 * settings.window ≤ settings.modulo)
FitsSettings settings (OfStations false) = AllAllowed settings
FitsSettings settings (OfStacks engine rbc ke kr ra rb) = AllAllowed settings

-- at level full the users' texts are octets, and the numbers fit their fields
abbrev pub FitsSteps : List Step → LinkOpening → Type 0
FitsSteps steps (OfPair opening) = Unit {0}
FitsSteps steps (OfStations selective) = Unit {0}
FitsSteps steps (OfStacks engine rbc ke kr ra rb) = AllFit steps

-- for every list of steps, of each link that is order-keeping so far, whether an end was released or not
abbrev pub InOrderAlways : Type 0
InOrderAlways =
    (plan : DrillPlan) (steps : List Step) (n : ℕ) (l : Link) → link_at (world_run plan steps).0 n ≡ Some l
    → FitsSettings plan.settings l.opening → FitsSteps steps l.opening
    → IsOrderKeeping l.opening (history_on n (world_run plan steps).1)
    → IsInOrder (history_on n (world_run plan steps).1)

-- of each release that came
abbrev pub LosingLineReasonsAlways : Type 0
LosingLineReasonsAlways =
    (plan : DrillPlan) (steps : List Step) (n : ℕ) (l : Link) → link_at (world_run plan steps).0 n ≡ Some l
    → FitsSettings plan.settings l.opening → FitsSteps steps l.opening
    → IsOrderKeeping l.opening (history_on n (world_run plan steps).1)
    → AllByRecursion (IsLosingLineReason l.opening) (releases_in (history_on n (world_run plan steps).1))

-- for every list of steps whose numbers fit, of each link that is loss-free so far
abbrev pub DeliversAlways : Type 0
DeliversAlways =
    (plan : DrillPlan) (steps : List Step) → AllFit steps → (n : ℕ) (l : Link) → link_at (world_run plan steps).0 n ≡ Some l
    → FitsSettings plan.settings l.opening
    → IsLossFree l.opening (history_on n (world_run plan steps).1)
    → Delivers plan.settings (history_on n (world_run plan steps).1) l

-- for every list of steps
abbrev pub RepairsAlways : Type 0
RepairsAlways =
    (plan : DrillPlan) (before : List Step) (n : ℕ) (first : List Step) (moment : ℕ) (second : List Step)
    → ((l : Link) → link_at (world_run plan before).0 n ≡ Some l → FitsSettings plan.settings l.opening × FitsSteps before l.opening)
    → Repairs plan before n first moment second

-- of a link of two stations
abbrev pub DrainsAlways : Type 0
DrainsAlways =
    (plan : DrillPlan) (steps : List Step) (n : ℕ) (l : Link) → link_at (world_run plan steps).0 n ≡ Some l → FitsSettings plan.settings l.opening
    → AreStations l.opening → IsRepairable (history_on n (world_run plan steps).1) l → DrainEmpties plan (history_on n (world_run plan steps).1) l
