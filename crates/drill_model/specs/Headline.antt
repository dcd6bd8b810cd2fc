-- What is claimed (this profile): of the world that a list of steps leads to, and so of every list of steps. Its words stand in `Opened`,
-- `Effects`, `Hearing`, `Sides` and `Claims`; links, worlds and what came of them in `Links`, `Worlds` and `Kinds`.
use Rattle.std.specs.Prelude.{ℕ, ◌*◌, ◌≡◌, ◌≤◌, List, Some, option_map, take}
use Rattle.std.specs.List.{AllByRecursion}
use Rattle.er_settings.specs.Values.{Settings}
use Rattle.er_settings.specs.Ranges.{AllAllowed}
use Rattle.er_scenario.specs.declared.level.Level.{Level}
use Rattle.er_scenario.specs.declared.level.Level.TheVariants as level
use Rattle.er_scenario.specs.declared.step.Step.{Step}
use Rattle.drill_model.specs.Links.{Link}
use Rattle.drill_model.specs.Steps.{AllFit}
use Rattle.drill_model.specs.Worlds.{DrillPlan, link_at, history_on, world_run}
use Rattle.drill_model.specs.Faults.{AllDone}
use Rattle.drill_model.specs.Kinds.{releases_in, FramesHaveRoom, IsOrderKeeping, IsLossFree}
use Rattle.drill_model.specs.Effects.{Steps}
use Rattle.drill_model.specs.Hearing.{HeardIsBrought, PayloadsAreBrought}
use Rattle.drill_model.specs.Opened.{opening_of, LinksAreOpened, SettingsStay}
use Rattle.drill_model.specs.Sides.{EndsAnswer}
use Rattle.drill_model.specs.Claims.{LawfulAt, TakesInOrder, IsInOrder, IsLosingLineReason, OrderIsUnforged, Delivers, Recovers}

pub record Holds (plan : DrillPlan) (all : List Step) : Type 0 where
  -- each link has the opening of the first step that opens its number
  pub opens : (n : ℕ) → option_map (λ l. l.opening) (link_at (world_run plan all).0 n) ≡ opening_of plan n all
  -- a link is opened by such a step alone, and then stands so
  pub opened : LinksAreOpened plan all
  -- its ends keep the file's settings
  pub settings : SettingsStay plan all
  -- what was sent, passed, lost, repeated, altered, inserted, released by a user and found expired is what the steps say; and the frames
  -- that wait are those that the ends told, as the steps changed them
  pub steps : Steps plan all
  -- at each link the messages and the peers are authentic
  pub lawful : (n : ℕ) → LawfulAt (link_at (world_run plan all).0 n) (history_on n (world_run plan all).1)
  -- what was heard is what the line brought
  pub heard : HeardIsBrought plan all
  -- what a station accepted is the information of an I frame that the line brought
  pub arrived : PayloadsAreBrought plan all
  -- when a send is refused, what a release by a user is, and that a released end is silent
  pub ends : EndsAnswer plan all
  -- what a user took is a prefix of what its end accepted, and each take gives the oldest that is left
  pub takes : TakesInOrder plan all
  -- where the link keeps its order, what an end accepted is a prefix of what the other sent
  pub in_order : (n : ℕ) (l : Link) → link_at (world_run plan all).0 n ≡ Some l
      → IsOrderKeeping l.opening (history_on n (world_run plan all).1)
      → IsInOrder (history_on n (world_run plan all).1)
  -- each release there has one of the reasons of a line that only loses and repeats
  pub reasons : (n : ℕ) (l : Link) → link_at (world_run plan all).0 n ≡ Some l
      → IsOrderKeeping l.opening (history_on n (world_run plan all).1)
      → AllByRecursion (IsLosingLineReason l.opening) (releases_in (history_on n (world_run plan all).1))
  -- and where the ends agree nothing is forged there
  pub unforged : OrderIsUnforged plan all
  -- where the link is loss-free, all is delivered within its bound
  pub delivers : (n : ℕ) (l : Link) → link_at (world_run plan all).0 n ≡ Some l
      → IsLossFree l.opening (history_on n (world_run plan all).1)
      → Delivers plan.settings (history_on n (world_run plan all).1) l
  -- at most 4,096 frames wait in one direction
  pub room : (n : ℕ) (l : Link) → link_at (world_run plan all).0 n ≡ Some l → FramesHaveRoom l
  -- a link of two stations or two stacks recovers, whose line only lost and repeated and of which none was released
  pub recovers : Recovers plan all

-- settings in the ranges of a level: with selective reject the window is at most half the modulo (ISO/IEC 13239)
abbrev pub FitsLevel : Level → Settings → Type 0
FitsLevel level.Safe settings = AllAllowed settings
FitsLevel level.Link settings = AllAllowed settings
FitsLevel level.LinkSr settings = AllAllowed settings × (2 * settings.window ≤ settings.modulo)
FitsLevel level.Full settings = AllAllowed settings

-- every list of steps, at every moment of those that are done, where the settings are in the ranges of the plan's level and the numbers of the steps fit
-- their fields
abbrev pub HoldsAlways : Type 0
HoldsAlways =
    (plan : DrillPlan) (steps : List Step) (count : ℕ) → FitsLevel plan.level plan.settings → AllFit steps → AllDone plan steps count
    → Holds plan (take count steps)
