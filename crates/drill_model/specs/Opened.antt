-- What opens a link, and how the link stands right behind that (this profile): which line of a file does at which level, with which number,
-- keys, random numbers and settings.
use Rattle.std.specs.Prelude.{ℕ, ◌+◌, ◌≡◌, ◌≤◌, ◌==◌, ◌&&◌, nat_le, true, false, if◌then◌else◌, List, [], ◌∷◌, ◌++◌, Option, Some, None}
use Rattle.er_base.specs.declared.side.Side.{Side}
use Rattle.er_base.specs.declared.side.Side.TheVariants.{E, R}
use Rattle.er_settings.specs.Values.{Settings}
use Rattle.er_scenario.specs.declared.level.Level.{Level}
use Rattle.er_scenario.specs.declared.level.Level.TheVariants as level
use Rattle.er_scenario.specs.declared.step.Step.{Step}
use Rattle.er_scenario.specs.declared.step.Step.TheVariants as does
use Rattle.safety_automaton.specs.declared.role.Role.TheVariants.{Initiator, Responder}
use Rattle.safety_automaton.specs.Safety.{initiator, responder, fixed}
use Rattle.safety_pair_laws.specs.Openings.{OfFixed, OfKeys}
use Rattle.hdlc_station_model.specs.Stations.{Station, made}
use Rattle.er_end_model.specs.Ends.{Call, Answer}
use Rattle.er_end_model.specs.Ends as stacks
use Rattle.drill_model.specs.Ends.{EndAtLevel, OfSafe, OfStation, OfStack, Start, end_step}
use Rattle.drill_model.specs.Links.{LinkOpening, OfPair, OfStations, OfStacks, Link, end_of, key_on}
use Rattle.drill_model.specs.Worlds.{DrillPlan, link_at, world_step, world_run}

-- ---- the lines that open a link

-- the number of the link that a line opens at a level, and how; a line that the level doesn't have, and any other line, opens none
abbrev pub opens_as : Step → Level → Option (ℕ × LinkOpening)
opens_as (does.Fixed n engine rbc ke kr) level.Safe = Some (n, OfPair (OfFixed engine rbc ke kr))
opens_as (does.Fixed n engine rbc ke kr) level.Link = None
opens_as (does.Fixed n engine rbc ke kr) level.LinkSr = None
opens_as (does.Fixed n engine rbc ke kr) level.Full = None
opens_as (does.Link n engine rbc ke kr ra rb) level.Safe = Some (n, OfPair (OfKeys engine rbc ke kr ra rb))
opens_as (does.Link n engine rbc ke kr ra rb) level.Link = None
opens_as (does.Link n engine rbc ke kr ra rb) level.LinkSr = None
opens_as (does.Link n engine rbc ke kr ra rb) level.Full = Some (n, OfStacks engine rbc ke kr ra rb)
opens_as (does.Wire n) level.Safe = None
opens_as (does.Wire n) level.Link = Some (n, OfStations false)
opens_as (does.Wire n) level.LinkSr = Some (n, OfStations true)
opens_as (does.Wire n) level.Full = None
opens_as (does.Send n s text) l = None
opens_as (does.Pass n s) l = None
opens_as (does.Lose n s) l = None
opens_as (does.Repeat n s) l = None
opens_as (does.Alter n s place mask) l = None
opens_as (does.Put n s text) l = None
opens_as (does.Copy n s m t) l = None
opens_as (does.Take n s) l = None
opens_as (does.Release n s sub) l = None
opens_as (does.Tick moment) l = None
opens_as (does.Drain n most) l = None

-- of the link of this number; links have the numbers 1 to 64
abbrev pub opening_named : (n : ℕ) → Option (ℕ × LinkOpening) → Option LinkOpening
opening_named n None = None
opening_named n (Some (m, opening)) = if (m == n) && (nat_le 1 m && nat_le m 64) then Some opening else None

-- how a step opens link n, if it does
abbrev pub opening_by : DrillPlan → ℕ → Step → Option LinkOpening
opening_by plan n s = opening_named n (opens_as s plan.level)

-- the first of two, if there is one
abbrev pub or_opening : Option LinkOpening → Option LinkOpening → Option LinkOpening
or_opening None later = later
or_opening (Some opening) later = Some opening

-- the first step that opens link n counts: a second is refused
abbrev pub opening_of : DrillPlan → ℕ → List Step → Option LinkOpening
opening_of plan n [] = None
opening_of plan n (s ∷ rest) = or_opening (opening_by plan n s) (opening_of plan n rest)

-- ---- a link that was just opened

-- an end before its first event. At levels safe and full e is the engine's, which calls, and r the radio block centre's; the random number
-- Ra is that of the radio block centre, Rb that of the engine. At levels link and link-sr e is the calling station
abbrev pub new_end : Settings → (moment : ℕ) → LinkOpening → Side → EndAtLevel
new_end settings moment (OfPair (OfFixed engine rbc ke kr)) E = OfSafe (fixed engine rbc Initiator ke)
new_end settings moment (OfPair (OfFixed engine rbc ke kr)) R = OfSafe (fixed rbc engine Responder kr)
new_end settings moment (OfPair (OfKeys engine rbc ke kr ra rb)) E = OfSafe (initiator engine rbc ke rb)
new_end settings moment (OfPair (OfKeys engine rbc ke kr ra rb)) R = OfSafe (responder rbc ra)
new_end settings moment (OfStations selective) E = OfStation selective (made true (settings.modulo == 128) settings.window settings.n2 settings.t1) []
new_end settings moment (OfStations selective) R = OfStation selective (made false (settings.modulo == 128) settings.window settings.n2 settings.t1) []
new_end settings moment (OfStacks engine rbc ke kr ra rb) E = OfStack (stacks.opened (Call settings engine rbc ke rb moment))
new_end settings moment (OfStacks engine rbc ke kr ra rb) R = OfStack (stacks.opened (Answer settings rbc ra moment))

-- the end that calls has begun; ends with fixed session keys have nothing to begin
abbrev pub begun_end : Settings → (moment : ℕ) → LinkOpening → EndAtLevel
begun_end settings moment (OfPair (OfFixed engine rbc ke kr)) = new_end settings moment (OfPair (OfFixed engine rbc ke kr)) E
begun_end settings moment (OfPair (OfKeys engine rbc ke kr ra rb)) =
    (end_step (key_on (OfPair (OfKeys engine rbc ke kr ra rb))) moment (new_end settings moment (OfPair (OfKeys engine rbc ke kr ra rb)) E) Start).0
begun_end settings moment (OfStations selective) = (end_step (key_on (OfStations selective)) moment (new_end settings moment (OfStations selective) E) Start).0
begun_end settings moment (OfStacks engine rbc ke kr ra rb) =
    (end_step (key_on (OfStacks engine rbc ke kr ra rb)) moment (new_end settings moment (OfStacks engine rbc ke kr ra rb) E) Start).0

-- at this moment, with these settings
pub record IsNew (settings : Settings) (moment : ℕ) (l : Link) : Type 0 where
  pub at : l.opened_at ≡ moment
  pub now : l.moment ≡ moment
  pub e : l.e ≡ begun_end settings moment l.opening
  pub r : l.r ≡ new_end settings moment l.opening R

-- link n was opened by this step, in a world of this moment
pub record IsOpenedBy (plan : DrillPlan) (moment n : ℕ) (s : Step) (l : Link) : Type 0 where
  pub opening : opens_as s plan.level ≡ Some (n, l.opening)
  pub least : 1 ≤ n
  pub most : n ≤ 64
  pub new : IsNew plan.settings moment l

-- a link that wasn't open before a step and is open behind it was opened by that step; and a step that opens a link of a number of 1 to 64
-- which isn't open does so
pub record LinksAreOpened (plan : DrillPlan) (steps : List Step) : Type 0 where
  pub only : (before after : List Step) (s : Step) (n : ℕ) (l : Link) → steps ≡ before ++ s ∷ after → link_at (world_run plan before).0 n ≡ None
      → link_at (world_step plan (world_run plan before).0 s).0 n ≡ Some l → IsOpenedBy plan (world_run plan before).0.moment n s l
  pub each : (before after : List Step) (s : Step) (n : ℕ) (opening : LinkOpening) → steps ≡ before ++ s ∷ after
      → link_at (world_run plan before).0 n ≡ None → opens_as s plan.level ≡ Some (n, opening) → 1 ≤ n → n ≤ 64
      → (l : Link) × (link_at (world_step plan (world_run plan before).0 s).0 n ≡ Some l)

-- ---- settings stay

-- the settings of a station: the modulo of its numbers, the window, N2 and T1
abbrev pub HasLineSettings : Settings → Station → Type 0
HasLineSettings settings s =
    (s.extended ≡ (settings.modulo == 128)) × (s.window ≡ settings.window) × (s.n2 ≡ settings.n2) × (s.t1 ≡ settings.t1)

-- of an end of a link that was opened at this moment: of its station, and of a stack the moment at which the time for its set-up is spent;
-- a side of a safe connection has no settings
abbrev pub HasSettings : Settings → (opened_at : ℕ) → EndAtLevel → Type 0
HasSettings settings opened_at (OfSafe s) = Unit {0}
HasSettings settings opened_at (OfStation selective s stream) = HasLineSettings settings s
HasSettings settings opened_at (OfStack m) = HasLineSettings settings m.core.line × (m.core.limit ≡ opened_at + settings.setup)

-- they are the file's, at every moment of every link
abbrev pub SettingsStay : DrillPlan → List Step → Type 0
SettingsStay plan steps =
    (n : ℕ) (l : Link) (side : Side) → link_at (world_run plan steps).0 n ≡ Some l → HasSettings plan.settings l.opened_at (end_of l side)
