-- The world of a drill: links of one level by their numbers, and a moment. A step gives the next world and what came of it; a list of
-- steps gives one list of all that came (this profile).
use Rattle.std.specs.Prelude.{ℕ, zero, suc, ◌+◌, ◌==◌, ◌&&◌, nat_lt, Bool, true, false, if◌then◌else◌, List, [], ◌∷◌, ◌++◌, length, map, Option, Some, None}
use Rattle.std.specs.List.{flat_map}
use Rattle.er_base.specs.declared.side.Side.{Side}
use Rattle.er_base.specs.declared.side.Side.TheVariants.{E, R}
use Rattle.des_block.specs.declared.triple_key.TripleKey.{TripleKey}
use Rattle.er_settings.specs.Values.{Settings}
use Rattle.er_scenario.specs.declared.level.Level.{Level}
use Rattle.er_scenario.specs.declared.level.Level.TheVariants as level
use Rattle.er_scenario.specs.declared.step.Step.{Step}
use Rattle.er_scenario.specs.declared.step.Step.TheVariants as does
use Rattle.er_scenario.specs.declared.scenario.Scenario.{Scenario}
use Rattle.hdlc_station_model.specs.Lines.{next_of}
use Rattle.safety_pair_laws.specs.Facts.{SideFact}
use Rattle.safety_pair_laws.specs.Openings.{OfFixed, OfKeys}
use Rattle.drill_model.specs.Outcomes.{NothingWaits, Occurrence, at_end, facts_in}
use Rattle.drill_model.specs.Waiting.{Lose, Repeat, Alter, Put}
use Rattle.drill_model.specs.Links.{Link, LinkOpening, OfPair, OfStations, OfStacks, opened_link, waiting_of, LinkStep, Send, Pass, Change, Take, Release, Tick}
use Rattle.drill_model.specs.Links.{link_step}

-- what a drill is run with: its level, the settings of its links, and whether frames are printed
pub record DrillPlan : Type 0 where
  pub level : Level
  pub settings : Settings
  pub show : Bool

abbrev pub plan_of : Scenario → DrillPlan
plan_of scenario = record { level = scenario.level; settings = scenario.settings; show = scenario.show }

abbrev pub steps_of : Scenario → List Step
steps_of scenario = map (λ x. x.step) scenario.steps

-- the link of each number, if it was opened, and the moment of the newest tick
pub record World : Type 0 where
  pub links : ℕ → Option Link
  pub moment : ℕ

abbrev pub new_world : World
new_world = record { links = λ n. None; moment = 0 }

-- links have the numbers 1 to 64
abbrev pub is_link : ℕ → Bool
is_link n = nat_lt 0 n && nat_lt n 65

abbrev pub link_at : World → ℕ → Option Link
link_at w n = w.links n

abbrev pub with_link : World → ℕ → Link → World
with_link w n l = record w { links = λ m. if m == n then Some l else w.links m }

-- what came of a step of the world: an occurrence at a link, or that a drain of a link made so many passes
pub data Came : Type 0 where
  On : (link : ℕ) (occurrence : Occurrence) → Came
  Drained : (link passes : ℕ) → Came

-- what came at link n
abbrev pub history_at : ℕ → Came → List Occurrence
history_at n (On link occurrence) = if link == n then occurrence ∷ [] else []
history_at n (Drained link passes) = []

abbrev pub history_on : ℕ → List Came → List Occurrence
history_on n came = flat_map (history_at n) came

-- the facts of the safety layer at link n
abbrev pub facts_on : ℕ → List Came → List SideFact
facts_on n came = facts_in (history_on n came)

-- link n went on to this
abbrev pub went_on : World → ℕ → Link × List Occurrence → World × List Came
went_on w n a = (with_link w n a.0, map (On n) a.1)

-- ---- openings

-- what a line `fixed`, `link` or `wire` opens at a level, where the level has that line
abbrev pub fixed_opening : Level → (engine rbc : ℕ) (ke kr : TripleKey) → Option LinkOpening
fixed_opening level.Safe engine rbc ke kr = Some (OfPair (OfFixed engine rbc ke kr))
fixed_opening level.Link engine rbc ke kr = None
fixed_opening level.LinkSr engine rbc ke kr = None
fixed_opening level.Full engine rbc ke kr = None

abbrev pub link_opening : Level → (engine rbc : ℕ) (ke : TripleKey) (kr : Option TripleKey) (ra rb : ℕ) → Option LinkOpening
link_opening level.Safe engine rbc ke kr ra rb = Some (OfPair (OfKeys engine rbc ke kr ra rb))
link_opening level.Link engine rbc ke kr ra rb = None
link_opening level.LinkSr engine rbc ke kr ra rb = None
link_opening level.Full engine rbc ke kr ra rb = Some (OfStacks engine rbc ke kr ra rb)

abbrev pub wire_opening : Level → Option LinkOpening
wire_opening level.Safe = None
wire_opening level.Link = Some (OfStations false)
wire_opening level.LinkSr = Some (OfStations true)
wire_opening level.Full = None

-- link n is opened, where it is the number of a link that wasn't
abbrev pub open_link : DrillPlan → World → ℕ → Option Link → Option LinkOpening → World × List Came
open_link plan w n (Some l) opening = (w, [])
open_link plan w n None None = (w, [])
open_link plan w n None (Some opening) = if is_link n then went_on w n (opened_link plan.settings w.moment opening) else (w, [])

-- ---- steps of links

-- a step of link n, where it was opened
abbrev pub at_link : World → ℕ → Option Link → LinkStep → World × List Came
at_link w n None s = (w, [])
at_link w n (Some l) s = went_on w n (link_step l s)

-- the end whose frame a drain passes next
abbrev pub next_side : Link → Option Side
next_side l = next_of l.from_e l.from_r

-- at most 4,096 frames wait in one direction: the direction in which more wait, if there is one, that of e first
abbrev pub overfull_side : Link → Option Side
overfull_side l =
    if nat_lt 4096 (length l.from_e) then Some E
    else if nat_lt 4096 (length l.from_r) then Some R
    else None

-- a drain of a link: the link behind it, what came, and the number of its passes
pub record Drain : Type 0 where
  pub link : Link
  pub came : List Occurrence
  pub passes : ℕ

-- one pass, and then the others
abbrev pub drain_behind_pass : List Occurrence → Drain → Drain
drain_behind_pass came d = record { link = d.link; came = came ++ d.came; passes = d.passes + 1 }

abbrev pub no_passes : Link → Drain
no_passes l = record { link = l; came = []; passes = 0 }

-- the next pass, and the others behind it; none where nothing waits, nor where too many frames wait, since such a step isn't done
abbrev pub drain_on : (Link → Drain) → Link → Option Side → Option Side → Drain
drain_on others l None overfull = no_passes l
drain_on others l (Some side) (Some overfull) = no_passes l
drain_on others l (Some side) None =
    let a = link_step l (Pass side) in
    drain_behind_pass a.1 (others a.0)

-- at most `most` passes, the first waiting frame of e if there is one, else of r, until none waits
unfoldable pub drain : (most : ℕ) → Link → Drain
drain zero l = no_passes l
drain (suc most) l = drain_on (drain most) l (next_side l) (overfull_side l)

abbrev pub with_drain : World → ℕ → Drain → World × List Came
with_drain w n d = (with_link w n d.link, map (On n) d.came ++ Drained n d.passes ∷ [])

abbrev pub drain_link : World → ℕ → (most : ℕ) → Option Link → World × List Came
drain_link w n most None = (w, [])
drain_link w n most (Some l) = with_drain w n (drain most l)

-- a copy of the first waiting frame of an end of link n is put as the first one of an end of link m, where both were opened
abbrev pub copy_frame : World → ℕ → Side → List (List ℕ) → ℕ → Side → Link → World × List Came
copy_frame w n s [] m t k = (w, On n (at_end s NothingWaits) ∷ [])
copy_frame w n s (frame ∷ frames) m t k = went_on w m (link_step k (Change t (Put frame)))

abbrev pub copy_between : World → ℕ → Side → Option Link → ℕ → Side → Option Link → World × List Came
copy_between w n s None m t to = (w, [])
copy_between w n s (Some l) m t None = (w, [])
copy_between w n s (Some l) m t (Some k) = copy_frame w n s (waiting_of l s) m t k

-- one step of the world, and then another
abbrev pub then_world : World × List Came → (World → World × List Came) → World × List Came
then_world a next = let b = next a.0 in (b.0, a.1 ++ b.1)

-- the links from number n on, so many, are ticked, their numbers rising
unfoldable pub tick_each_link : (moment : ℕ) → World → (n count : ℕ) → World × List Came
tick_each_link moment w n zero = (w, [])
tick_each_link moment w n (suc count) = then_world (at_link w n (link_at w n) (Tick moment)) (λ v. tick_each_link moment v (n + 1) count)

-- the moment is set and every end is ticked, links rising, e before r; not where it lies before the world's
abbrev pub tick_world : World → (moment : ℕ) → World × List Came
tick_world w moment = if nat_lt moment w.moment then (w, []) else tick_each_link moment (record w { moment = moment }) 1 64

-- ---- steps of the world

-- one step; a step that is refused does nothing
abbrev pub world_step : DrillPlan → World → Step → World × List Came
world_step plan w (does.Fixed n engine rbc ke kr) = open_link plan w n (link_at w n) (fixed_opening plan.level engine rbc ke kr)
world_step plan w (does.Link n engine rbc ke kr ra rb) = open_link plan w n (link_at w n) (link_opening plan.level engine rbc ke kr ra rb)
world_step plan w (does.Wire n) = open_link plan w n (link_at w n) (wire_opening plan.level)
world_step plan w (does.Send n s text) = at_link w n (link_at w n) (Send s text)
world_step plan w (does.Pass n s) = at_link w n (link_at w n) (Pass s)
world_step plan w (does.Lose n s) = at_link w n (link_at w n) (Change s Lose)
world_step plan w (does.Repeat n s) = at_link w n (link_at w n) (Change s Repeat)
world_step plan w (does.Alter n s place mask) = at_link w n (link_at w n) (Change s (Alter place mask))
world_step plan w (does.Put n s text) = at_link w n (link_at w n) (Change s (Put text))
world_step plan w (does.Copy n s m t) = copy_between w n s (link_at w n) m t (link_at w m)
world_step plan w (does.Take n s) = at_link w n (link_at w n) (Take s)
world_step plan w (does.Release n s sub) = at_link w n (link_at w n) (Release s sub)
world_step plan w (does.Tick moment) = tick_world w moment
world_step plan w (does.Drain n most) = drain_link w n most (link_at w n)

-- a list of steps from a world on: the world at the end, and all that came
abbrev pub world_run_from : DrillPlan → World → List Step → World × List Came
world_run_from plan w [] = (w, [])
world_run_from plan w (s ∷ rest) = then_world (world_step plan w s) (λ v. world_run_from plan v rest)

-- WorldRun
abbrev pub world_run : DrillPlan → List Step → World × List Came
world_run plan steps = world_run_from plan new_world steps
