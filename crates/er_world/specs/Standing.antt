-- Contract: where a world of the code stands among the worlds of the model; what a caller names of it is `Ran` and `spent`.
use Rattle.std.specs.Prelude.{◌≡◌, Bool, true, false, List, [], ◌∷◌, ◌++◌, ℕ, slice_get, Option, Some, None}
use Rattle.er_scenario.specs.declared.step.Step.{Step}
use Rattle.drill_model.specs.declared.world_fault.WorldFault.{WorldFault}
use Rattle.drill_model.specs.declared.world_fault.WorldFault.TheVariants.{NoLink, LinkTwice, MomentBack, Overfull, NoMemory}
use Rattle.drill_model.specs.Outcomes.{Occurrence}
use Rattle.drill_model.specs.Links.{Link}
use Rattle.drill_model.specs.Worlds.{DrillPlan, World, Came, is_link, link_at, history_on, world_run}
use Rattle.drill_model.specs.Faults.{overfull_of, fault_behind}
use Rattle.drill_model.specs.Texts.{step_lines}
use Rattle.er_world.specs.declared.link.Link.{Link as KeptLink}
use Rattle.er_world.specs.KeptLinks.{StandsLink}

-- what a caller sees of a world, and what the code keeps of it
pub record KeptWorld : Type 0 where
  pub plan : DrillPlan
  pub spent : Bool
  -- link n at place n
  pub links : List (Option KeptLink)
  pub moment : ℕ

abbrev pub kept_link_if_any : Option (Option KeptLink) → Option KeptLink
kept_link_if_any None = None
kept_link_if_any (Some place) = place

abbrev pub kept_at : KeptWorld → ℕ → Option KeptLink
kept_at kept n = kept_link_if_any (slice_get kept.links n)

-- a place stands where a link of the model does, at which this came; nothing came where none was opened
abbrev pub StandsPlace : Option KeptLink → Option Link → List Occurrence → Type 0
StandsPlace None None history = history ≡ []
StandsPlace None (Some l) history = ⊥
StandsPlace (Some kept) None history = ⊥
StandsPlace (Some kept) (Some l) history = StandsLink kept l history

-- a world of the code stands where a world of the model does, in which this came
pub record StandsWorld (kept : KeptWorld) (w : World) (came : List Came) : Type 0 where
  pub places : (n : ℕ) → StandsPlace (kept_at kept n) (link_at w n) (history_on n came)
  pub moment : kept.moment ≡ w.moment
  pub within : (n : ℕ) → is_link n ≡ false → link_at w n ≡ None

pub record RanSo (kept : KeptWorld) (plan : DrillPlan) (a : World × List Came) : Type 0 where
  pub plan_is : kept.plan ≡ plan
  pub stands : StandsWorld kept a.0 a.1
  -- no link is overfull
  pub room : overfull_of a.0 ≡ None

-- this world stands where these steps lead
unfoldable pub Ran : KeptWorld → DrillPlan → List Step → Type 0
Ran kept plan steps = RanSo kept plan (world_run plan steps)

-- a step was done behind these steps: where the world stands then, and the lines that were printed
pub record Applied (plan : DrillPlan) (before : List Step) (s : Step) (new : KeptWorld) (old_text new_text : List ℕ) : Type 0 where
  pub ran : Ran new plan (before ++ s ∷ [])
  pub none : fault_behind plan before s ≡ None
  pub printed : new_text ≡ old_text ++ step_lines plan before s

-- why a step wasn't done behind these steps: its fault there, or want of memory
abbrev pub IsFaultBehind : DrillPlan → List Step → Step → WorldFault → Type 0
IsFaultBehind plan before s (NoLink n) = fault_behind plan before s ≡ Some (NoLink n)
IsFaultBehind plan before s (LinkTwice n) = fault_behind plan before s ≡ Some (LinkTwice n)
IsFaultBehind plan before s (MomentBack was now) = fault_behind plan before s ≡ Some (MomentBack was now)
IsFaultBehind plan before s (Overfull n side most) = fault_behind plan before s ≡ Some (Overfull n side most)
IsFaultBehind plan before s (NoMemory want) = Unit {0}

-- a refused step leaves the world as it was; one that broke off leaves it spent
abbrev pub LeavesIt : WorldFault → KeptWorld → KeptWorld → Type 0
LeavesIt (NoLink n) old new = new ≡ old
LeavesIt (LinkTwice n) old new = new ≡ old
LeavesIt (MomentBack was now) old new = new ≡ old
LeavesIt (Overfull n side most) old new = new.spent ≡ true
LeavesIt (NoMemory want) old new = new.spent ≡ true
