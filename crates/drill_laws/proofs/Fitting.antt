-- Where the numbers of a list of steps fit their fields, so do those of the openings and of the link steps that it makes.
use Rattle.std.specs.Prelude.{ℕ, ◌<◌, ◌^◌, List, [], ◌∷◌, Option}
use Rattle.std.specs.List.{AllByRecursion}
use Rattle.des_block.specs.declared.triple_key.TripleKey.{TripleKey}
use Rattle.er_scenario.specs.declared.level.Level.{Level}
use Rattle.er_scenario.specs.declared.level.Level.TheVariants as level
use Rattle.er_scenario.specs.declared.step.Step.{Step}
use Rattle.er_scenario.specs.declared.step.Step.TheVariants as does
use Rattle.drill_model.specs.Growth.{FactsGrow}
use Rattle.drill_model.specs.Steps.{FitsFields, AllFit}
use Rattle.drill_model.specs.Worlds.{DrillPlan, fixed_opening, link_opening, wire_opening}
use Rattle.drill_laws.proofs.Viewing.{FitsLinkStep, FitsLinkOpening}
use Rattle.drill_laws.proofs.Worlds.{OpensFit, StepFits}

fixed_fits : (grow : FactsGrow) (l : Level) (engine rbc : ℕ) (ke kr : TripleKey) → engine < 2 ^ 24 → rbc < 2 ^ 24
    → OpensFit (FitsLinkOpening grow) (fixed_opening l engine rbc ke kr)
fixed_fits grow level.Safe engine rbc ke kr e r = (e, r)
fixed_fits grow _ engine rbc ke kr e r = tt

link_fits : (grow : FactsGrow) (l : Level) (engine rbc : ℕ) (ke : TripleKey) (kr : Option TripleKey) (ra rb : ℕ) → engine < 2 ^ 24 → rbc < 2 ^ 24 → ra < 2 ^ 64 → rb < 2 ^ 64
    → OpensFit (FitsLinkOpening grow) (link_opening l engine rbc ke kr ra rb)
link_fits grow level.Safe engine rbc ke kr ra rb e r a b = (e, r, a, b)
link_fits grow level.Link engine rbc ke kr ra rb e r a b = tt
link_fits grow level.LinkSr engine rbc ke kr ra rb e r a b = tt
link_fits grow level.Full engine rbc ke kr ra rb e r a b = (e, r, a, b)

wire_fits : (grow : FactsGrow) (l : Level) → OpensFit (FitsLinkOpening grow) (wire_opening l)
wire_fits grow level.Safe = tt
wire_fits grow level.Link = tt
wire_fits grow level.LinkSr = tt
wire_fits grow level.Full = tt

step_fits : (grow : FactsGrow) (plan : DrillPlan) (s : Step) → FitsFields s → StepFits (FitsLinkOpening grow) (FitsLinkStep grow) plan s
step_fits grow plan (does.Fixed n engine rbc ke kr) fit = fixed_fits grow plan.level engine rbc ke kr fit.0.0 fit.0.1
step_fits grow plan (does.Link n engine rbc ke kr ra rb) fit = link_fits grow plan.level engine rbc ke kr ra rb fit.0.0 fit.0.1 fit.1.0 fit.1.1
step_fits grow plan (does.Wire n) fit = wire_fits grow plan.level
step_fits grow plan (does.Send n s text) fit = fit.1
step_fits grow plan _ fit = tt

pub steps_fit : (grow : FactsGrow) (plan : DrillPlan) (steps : List Step) → AllFit steps → AllByRecursion (StepFits (FitsLinkOpening grow) (FitsLinkStep grow) plan) steps
steps_fit grow plan [] fit = tt
steps_fit grow plan (s ∷ steps) fit = (step_fits grow plan s fit.0, steps_fit grow plan steps fit.1)
