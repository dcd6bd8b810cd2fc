-- What is claimed of the world holds at every moment of the steps that are done, by the laws of every list of steps.
use Rattle.std.proofs.Common.{◌≡◌, ℕ, zero, suc, ◌+◌, inl, inr, List, [], ◌∷◌, ◌++◌, take, slice_get, Some, sym, subst, ap, ◌∙◌, arith}
use Rattle.std.proofs.lemmas.List.{take_all, take_more}
use Rattle.std.proofs.lemmas.Option.{slice_get_cases, slice_get_within, get_or_from_slice_get}
use Rattle.er_scenario.specs.declared.step.Step.{Step}
use Rattle.er_scenario.specs.declared.step.Step.TheVariants as does
use Rattle.er_settings.specs.Ranges.{AllAllowed}
use Rattle.drill_model.specs.Links.{LinkOpening, OfPair, OfStations, OfStacks, Link}
use Rattle.drill_model.specs.Steps.{AllFit}
use Rattle.drill_model.specs.Worlds.{DrillPlan, link_at, world_run}
use Rattle.drill_model.specs.Faults.{AllDone}
use Rattle.drill_model.specs.Kinds.{FramesHaveRoom}
use Rattle.drill_model.specs.Effects.{Steps}
use Rattle.drill_model.specs.Hearing.{HeardIsBrought, PayloadsAreBrought}
use Rattle.drill_model.specs.Opened.{LinksAreOpened, SettingsStay}
use Rattle.drill_model.specs.Sides.{EndsAnswer}
use Rattle.drill_model.specs.Claims.{TakesInOrder, OrderIsUnforged}
use Rattle.drill_model.specs.Headline.{Holds, FitsLevel, HoldsAlways}
use Rattle.drill_laws.specs.Laws.{LawfulAlways, OpensAlways, RoomAlways, FitsSteps, InOrderAlways, LosingLineReasonsAlways, DeliversAlways, RepairsAlways, DrainsAlways}
use Rattle.drill_laws.proofs.SettingsFit.{all_allowed, settings_fit}

-- one step more of a list
take_one_more : (steps : List Step) (k : ℕ) (s : Step) → slice_get steps k ≡ Some s → take (k + 1) steps ≡ take k steps ++ s ∷ []
take_one_more steps k s at =
    take_more steps k s (slice_get_within steps k s at) ∙ ap (λ (x : Step). take k steps ++ x ∷ []) (get_or_from_slice_get steps k s s at)

-- behind the steps that are done each link has room
room : RoomAlways → (plan : DrillPlan) (steps : List Step) (k : ℕ) → AllDone plan steps k → (n : ℕ) (l : Link)
    → link_at (world_run plan (take k steps)).0 n ≡ Some l → FramesHaveRoom l
room law plan steps zero done n l at = absurd (cc)
room law plan steps (suc k) done n l at =
    let plus : k + 1 ≡ suc k = omega arith in
    let At : List Step → Type 0 = λ first. link_at (world_run plan first).0 n ≡ Some l in
    elim (slice_get_cases steps k).1 [
      | inl here ↦
          let is : take (suc k) steps ≡ take k steps ++ here.0 ∷ [] = sym (ap (λ j. take j steps) plus) ∙ take_one_more steps k here.0 here.2 in
          law plan (take k steps) here.0 (done k here.0 (omega arith) here.2) n l (subst At is at)
      | inr past ↦
          let is : take (suc k) steps ≡ take k steps = take_all (suc k) steps (omega (arith, past.0)) ∙ sym (take_all k steps past.0) in
          room law plan steps k (λ j s lt next. done j s (omega (arith, lt)) next) n l (subst At is at)
    ]

-- the steps of a list are in their ranges
steps_fit : (steps : List Step) (opening : LinkOpening) → AllFit steps → FitsSteps steps opening
steps_fit steps (OfPair opening) all = tt
steps_fit steps (OfStations selective) all = tt
steps_fit steps (OfStacks engine rbc ke kr ra rb) all = all

-- so are those that come first
fit_before : (xs ys : List Step) → AllFit (xs ++ ys) → AllFit xs
fit_before [] ys all = tt
fit_before (x ∷ xs) ys all = (all.0, fit_before xs ys all.1)

first_fit : (steps : List Step) (k : ℕ) → AllFit steps → AllFit (take k steps)
first_fit steps zero all = tt
first_fit [] (suc k) all = tt
first_fit (s ∷ steps) (suc k) all = (all.0, first_fit steps k all.1)

abbrev OpenedAlways : Type 0
OpenedAlways = (plan : DrillPlan) (steps : List Step) → LinksAreOpened plan steps

abbrev SettingsAlways : Type 0
SettingsAlways = (plan : DrillPlan) (steps : List Step) → SettingsStay plan steps

abbrev PayloadsAlways : Type 0
PayloadsAlways = (plan : DrillPlan) (steps : List Step) → PayloadsAreBrought plan steps

abbrev EndsAlways : Type 0
EndsAlways = (plan : DrillPlan) (steps : List Step) → EndsAnswer plan steps

abbrev StepsAlways : Type 0
StepsAlways = (plan : DrillPlan) (steps : List Step) → Steps plan steps

abbrev HeardAlways : Type 0
HeardAlways = (plan : DrillPlan) (steps : List Step) → HeardIsBrought plan steps

abbrev TakesAlways : Type 0
TakesAlways = (plan : DrillPlan) (steps : List Step) → TakesInOrder plan steps

abbrev UnforgedAlways : Type 0
UnforgedAlways =
    (plan : DrillPlan) (steps : List Step) → AllFit steps → AllAllowed plan.settings → OrderIsUnforged plan steps

-- the laws of every list of steps
pub record Laws : Type 0 where
  pub opens : OpensAlways
  pub opened : OpenedAlways
  pub settings : SettingsAlways
  pub room : RoomAlways
  pub steps : StepsAlways
  pub lawful : LawfulAlways
  pub heard : HeardAlways
  pub arrived : PayloadsAlways
  pub ends : EndsAlways
  pub takes : TakesAlways
  pub in_order : InOrderAlways
  pub reasons : LosingLineReasonsAlways
  pub unforged : UnforgedAlways
  pub delivers : DeliversAlways
  pub repairs : RepairsAlways
  pub drains : DrainsAlways

-- behind steps, where each link has room
holds_behind : Laws → (plan : DrillPlan) (steps : List Step) → FitsLevel plan.level plan.settings → AllFit steps
    → ((n : ℕ) (l : Link) → link_at (world_run plan steps).0 n ≡ Some l → FramesHaveRoom l) → Holds plan steps
holds_behind laws plan steps fits all room = record {
  opens = laws.opens plan steps;
  opened = laws.opened plan steps;
  settings = laws.settings plan steps;
  steps = laws.steps plan steps;
  lawful = laws.lawful plan steps;
  heard = laws.heard plan steps;
  arrived = laws.arrived plan steps;
  ends = laws.ends plan steps;
  takes = laws.takes plan steps;
  in_order = λ n l at. laws.in_order plan steps n l at (settings_fit laws.opens plan steps fits n l at) (steps_fit steps l.opening all);
  reasons = λ n l at. laws.reasons plan steps n l at (settings_fit laws.opens plan steps fits n l at) (steps_fit steps l.opening all);
  unforged = laws.unforged plan steps all (all_allowed plan.level plan.settings fits);
  delivers = λ n l at. laws.delivers plan steps all n l at (settings_fit laws.opens plan steps fits n l at);
  room = room;
  recovers = record {
    drains = λ n l at. laws.drains plan steps n l at (settings_fit laws.opens plan steps fits n l at);
    repairs = λ before n first moment second split.
        let fit : AllFit before = fit_before before first (fit_before (before ++ first) (does.Tick moment ∷ second) (subst AllFit split all)) in
        laws.repairs plan before n first moment second (λ l at. (settings_fit laws.opens plan before fits n l at, steps_fit before l.opening fit));
  };
}

pub holds_always : Laws → HoldsAlways
holds_always laws plan steps count fits all done =
    holds_behind laws plan (take count steps) fits (first_fit steps count all) (room laws.room plan steps count done)
