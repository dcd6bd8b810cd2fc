-- Settings in the ranges of a level fit the links of that level.
use Rattle.std.proofs.Common.{◌≡◌, ℕ, ◌==◌, ◌&&◌, inl, inr, List, [], ◌∷◌, Option, Some, None, sym, subst, ap, ◌∙◌}
use Rattle.std.specs.Option.{option_map}
use Rattle.std.proofs.lemmas.Bool.{cases_Bool}
use Rattle.des_block.specs.declared.triple_key.TripleKey.{TripleKey}
use Rattle.er_scenario.specs.declared.level.Level.{Level}
use Rattle.er_scenario.specs.declared.level.Level.TheVariants as level
use Rattle.er_scenario.specs.declared.step.Step.{Step}
use Rattle.er_scenario.specs.declared.step.Step.TheVariants as does
use Rattle.er_settings.specs.Values.{Settings}
use Rattle.er_settings.specs.Ranges.{AllAllowed}
use Rattle.drill_model.specs.Links.{LinkOpening, Link}
use Rattle.drill_model.specs.Worlds.{DrillPlan, is_link, link_at, fixed_opening, link_opening, wire_opening, world_run}
use Rattle.drill_model.specs.Headline.{FitsLevel}
use Rattle.drill_laws.specs.Laws.{OpensAlways, FitsSettings}
use Rattle.drill_model.specs.Opened.{opening_by, or_opening, opening_of}
use Rattle.drill_laws.proofs.Openings.{opening_where_link_named, fixed_line, link_line, wire_line}

-- where there is an opening, the settings fit it
abbrev Fit : Settings → Option LinkOpening → Type 0
Fit settings None = Unit {0}
Fit settings (Some opening) = FitsSettings settings opening

-- they are in their ranges
pub all_allowed : (l : Level) (settings : Settings) → FitsLevel l settings → AllAllowed settings
all_allowed level.LinkSr settings fits = fits.0
all_allowed _ settings fits = fits

fixed_fit : (l : Level) (settings : Settings) (engine rbc : ℕ) (ke kr : TripleKey) → Fit settings (fixed_opening l engine rbc ke kr)
fixed_fit level.Safe settings engine rbc ke kr = tt
fixed_fit level.Link settings engine rbc ke kr = tt
fixed_fit level.Full settings engine rbc ke kr = tt
fixed_fit level.LinkSr settings engine rbc ke kr = tt

link_fit : (l : Level) (settings : Settings) (engine rbc : ℕ) (ke : TripleKey) (kr : Option TripleKey) (ra rb : ℕ) → AllAllowed settings
    → Fit settings (link_opening l engine rbc ke kr ra rb)
link_fit level.Full settings engine rbc ke kr ra rb allowed = allowed
link_fit _ settings engine rbc ke kr ra rb allowed = tt

wire_fit : (l : Level) (settings : Settings) → FitsLevel l settings → Fit settings (wire_opening l)
wire_fit level.Safe settings fits = tt
wire_fit level.Link settings fits = fits
wire_fit level.Full settings fits = tt
wire_fit level.LinkSr settings fits = fits

named_fit : (settings : Settings) (n m : ℕ) (opening : Option LinkOpening) → Fit settings opening → Fit settings (opening_where_link_named n m opening)
named_fit settings n m opening fit =
    elim (cases_Bool ((m == n) && is_link m)) [
      | inl t ↦ rw t fit
      | inr f ↦ rw f tt
    ]

step_fit : (plan : DrillPlan) (n : ℕ) (s : Step) → FitsLevel plan.level plan.settings → Fit plan.settings (opening_by plan n s)
step_fit plan n (does.Fixed m engine rbc ke kr) fits =
    subst (Fit plan.settings) (sym (fixed_line plan.level n m engine rbc ke kr))
    (named_fit plan.settings n m (fixed_opening plan.level engine rbc ke kr) (fixed_fit plan.level plan.settings engine rbc ke kr))
step_fit plan n (does.Link m engine rbc ke kr ra rb) fits =
    subst (Fit plan.settings) (sym (link_line plan.level n m engine rbc ke kr ra rb))
    (named_fit plan.settings n m (link_opening plan.level engine rbc ke kr ra rb) (link_fit plan.level plan.settings engine rbc ke kr ra rb (all_allowed plan.level plan.settings fits)))
step_fit plan n (does.Wire m) fits =
    subst (Fit plan.settings) (sym (wire_line plan.level n m)) (named_fit plan.settings n m (wire_opening plan.level) (wire_fit plan.level plan.settings fits))
step_fit plan n _ fits = tt

either_fit : (settings : Settings) (first later : Option LinkOpening) → Fit settings first → Fit settings later → Fit settings (or_opening first later)
either_fit settings None later of_first of_later = of_later
either_fit settings (Some opening) later of_first of_later = of_first

steps_fit : (plan : DrillPlan) (n : ℕ) (steps : List Step) → FitsLevel plan.level plan.settings → Fit plan.settings (opening_of plan n steps)
steps_fit plan n [] fits = tt
steps_fit plan n (s ∷ steps) fits =
    either_fit plan.settings (opening_by plan n s) (opening_of plan n steps) (step_fit plan n s fits) (steps_fit plan n steps fits)

-- of each link that was opened
pub settings_fit : OpensAlways → (plan : DrillPlan) (steps : List Step) → FitsLevel plan.level plan.settings
    → (n : ℕ) (l : Link) → link_at (world_run plan steps).0 n ≡ Some l → FitsSettings plan.settings l.opening
settings_fit opens plan steps fits n l at =
    subst (Fit plan.settings) (sym (opens plan steps n) ∙ ap (option_map (λ (x : Link). x.opening)) at) (steps_fit plan n steps fits)
