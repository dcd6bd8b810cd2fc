-- What the laws of an audit find of a tapped link stands in its text (this profile).
use Rattle.std.specs.Prelude.{ℕ, ◌≡◌, Bool, List, ◌++◌, Some}
use Rattle.er_base.specs.declared.side.Side.{Side}
use Rattle.er_base.specs.declared.side.Side.TheVariants.{E, R}
use Rattle.er_settings.specs.Ranges.{AllAllowed}
use Rattle.er_scenario.specs.declared.step.Step.{Step}
use Rattle.er_tap.specs.declared.tap_line.TapLine.{TapLine}
use Rattle.er_tap.specs.Ranges.{AreInRange}
use Rattle.er_end_model.specs.Steps.{Finds}
use Rattle.safety_automaton.specs.Keys.{KmacEntry, key_at}
use Rattle.drill_model.specs.Outcomes.{Occurrence}
use Rattle.drill_model.specs.Links.{Link}
use Rattle.drill_model.specs.Steps.{AllFit}
use Rattle.drill_model.specs.Worlds.{DrillPlan, link_at, history_on, world_run}
use Rattle.drill_model.specs.Kinds.{IsOrderKeeping}
use Rattle.tap_model.specs.Lines.{TapOpening, tap_opening_of_link}
use Rattle.tap_model.specs.Texts.{side_text, judged_at}
use Rattle.tap_model.specs.EndTexts.{text_of_audit}
use Rattle.tap_laws.specs.Worlds.{IsTapped, opened_as, FindsGood}

-- a text has another in it
pub record HasPart (part text : List ℕ) : Type 0 where
  pub before : List ℕ
  pub behind : List ℕ
  pub text_is : text ≡ before ++ (part ++ behind)

-- the text of an audit, with the lines of ends and without, has the lines of each side of each link that the tap opens: a line for each of the items
-- with their verdicts of which the laws of audits speak. It refuses an audit that prints one list of items and judges another
abbrev pub SidesAreInText : Type 0
SidesAreInText =
    (ends : Bool) (finds : Finds) (lines : List TapLine) → AreInRange lines → (n : ℕ) (o : TapOpening) → tap_opening_of_link n lines ≡ Some o → (side : Side)
    → HasPart (side_text n side (judged_at finds n o lines side)) (text_of_audit ends finds lines)

-- what both ends of a tapped link accepted is found good in the lines of its sides, and these are printed
pub record TextFindsGood (ends : Bool) (keys : List KmacEntry) (lines : List TapLine) (m : ℕ) (o : TapOpening) (l : Link) (history : List Occurrence) : Type 0
  where
    pub finds : FindsGood keys lines m o l history
    pub of_e : HasPart (side_text m E (judged_at (key_at keys) m o lines E)) (text_of_audit ends (key_at keys) lines)
    pub of_r : HasPart (side_text m R (judged_at (key_at keys) m o lines R)) (text_of_audit ends (key_at keys) lines)

-- for every list of steps whose numbers fit, of each link that is order-keeping so far, and for every tap and key file of it
abbrev pub TextFindsAccepted : Type 0
TextFindsAccepted =
    (plan : DrillPlan) (steps : List Step) → AllFit steps → AllAllowed plan.settings → plan.settings.modulo ≡ 8
    → (n : ℕ) (l : Link) → link_at (world_run plan steps).0 n ≡ Some l → IsOrderKeeping l.opening (history_on n (world_run plan steps).1)
    → (ends : Bool) (keys : List KmacEntry) (lines : List TapLine) → AreInRange lines → (m : ℕ)
    → (t : IsTapped keys lines m l (history_on n (world_run plan steps).1))
    → TextFindsGood ends keys lines m (opened_as keys lines m l (history_on n (world_run plan steps).1) t) l (history_on n (world_run plan steps).1)
