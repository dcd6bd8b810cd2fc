-- Lemmas: a link of two stacks is two ends over two lines behind steps of their own, and the stream of each end is what was passed to it; its facts
-- are those of a talk of both safety sides, and have what each side accepted (this profile).
use Rattle.std.specs.Prelude.{ℕ, ◌≡◌, not, List, Option, Some}
use Rattle.er_base.specs.declared.side.Side.{Side}
use Rattle.er_base.specs.declared.side.Side.TheVariants.{E, R}
use Rattle.des_block.specs.declared.triple_key.TripleKey.{TripleKey}
use Rattle.er_settings.specs.Values.{Settings}
use Rattle.er_settings.specs.Ranges.{AllAllowed}
use Rattle.er_scenario.specs.declared.step.Step.{Step}
use Rattle.safety_pair_laws.specs.Openings.{PairOpening, OfKeys, key_for}
use Rattle.safety_pair_laws.specs.Talks.{Talks}
use Rattle.safety_pair_laws.specs.Deliveries.{accepted_of}
use Rattle.pair_model.specs.Steps.{PairStep}
use Rattle.er_end_pair_laws.specs.Openings.{EndLinkOpening}
use Rattle.er_end_pair_laws.specs.Steps as pair
use Rattle.er_end_pair_laws.specs.Laws.{end_link_after}
use Rattle.er_end_model.specs.Ends.{End}
use Rattle.drill_model.specs.Outcomes.{Occurrence, facts_in}
use Rattle.drill_model.specs.Ends.{OfStack}
use Rattle.drill_model.specs.Links.{Link, OfStacks}
use Rattle.drill_model.specs.Steps.{AllFit}
use Rattle.drill_model.specs.Worlds.{DrillPlan, link_at, history_on, world_run}
use Rattle.drill_model.specs.Kinds.{accepted_by, is_disordered}
use Rattle.drill_model.specs.Hearing.{passed_of}

-- a link with what came at it, and two ends that were opened with its settings and numbers, behind these steps
pub record IsPair (settings : Settings) (l : Link) (history : List Occurrence) : Type 0 where
  pub s : EndLinkOpening
  -- the radio block centre's KMAC
  pub kr : Option TripleKey
  pub steps : List PairStep
  pub fit : pair.AllFit steps
  pub settings_are : s.settings ≡ settings
  pub opening_is : l.opening ≡ OfStacks s.engine s.rbc s.kmac kr s.ra s.rb
  pub finds : (now engine rbc : ℕ) → s.finder now engine rbc ≡ key_for (OfKeys s.engine s.rbc s.kmac kr s.ra s.rb) engine rbc
  pub e_is : l.e ≡ OfStack (end_link_after s steps).e
  pub r_is : l.r ≡ OfStack (end_link_after s steps).r
  pub accepted_e : accepted_by E history ≡ (end_link_after s steps).e.core.upper.accepted
  pub accepted_r : accepted_by R history ≡ (end_link_after s steps).r.core.upper.accepted
  pub ordered : is_disordered history ≡ not (end_link_after s steps).order_kept
  pub stream_e : (end_link_after s steps).e.stream ≡ passed_of R history
  pub stream_r : (end_link_after s steps).r.stream ≡ passed_of E history

-- of each link of two stacks, where the settings are in their ranges and the numbers of the steps fit their fields
abbrev pub StacksRun : Type 0
StacksRun =
    (plan : DrillPlan) (steps : List Step) → AllFit steps → AllAllowed plan.settings → (n : ℕ) (l : Link) → link_at (world_run plan steps).0 n ≡ Some l
    → (engine rbc : ℕ) (ke : TripleKey) (kr : Option TripleKey) (ra rb : ℕ) → l.opening ≡ OfStacks engine rbc ke kr ra rb
    → IsPair plan.settings l (history_on n (world_run plan steps).1)

-- the ends of a link of stacks, and that their safety sides are two that talked and did what came at the link
pub record IsTalkOfStacks (opening : PairOpening) (l : Link) (history : List Occurrence) : Type 0 where
  pub e : End
  pub r : End
  pub e_is : l.e ≡ OfStack e
  pub r_is : l.r ≡ OfStack r
  pub talks : Talks opening (facts_in history) (record { e = e.core.safe.safety; r = r.core.safe.safety })

-- of each link of two stacks, whatever its line did
abbrev pub StacksTalk : Type 0
StacksTalk =
    (plan : DrillPlan) (steps : List Step) (n : ℕ) (l : Link) → link_at (world_run plan steps).0 n ≡ Some l
    → (engine rbc : ℕ) (ke : TripleKey) (kr : Option TripleKey) (ra rb : ℕ) → l.opening ≡ OfStacks engine rbc ke kr ra rb
    → IsTalkOfStacks (OfKeys engine rbc ke kr ra rb) l (history_on n (world_run plan steps).1)

-- what a side of such a link accepted stands in its facts, message by message
abbrev pub StacksAccept : Type 0
StacksAccept =
    (plan : DrillPlan) (steps : List Step) (n : ℕ) (l : Link) → link_at (world_run plan steps).0 n ≡ Some l
    → (engine rbc : ℕ) (ke : TripleKey) (kr : Option TripleKey) (ra rb : ℕ) → l.opening ≡ OfStacks engine rbc ke kr ra rb
    → (side : Side) → accepted_by side (history_on n (world_run plan steps).1) ≡ accepted_of side (facts_in (history_on n (world_run plan steps).1))
