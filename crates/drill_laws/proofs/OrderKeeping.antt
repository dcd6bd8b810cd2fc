-- A link of a world that only loses and repeats, of two stations or of two stacks: what was accepted is a prefix of what was sent, and why an
-- end was released.
use Rattle.std.proofs.Common.{◌≡◌, inl, inr, ℕ, List, subst}
use Rattle.std.specs.Prelude.{Option, Some}
use Rattle.er_settings.specs.Ranges.{AllAllowed}
use Rattle.er_settings.specs.Laws.{AllowedAreBounded}
use Rattle.er_scenario.specs.declared.step.Step.{Step}
use Rattle.hdlc_pair_laws.specs.Laws.{Prefix, LosingLineReasons}
use Rattle.drill_model.specs.Outcomes.{Occurrence}
use Rattle.drill_model.specs.Links.{Link}
use Rattle.drill_model.specs.Steps.{AllFit}
use Rattle.drill_model.specs.Worlds.{DrillPlan, link_at, history_on, world_run}
use Rattle.drill_model.specs.Kinds.{IsNumbered, IsOrderKeeping}
use Rattle.drill_laws.specs.Laws.{FitsSettings, FitsSteps, InOrderAlways, LosingLineReasonsAlways}
use Rattle.drill_laws.specs.LawsOfEnds.{StackLaws, StationLaws}
use Rattle.drill_model.specs.Growth.{FactsGrow, HistoryGrows, HistoryOfOwn, HistoryOfOther}
use Rattle.drill_laws.proofs.Stationed.{Either}
use Rattle.drill_laws.proofs.Worlds.{AtPlace}
use Rattle.drill_laws.proofs.StackTalking.{IsStackTalk}
use Rattle.drill_laws.proofs.Talking.{IsTalk, Speaks, world_stands}
use Rattle.drill_laws.proofs.Losing.{wired_in_order, wired_reasons}
use Rattle.drill_laws.proofs.Stacked.{Numbers, IsStacked}
use Rattle.drill_laws.proofs.StackLaws.{stacked_in_order, stacked_reasons, stacked_at}

-- two sides of a safe connection aren't order-keeping
not_numbered : (l : Link) (history : List Occurrence) → IsTalk l history → IsOrderKeeping l.opening history → ⊥
not_numbered l history t keeping = subst IsNumbered t.opening_is keeping.numbered

abbrev numbers_of : (l : Link) (history : List Occurrence) → IsStackTalk l history → Numbers
numbers_of l history t = record { engine = t.engine; rbc = t.rbc; ke = t.ke; kr = t.kr; ra = t.ra; rb = t.rb }

module _ (laws : StationLaws) (stacks : StackLaws) (bounds : AllowedAreBounded) (facts : FactsGrow) (grow : HistoryGrows) (own : HistoryOfOwn) (other : HistoryOfOther) where
  stands_at : (plan : DrillPlan) (steps : List Step) (n : ℕ) (l : Link) → link_at (world_run plan steps).0 n ≡ Some l
      → Either plan.settings (Speaks facts) l (history_on n (world_run plan steps).1)
  stands_at plan steps n l is =
      subst (λ (place : Option Link). AtPlace (Either plan.settings (Speaks facts)) place (history_on n (world_run plan steps).1)) is
      (world_stands laws facts grow own other plan steps n)

  stack_at : (plan : DrillPlan) (steps : List Step) (n : ℕ) (l : Link) → link_at (world_run plan steps).0 n ≡ Some l
      → (t : IsStackTalk l (history_on n (world_run plan steps).1)) → FitsSteps steps l.opening → IsStacked plan.settings l (history_on n (world_run plan steps).1)
  stack_at plan steps n l is t fit =
      let all : AllFit steps = subst (FitsSteps steps) t.opening_is fit in
      stacked_at stacks facts grow own other plan steps all n l is (numbers_of l (history_on n (world_run plan steps).1) t) t.opening_is

  allowed_at : (plan : DrillPlan) (l : Link) (history : List Occurrence) → IsStackTalk l history → FitsSettings plan.settings l.opening → AllAllowed plan.settings
  allowed_at plan l history t fit = subst (FitsSettings plan.settings) t.opening_is fit

  pub in_order_always : Prefix → InOrderAlways
  in_order_always law plan steps n l is fit steps_fit keeping =
      let history : List Occurrence = history_on n (world_run plan steps).1 in
      elim (stands_at plan steps n l is) [
        | inl speaks ↦
            elim speaks [
              | inl t ↦ absurd (not_numbered l history t keeping)
              | inr t ↦ stacked_in_order plan.settings l history (stack_at plan steps n l is t steps_fit) (allowed_at plan l history t fit) stacks.prefix keeping
            ]
        | inr w ↦ wired_in_order law bounds plan.settings w.0 l history w.1 fit keeping
      ]

  pub reasons_always : LosingLineReasons → LosingLineReasonsAlways
  reasons_always law plan steps n l is fit steps_fit keeping =
      let history : List Occurrence = history_on n (world_run plan steps).1 in
      elim (stands_at plan steps n l is) [
        | inl speaks ↦
            elim speaks [
              | inl t ↦ absurd (not_numbered l history t keeping)
              | inr t ↦ stacked_reasons plan.settings l history (stack_at plan steps n l is t steps_fit) (allowed_at plan l history t fit) stacks.reasons keeping
            ]
        | inr w ↦ wired_reasons law bounds plan.settings w.0 l history w.1 fit keeping
      ]
