-- Each link of a world that is of two stations or of two stacks recovers.
use Rattle.std.proofs.Common.{◌≡◌, ◌≤◌, ◌⊎◌, Bool, inl, inr, ℕ, List, [], ◌∷◌, ◌++◌, refl, sym, subst}
use Rattle.std.specs.Prelude.{Option, Some}
use Rattle.er_settings.specs.Ranges.{AllAllowed}
use Rattle.er_settings.specs.Laws.{AllowedAreBounded}
use Rattle.er_scenario.specs.declared.step.Step.{Step}
use Rattle.er_scenario.specs.declared.step.Step.TheVariants as does
use Rattle.pair_model.specs.Steps.{pair_step, pair_run}
use Rattle.pair_model.specs.Steps as on_pair
use Rattle.hdlc_pair_laws.specs.Links.{StationOnLine, StationLink}
use Rattle.hdlc_pair_laws.specs.Laws.{StationLinkOpening, after}
use Rattle.hdlc_pair_laws.specs.Recovery.{Recovery, DrainEmptiesLive}
use Rattle.er_end_model.specs.Ends.{End}
use Rattle.er_end_pair_laws.specs.Links.{EndLink}
use Rattle.er_end_pair_laws.specs.Recovery as of_ends
use Rattle.drill_model.specs.Outcomes.{Occurrence}
use Rattle.drill_model.specs.Links.{Link, LinkOpening}
use Rattle.drill_model.specs.Steps.{AllFit}
use Rattle.drill_model.specs.Worlds.{DrillPlan, link_at, history_on, world_run}
use Rattle.drill_model.specs.Recovery.{IsLive, GoOn, NoneWaits, IsRepairable, AreStations, ArePassesAndTakes}
use Rattle.drill_laws.specs.Laws.{FitsSettings, FitsSteps, RepairsAlways, DrainsAlways}
use Rattle.drill_laws.specs.LawsOfEnds.{StackLaws, StationLaws}
use Rattle.drill_model.specs.Claims.{IsEmpty, IsDelivered}
use Rattle.drill_model.specs.Growth.{FactsGrow, HistoryGrows, HistoryOfOwn, HistoryOfOther, RunGrows}
use Rattle.drill_laws.proofs.Wiring.{Level, Acts}
use Rattle.drill_laws.proofs.Stationed.{station_level, station_acts, Either, IsWired}
use Rattle.drill_laws.proofs.Worlds.{AtPlace}
use Rattle.drill_laws.proofs.Talking.{Speaks, world_stands}
use Rattle.drill_laws.proofs.OneLink.{given, mended}
use Rattle.drill_laws.proofs.Losing.{kept_of, opening_at}
use Rattle.drill_laws.proofs.Taking.{empty_is_used_up}
use Rattle.drill_laws.proofs.Given.{Given, passes_kept, takes_kept, tick_kept}
use Rattle.drill_laws.proofs.Repairing.{pair_drains, pair_repairs}
use Rattle.drill_laws.proofs.Stacked.{Numbers, opening_of, stack_level, stack_acts, IsStacked}
use Rattle.drill_laws.proofs.StackLaws.{pair_of, stacked_at}
use Rattle.drill_laws.proofs.StackRepairing as of_stacks

module _ (laws : StationLaws) (bounds : AllowedAreBounded) (facts : FactsGrow) (grow : HistoryGrows) (own : HistoryOfOwn) (other : HistoryOfOther) where
  -- a link whose ends are live is a pair of stations, or one of stacks
  abbrev Kind : DrillPlan → Link → List Occurrence → Type 0
  Kind plan l history = ((selective : Bool) × IsWired plan.settings selective l history) ⊎ ((k : Numbers) × (l.opening ≡ opening_of k))

  kind_at : (plan : DrillPlan) (steps : List Step) (n : ℕ) (l : Link) → link_at (world_run plan steps).0 n ≡ Some l → IsLive l.e
      → Kind plan l (history_on n (world_run plan steps).1)
  kind_at plan steps n l is live =
      let at : Either plan.settings (Speaks facts) l (history_on n (world_run plan steps).1) =
      subst (λ (place : Option Link). AtPlace (Either plan.settings (Speaks facts)) place (history_on n (world_run plan steps).1)) is
      (world_stands laws facts grow own other plan steps n) in
      elim at [
        | inl speaks ↦
            elim speaks [
              | inl t ↦ absurd (subst IsLive t.e_is live)
              | inr t ↦ inr (record { engine = t.engine; rbc = t.rbc; ke = t.ke; kr = t.kr; ra = t.ra; rb = t.rb }, t.opening_is)
            ]
        | inr w ↦ inl w
      ]

  -- of two stations
  pub drains_always : DrainEmptiesLive → DrainsAlways
  drains_always law plan steps n l is fit stations repairable =
      let history : List Occurrence = history_on n (world_run plan steps).1 in
      elim (kind_at plan steps n l is repairable.e_live) [
        | inl w ↦
            let s : StationLinkOpening = opening_at bounds plan.settings w.0 l history w.1 fit w.1.moment in
            pair_drains laws l history s w.1.steps w.1.sees (kept_of plan.settings w.0 l history w.1 repairable.ordered) repairable law plan refl
        | inr t ↦ absurd (subst AreStations t.1 stations)
      ]

  module _ (runs : RunGrows) (plan : DrillPlan) (before : List Step) (n : ℕ) (first : List Step) (moment : ℕ) (second : List Step) (l m k : Link) where
    abbrev begun : List Step
    begun = before ++ first

    abbrev all : List Step
    all = before ++ first ++ does.Tick moment ∷ second

    abbrev came : List Step → List Occurrence
    came steps = history_on n (world_run plan steps).1

    module _ (is : link_at (world_run plan before).0 n ≡ Some l) (repairable : IsRepairable (came before) l) (are : ArePassesAndTakes n first)
        (there : link_at (world_run plan begun).0 n ≡ Some m) (none : NoneWaits m) (on : (world_run plan begun).0.moment ≤ moment) (go_on : GoOn moment m)
        (later : ArePassesAndTakes n second) (at_end : link_at (world_run plan all).0 n ≡ Some k) (empty : IsEmpty k.opening (came all) k) where
      stations_repair : Recovery → (selective : Bool) → IsWired plan.settings selective l (came before) → FitsSettings plan.settings l.opening → IsDelivered k.opening (came all) k
      stations_repair law selective w fit =
          let s : StationLinkOpening = opening_at bounds plan.settings selective l (came before) w fit w.moment in
          let p : StationLink = after s w.steps in
          let v : Level StationOnLine = station_level selective in
          let acts : Acts v = station_acts laws selective in
          let a : Given v p m (came begun) =
          given grow own other runs (Given v p) (passes_kept v acts p) (takes_kept v acts p) plan before first n l m is are there (record { steps = []; are = tt; sees = w.sees }) in
          let q : StationLink = pair_run v.kind p a.steps in
          let r : StationLink = pair_step v.kind (on_pair.Tick moment) q in
          let c : Given v r k (came all) =
          mended grow own other runs (Given v r) (passes_kept v acts r) (takes_kept v acts r) facts plan before first moment second n m k there on later at_end
          (tick_kept v acts m (came begun) q moment a.sees) in
          let waits : NoneWaits k = subst (λ (o : LinkOpening). IsEmpty o (came all) k) c.sees.opening_is empty in
          subst (λ (o : LinkOpening). IsDelivered o (came all) k) (sym c.sees.opening_is)
          (pair_repairs laws l (came before) s w.steps w.sees (kept_of plan.settings selective l (came before) w repairable.ordered) repairable law m k (came begun) (came all) a none
          moment go_on c waits)

      stacks_repair : StackLaws → of_ends.Recovery → (t : IsStacked plan.settings l (came before)) → AllAllowed plan.settings → IsDelivered k.opening (came all) k
      stacks_repair stacks law t allowed =
          let p : EndLink = pair_of plan.settings l (came before) t in
          let v : Level End = stack_level t.k in
          let acts : Acts v = stack_acts stacks.only stacks.calls t.k in
          let a : Given v p m (came begun) =
          given grow own other runs (Given v p) (passes_kept v acts p) (takes_kept v acts p) plan before first n l m is are there (record { steps = []; are = tt; sees = t.sees }) in
          let q : EndLink = pair_run v.kind p a.steps in
          let r : EndLink = pair_step v.kind (on_pair.Tick moment) q in
          let c : Given v r k (came all) =
          mended grow own other runs (Given v r) (passes_kept v acts r) (takes_kept v acts r) facts plan before first moment second n m k there on later at_end
          (tick_kept v acts m (came begun) q moment a.sees) in
          subst (λ (o : LinkOpening). IsDelivered o (came all) k) (sym c.sees.opening_is)
          (of_stacks.stacks_repair plan.settings l (came before) t allowed repairable law m k (came begun) (came all) a none moment go_on c
          (empty_is_used_up stacks.only stacks.calls stacks.opens grow own other plan all n k at_end empty))

  pub repairs_always : StackLaws → RunGrows → Recovery → of_ends.Recovery → RepairsAlways
  repairs_always stacks runs law ends_law plan before n first moment second fits l m k is repairable are there none on go_on later at_end empty =
      let fit : FitsSettings plan.settings l.opening × FitsSteps before l.opening = fits l is in
      elim (kind_at plan before n l is repairable.e_live) [
        | inl w ↦
            stations_repair runs plan before n first moment second l m k is repairable are there none on go_on later at_end empty law w.0 w.1 fit.0
        | inr t ↦
            let all_fit : AllFit before = subst (FitsSteps before) t.1 fit.1 in
            let allowed : AllAllowed plan.settings = subst (FitsSettings plan.settings) t.1 fit.0 in
            stacks_repair runs plan before n first moment second l m k is repairable are there none on go_on later at_end empty stacks ends_law
            (stacked_at stacks facts grow own other plan before all_fit n l is t.0 t.1) allowed
      ]
