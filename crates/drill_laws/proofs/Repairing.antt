-- A link of two stations recovers, as its pair does.
use Rattle.std.proofs.Common.{◌≡◌, ℕ, ◌+◌, ◌≤◌, max, Bool, true, List, ◌∷◌, ◌++◌, length, sym, ap, ap₂, subst, ◌∙◌, inl, inr, true≢false}
use Rattle.std.specs.Prelude.{is_some}
use Rattle.er_base.specs.declared.side.Side.TheVariants.{E, R}
use Rattle.pair_model.specs.Steps.{PairStep, NoFrameWaits, drained, pair_step, pair_run}
use Rattle.pair_model.specs.Steps as on_pair
use Rattle.pair_model.specs.Walks.{pair_run_append}
use Rattle.hdlc_pair_laws.specs.Links.{StationLink, station_kind, opened_station_link}
use Rattle.hdlc_pair_laws.specs.Laws.{StationLinkOpening, after}
use Rattle.hdlc_pair_laws.specs.Recovery as of_recovery
use Rattle.hdlc_pair_laws.specs.Recovery.{AreLive, IsRecovered, Recovery, DrainEmptiesLive, bound_of}
use Rattle.hdlc_station_model.specs.Repeating.{MayRepeat, passes_bound}
use Rattle.drill_model.specs.Outcomes.{Occurrence}
use Rattle.drill_model.specs.Links.{Link}
use Rattle.drill_model.specs.Worlds.{DrillPlan, Drain, drain}
use Rattle.drill_model.specs.Kinds.{sent_by}
use Rattle.drill_model.specs.Recovery.{IsLive, GoesOnAt, GoOn, NoneWaits, IsRepairable, drain_bound, DrainEmpties}
use Rattle.drill_model.specs.Claims.{IsConnectedEnd, HasAllPayloads}
use Rattle.drill_laws.specs.LawsOfEnds.{StationLaws}
use Rattle.drill_laws.proofs.Wiring.{Acts, Sees}
use Rattle.drill_laws.proofs.Wired.{full_at, drain_sees}
use Rattle.drill_laws.proofs.Stationed.{station_level, station_acts}
use Rattle.drill_laws.proofs.Given.{Given, run_through, none_waits}

-- ---- a link that is seen as a pair

live_pair : (selective : Bool) (l : Link) (history : List Occurrence) (p : StationLink) → Sees (station_level selective) l history p → IsRepairable history l → AreLive p
live_pair selective l history p v repairable = (subst IsLive v.e_is repairable.e_live, subst IsLive v.r_is repairable.r_live)

recovered : (selective : Bool) (l : Link) (history : List Occurrence) (p : StationLink) → Sees (station_level selective) l history p → IsRecovered p → HasAllPayloads history l
recovered selective l history p v r =
    record {
      e_up = subst IsConnectedEnd (sym v.e_is) r.e_up;
      r_up = subst IsConnectedEnd (sym v.r_is) r.r_up;
      at_r = v.accepted_r ∙ r.at_r ∙ sym v.sent_e;
      at_e = λ some. v.accepted_e ∙ r.at_e (subst (λ (xs : List (List ℕ)). 1 ≤ length xs) v.sent_e some) ∙ sym v.sent_r;
    }

module _ (laws : StationLaws) (l : Link) (history : List Occurrence) (s : StationLinkOpening) (steps : List PairStep) (v : Sees (station_level s.selective) l history (after s steps))
    (kept : (after s steps).order_kept ≡ true) (repairable : IsRepairable history l) where
  pub pair_drains : DrainEmptiesLive → (plan : DrillPlan) → s.window ≡ plan.settings.window → DrainEmpties plan history l
  pair_drains law plan window most enough roomy =
      let p : StationLink = after s steps in
      let acts : Acts (station_level s.selective) = station_acts laws s.selective in
      let same : drain_bound plan history l ≡ bound_of s p =
      ap (λ (n : ℕ). passes_bound n (length l.from_e + length l.from_r) (length (sent_by E history) + length (sent_by R history))) (sym window)
      ∙ ap₂ (λ (i j : ℕ). passes_bound s.window i j) (ap₂ (λ (xs ys : List (List ℕ)). length xs + length ys) v.from_e_is v.from_r_is)
      (ap₂ (λ (xs ys : List (List ℕ)). length xs + length ys) v.sent_e v.sent_r) in
      let d : Drain = drain most l in
      let there = drain_sees (station_level s.selective) acts most l history p v in
      elim (law s steps most kept (live_pair s.selective l history p v repairable) (subst (λ (n : ℕ). n ≤ most) same enough)) [
        | inl none ↦ (there.from_e_is ∙ none.0, there.from_r_is ∙ none.1)
        | inr full ↦
            absurd (true≢false (sym full ∙ full_at (station_level s.selective) acts d.link (history ++ d.came) (drained (station_kind s.selective) most p) there ∙ ap is_some roomy))
      ]

  -- behind passes and takes, a tick, and passes and takes
  pub pair_repairs : Recovery → (m k : Link) (begun all : List Occurrence) (a : Given (station_level s.selective) (after s steps) m begun) → NoneWaits m → (moment : ℕ) → GoOn moment m
      → Given (station_level s.selective) (pair_step (station_kind s.selective) (on_pair.Tick moment) (pair_run (station_kind s.selective) (after s steps) a.steps)) k all → NoneWaits k
      → HasAllPayloads all k
  pair_repairs law m k begun all a none moment go_on c none_later =
      let opened : StationLink = opened_station_link s.selective s.extended s.window s.n2 s.t1 s.moment in
      let q : StationLink = pair_run (station_kind s.selective) (after s steps) a.steps in
      let z : StationLink = pair_run (station_kind s.selective) (pair_step (station_kind s.selective) (on_pair.Tick moment) q) c.steps in
      let one : after s (steps ++ a.steps) ≡ q = pair_run_append (station_kind s.selective) steps a.steps opened in
      let whole : after s (steps ++ a.steps ++ on_pair.Tick moment ∷ c.steps) ≡ z = run_through (station_kind s.selective) opened steps a.steps c.steps (on_pair.Tick moment) in
      let same : max m.moment moment ≡ max q.moment moment = ap (λ (n : ℕ). max n moment) a.sees.moment_is in
      let may_e : MayRepeat (max q.moment moment) q.e.station =
      subst (λ (n : ℕ). MayRepeat n q.e.station) same (subst (GoesOnAt (max m.moment moment)) a.sees.e_is go_on.0) in
      let may_r : MayRepeat (max q.moment moment) q.r.station =
      subst (λ (n : ℕ). MayRepeat n q.r.station) same (subst (GoesOnAt (max m.moment moment)) a.sees.r_is go_on.1) in
      recovered s.selective k all z c.sees
      (subst IsRecovered whole
      (law s steps kept (live_pair s.selective l history (after s steps) v repairable) a.steps a.are
      (subst NoFrameWaits (sym one) (none_waits (station_level s.selective) m begun q a.sees none)) moment (subst (of_recovery.GoOn moment) (sym one) (may_e, may_r)) c.steps c.are
      (subst NoFrameWaits (sym whole) (none_waits (station_level s.selective) k all z c.sees none_later))))
