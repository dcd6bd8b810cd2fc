-- A link of two stations that is loss-free so far delivers; and a drain as long as its bound leaves nothing waiting.
use Rattle.std.proofs.Common.{◌≡◌, ℕ, ◌==◌, ◌≤◌, Bool, true, List, [], length, sym, ap, ap₂, subst, ◌∙◌}
use Rattle.std.specs.List.{list_any}
use Rattle.er_base.specs.declared.side.Side.TheVariants.{E, R}
use Rattle.er_settings.specs.Values.{Settings}
use Rattle.er_settings.specs.Laws.{AreBounded}
use Rattle.hdlc_station_model.specs.declared.phase.Phase.TheVariants.{Up}
use Rattle.hdlc_station_model.specs.Stations.{Station}
use Rattle.pair_model.specs.Steps.{pair_run}
use Rattle.hdlc_pair_laws.specs.Links.{StationLink as Pair, station_kind}
use Rattle.hdlc_pair_laws.specs.Laws.{IsNarrow, StationLinkOpening, Delivery, DeliveryBound, DrainEmpties}
use Rattle.hdlc_pair_laws.specs.Laws as of_pair
use Rattle.safety_pair_laws.specs.Facts.{SideFact, MarkedFact, marked}
use Rattle.drill_model.specs.Outcomes.{Occurrence}
use Rattle.drill_model.specs.Ends.{EndAtLevel, OfStation}
use Rattle.drill_model.specs.Links.{Link, LinkOpening, OfStations}
use Rattle.hdlc_station_model.specs.Lines.{station_bound}
use Rattle.drill_model.specs.Kinds.{sent_by, deliveries, IsLossFree, bound}
use Rattle.drill_model.specs.Claims.{IsConnectedEnd, HasAllPayloads, IsEmpty, IsDelivered}
use Rattle.drill_model.specs.Claims as claim
use Rattle.drill_laws.specs.LawsOfEnds.{StationLaws}
use Rattle.drill_laws.proofs.Wired.{drain_sees}
use Rattle.drill_laws.proofs.Stationed.{station_level, station_acts, wired, IsWired}
use Rattle.drill_laws.proofs.Losing.{pair_opening, not_false}

-- ---- one link

module _ (laws : StationLaws) (delivers : Delivery) (deliveries_bound : DeliveryBound) (empties : DrainEmpties) (settings : Settings) (selective : Bool) (bounded : AreBounded settings)
    (narrow : IsNarrow selective (settings.modulo == 128) settings.window) (l : Link) (history : List Occurrence) (w : IsWired settings selective l history) where
  abbrev s : StationLinkOpening
  s = pair_opening settings selective w.moment bounded narrow

  abbrev p : Pair
  p = pair_run (station_kind selective) (wired settings selective w.moment) w.steps

  abbrev most : ℕ
  most = station_bound (length (sent_by E history)) (length (sent_by R history))

  most_is : most ≡ of_pair.bound p
  most_is = ap₂ (λ (xs ys : List (List ℕ)). station_bound (length xs) (length ys)) w.sees.sent_e w.sees.sent_r

  connected : (end : EndAtLevel) (t : Station) (stream : List ℕ) → end ≡ OfStation selective t stream → t.phase ≡ Up → IsConnectedEnd end
  connected end t stream is up = subst IsConnectedEnd (sym is) up

  all_payloads : p.loss_free ≡ true → (l.from_e ≡ []) × (l.from_r ≡ []) → HasAllPayloads history l
  all_payloads free empty =
      let v = w.sees in
      let d = delivers s w.steps free (sym v.from_e_is ∙ empty.0, sym v.from_r_is ∙ empty.1) in
      record {
        e_up = connected l.e p.e.station p.e.stream v.e_is d.0;
        r_up = connected l.r p.r.station p.r.stream v.r_is d.1;
        at_r = v.accepted_r ∙ d.2 ∙ sym v.sent_e;
        at_e = λ some. v.accepted_e ∙ d.3 (subst (λ (xs : List (List ℕ)). 1 ≤ length xs) v.sent_e some) ∙ sym v.sent_r;
      }

  pub wired_delivers : IsLossFree l.opening history → claim.Delivers settings history l
  wired_delivers loss_free =
      let v = w.sees in
      let free : p.loss_free ≡ true = not_false p.loss_free (sym v.free ∙ loss_free.undisturbed) in
      let is : l.opening ≡ OfStations selective = w.sees.opening_is in
      let same : bound settings l.opening history ≡ of_pair.bound p = ap (λ (o : LinkOpening). bound settings o history) is ∙ most_is in
      let D : LinkOpening → Type 0 = λ o. IsEmpty o history l → IsDelivered o history l in
      let done : D (OfStations selective) = λ empty. all_payloads free empty in
      record {
        unforged = ap (λ (fs : List SideFact). list_any (λ (m : MarkedFact). m.forged) (marked fs)) v.tells;
        bounded = subst (λ (n : ℕ). deliveries history ≤ n) (sym same) (subst (λ (n : ℕ). n ≤ of_pair.bound p) (sym v.count) (deliveries_bound s w.steps free));
        done = subst D (sym is) done;
        drains = λ roomy passes enough.
            let there = drain_sees (station_level selective) (station_acts laws selective) passes l history p v in
            let empty = empties s w.steps passes free (subst (λ (n : ℕ). n ≤ passes) same enough) in
            (there.from_e_is ∙ empty.0, there.from_r_is ∙ empty.1);
      }
