-- The law of gaps from any quiet moment on: nothing is unacknowledged there, and nothing is held or asked for, so all is as on a line that lost nothing.
use Rattle.std.proofs.Common.{◌≡◌, ℕ, ◌≤◌, inl, inr, Bool, true, false, List, [], ◌∷◌, ◌++◌, length, refl, sym, ◌∙◌, ap, subst, arith, true≢false}
use Rattle.er_base.specs.declared.side.Side.{Side}
use Rattle.er_base.specs.declared.side.Side.TheVariants.{E, R}
use Rattle.er_base.specs.Sides.{other}
use Rattle.hdlc_station_model.specs.declared.phase.Phase.TheVariants.{Up}
use Rattle.hdlc_station_model.specs.Frames.{Frame}
use Rattle.hdlc_station_model.specs.Stations.{Station, is_down}
use Rattle.pair_model.specs.Links.{end_of_side}
use Rattle.pair_model.specs.Steps.{PairStep, Lose, pair_run, NoFrameWaits}
use Rattle.pair_model.specs.Walks.{pair_run_append}
use Rattle.hdlc_pair_laws.specs.Links.{StationLink, station_kind}
use Rattle.hdlc_pair_laws.specs.Laws.{StationLinkOpening, after}
use Rattle.hdlc_pair_laws.specs.Invariant.{HoldsOutOfOrderPayloads, IsStationPair, reach}
use Rattle.hdlc_pair_laws.specs.Flowing.{one_if, Shape}
use Rattle.hdlc_pair_laws.specs.Recovery.{AreLive}
use Rattle.hdlc_pair_laws.specs.EachEnd.{IsMadeGood}
use Rattle.hdlc_pair_laws.specs.FillingAgain.{IsQuiet, MarksNoGap, after_anew, GapsAreFilledAgain}
use Rattle.hdlc_pair_laws.specs.Mending.{Own, Rested}
use Rattle.hdlc_pair_laws.proofs.Ways.{forward_le, way_bounds}
use Rattle.hdlc_pair_laws.proofs.Lines.{none_on_line}
use Rattle.hdlc_pair_laws.proofs.Acts.{Frames}
use Rattle.hdlc_pair_laws.proofs.Sounds.{Sounds}
use Rattle.hdlc_pair_laws.proofs.SoundRuns.{Sound, after_sound}
use Rattle.hdlc_pair_laws.proofs.Ticks.{called_phase, both_phases, timed_up, timed_setting}
use Rattle.hdlc_pair_laws.proofs.Calm.{Calm, CalmAt, IsCalm, run_calm}
use Rattle.hdlc_pair_laws.proofs.Filled.{filled_behind}
use Rattle.hdlc_pair_laws.proofs.Ahead.{AreAhead, IsAhead, ahead_none, after_ahead}

-- ---- where all that was sent is taken, nothing is held and nothing was asked for

record Bare (selective : Bool) (y : Station) : Type 0 where
  held : y.held ≡ []
  asked : selective ≡ true → y.asked ≡ []

all_taken : (selective : Bool) (k : ℕ) (handed : List (List ℕ)) (sent : ℕ) (y : Station) (waits : List (ℕ × List ℕ)) → HoldsOutOfOrderPayloads selective k handed sent (length y.taken) y.held waits
    → (selective ≡ true → IsAhead y) → length y.taken ≡ sent → Bare selective y
all_taken true k handed sent y waits h ahead all =
    let le = forward_le k (reach (length y.taken) y.held) sent handed waits h.chain in
    let none = ahead_none y (ahead refl) (omega (arith, le, all)) in
    record { held = none.0; asked = λ is. none.1 }
all_taken false k handed sent y waits h ahead all = record { held = h; asked = λ is. absurd (true≢false (sym is)) }

calm_of : (selective : Bool) (y : Station) → Bare selective y → MarksNoGap selective y → IsCalm selective y
calm_of true y h marks = h.asked refl
calm_of false y h marks = marks

calm_at : (side : Side) (selective : Bool) (e r : Station) → (side ≡ E → IsCalm selective r) → (side ≡ R → IsCalm selective e) → CalmAt (other side) selective e r
calm_at E selective e r to_r to_e = to_r refl
calm_at R selective e r to_r to_e = to_e refl

-- ---- both are up, and nothing waits

quiet_shape : (selective : Bool) (k wd : ℕ) (e r : Station) → 1 ≤ wd → IsStationPair selective k [] e [] r → Own true wd [] e → Own false wd [] r → Rested e → Rested r → e.phase ≡ Up → r.phase ≡ Up
    → e.acked ≡ e.sent → r.acked ≡ r.sent → e.held ≡ [] → r.held ≡ [] → Shape 0 [] e [] r
quiet_shape selective k wd e r some p own_e own_r rests_e rests_r up_e up_r all_e all_r held_e held_r =
    let be = way_bounds k e.handed e.acked e.sent r.taken [] [] p.0.0 in
    let br = way_bounds k r.handed r.acked r.sent e.taken [] [] p.1.0 in
    let owes_e : e.owed ≡ false = rests_e.1 (ap is_down up_e) in
    let owes_r : r.owed ≡ false = rests_r.1 (ap is_down up_r) in
    let none_e : one_if e.owed ≡ 0 = ap one_if owes_e in
    let none_r : one_if r.owed ≡ 0 = ap one_if owes_r in
    inr (inr (
      (
        (up_e, own_e.2, omega (arith, be.0, be.1, all_e), λ owes. omega (arith, be.0, be.1, all_e), own_e.0, subst (λ (n : ℕ). 1 ≤ n) (sym own_e.1) some, held_e),
        (up_r, own_r.2, omega (arith, br.0, br.1, all_r), λ owes. omega (arith, br.0, br.1, all_r), own_r.0, subst (λ (n : ℕ). 1 ≤ n) (sym own_r.1) some, held_r),
        tt,
        tt,
        omega (arith, none_e, none_r),
        record { own = λ owed. absurd (true≢false (sym owed ∙ owes_e)); peers = λ owed. absurd (true≢false (sym owed ∙ owes_r)) },
      ),
      (owes_e, rests_e.0),
      (owes_r, rests_r.0),
    ))

quiet_calm : Frames → (s : StationLinkOpening) (steps : List PairStep) → (after s steps).order_kept ≡ true → AreLive (after s steps) → IsQuiet (after s steps)
    → (side : Side) → MarksNoGap s.selective (end_of_side (after s steps) (other side)).station → Sounds s.selective s.window (Calm (other side)) (record (after s steps) { loss_free = true })
quiet_calm laws s steps kept live quiet side marks =
    let b : Bool = s.selective in
    let wd : ℕ = s.window in
    let l : StationLink = after s steps in
    let e : Station = l.e.station in
    let r : Station = l.r.station in
    let h : Sound b wd l = after_sound laws s steps kept in
    let ne : h.fe ≡ [] = none_on_line e h.fe (sym quiet.0.0 ∙ h.stands.lined_x) in
    let nr : h.fr ≡ [] = none_on_line r h.fr (sym quiet.0.1 ∙ h.stands.lined_y) in
    let called = called_phase r.phase r.calling r.sent live.1 h.own_r.0 h.stands.pair.1.2 in
    let up : (e.phase ≡ Up) × (r.phase ≡ Up) = elim (both_phases e.phase r.phase live.0 h.begun h.first called) [
      | inl both ↦ both
      | inr early ↦ absurd (timed_setting e true wd h.fe early.0 h.own_e quiet.1)
    ] in
    let all_e : e.acked ≡ e.sent = timed_up e true wd h.fe up.0 h.own_e quiet.1 in
    let all_r : r.acked ≡ r.sent = timed_up r false wd h.fr up.1 h.own_r quiet.2 in
    let p = subst (λ (t : List Frame). IsStationPair b h.k t e [] r) ne (subst (λ (t : List Frame). IsStationPair b h.k h.fe e t r) nr h.stands.pair) in
    let be = way_bounds h.k e.handed e.acked e.sent r.taken [] [] p.0.0 in
    let br = way_bounds h.k r.handed r.acked r.sent e.taken [] [] p.1.0 in
    let ahead : b ≡ true → AreAhead l = after_ahead s steps in
    let bare_r : Bare b r = all_taken b h.k e.handed e.sent r [] p.0.6 (λ is. (ahead is).1) (omega (arith, be.0, be.1, all_e)) in
    let bare_e : Bare b e = all_taken b h.k r.handed r.sent e [] p.1.6 (λ is. (ahead is).0) (omega (arith, br.0, br.1, all_r)) in
    let shape : Shape 0 [] e [] r = quiet_shape b h.k wd e r s.some p (subst (λ (t : List Frame). Own true wd t e) ne h.own_e) (subst (λ (t : List Frame). Own false wd t r) nr h.own_r) h.rests_e h.rests_r
    up.0 up.1 all_e all_r bare_e.held bare_r.held in
    record {
      k = h.k;
      fe = h.fe;
      fr = h.fr;
      stands = h.stands;
      own_e = h.own_e;
      own_r = h.own_r;
      rests_e = h.rests_e;
      rests_r = h.rests_r;
      first = h.first;
      wide = h.wide;
      begun = h.begun;
      claim = (
        0,
        (
          subst (λ (t : List Frame). Shape 0 t e h.fr r) (sym ne) (subst (λ (t : List Frame). Shape 0 [] e t r) (sym nr) shape),
          calm_at side b e r (λ is. calm_of b r bare_r (subst (λ (v : Side). MarksNoGap b (end_of_side l (other v)).station) is marks))
              (λ is. calm_of b e bare_e (subst (λ (v : Side). MarksNoGap b (end_of_side l (other v)).station) is marks)),
        ),
      );
    }

pub gaps_are_filled_again : Frames → GapsAreFilledAgain
gaps_are_filled_again laws s steps kept live quiet side marks more free two passes are end =
    let b : Bool = s.selective in
    let anew : StationLink = record (after s steps) { loss_free = true } in
    let l : StationLink = after_anew s steps more in
    let split : after_anew s steps (more ++ Lose side ∷ passes) ≡ pair_run (station_kind b) l (Lose side ∷ passes) = pair_run_append (station_kind b) more (Lose side ∷ passes) anew in
    subst IsMadeGood (sym split)
    (filled_behind laws b s.window side l s.some (run_calm laws (other side) b s.window more anew (quiet_calm laws s steps kept live quiet side marks) free) two passes are (subst NoFrameWaits split end))
