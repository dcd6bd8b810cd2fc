-- A moment comes to one of two stations that are up, between lines that are empty or not: where it finds T1 expired, all that the station sends comes,
-- whatever the other one lost. Everywhere x acts and y doesn't, and w waited from x before the call.
use Rattle.std.proofs.Common.{if◌then◌else◌, ◌≡◌, ℕ, ◌<◌, ◌≤◌, ◌⊎◌, inl, inr, max, Bool, true, false, List, [], ◌++◌, length, Option, None, refl, sym, ◌∙◌, ap, subst, arith, true≢false}
use Rattle.std.proofs.lemmas.Bool.{cases_Bool}
use Rattle.hdlc_station_model.specs.declared.phase.Phase.{Phase}
use Rattle.hdlc_station_model.specs.declared.phase.Phase.TheVariants.{Idle, Up}
use Rattle.hdlc_station_model.specs.Frames.{Frame}
use Rattle.hdlc_station_model.specs.Stations.{Station, is_down, sees}
use Rattle.hdlc_station_model.specs.Sending.{waiting, sends_up_to, sends_waiting, sends_again, starts_timer, counts_expiry, expires_at, expires_if_due, is_due}
use Rattle.hdlc_station_model.specs.Calls.{ticks}
use Rattle.hdlc_station_model.specs.Events.{is_late}
use Rattle.hdlc_pair_laws.specs.Invariant.{IsStationPair, Both, infos, receive_numbers_in_frames}
use Rattle.hdlc_pair_laws.specs.Flowing.{HasNoPayloadToSend}
use Rattle.hdlc_pair_laws.specs.EachEnd.{HasExpiryLeft}
use Rattle.hdlc_pair_laws.specs.Mending.{Timed, Own, Shows, MendsSome}
use Rattle.hdlc_pair_laws.proofs.Ways.{way_bounds}
use Rattle.hdlc_pair_laws.proofs.Flows.{not_due}
use Rattle.hdlc_pair_laws.proofs.LossFree.{unsent}
use Rattle.hdlc_pair_laws.proofs.Mending.{MendsSomeIn, waiting_some, sends_again_mends}
use Rattle.hdlc_pair_laws.proofs.Repeats.{ticked, up_expires, up_fires}
use Rattle.hdlc_pair_laws.proofs.Ticks.{fires_toward, timed_up}

-- of a moment that doesn't find T1 expired nothing comes
rests_send : (x : Station) → HasNoPayloadToSend x → sends_waiting x ≡ x
rests_send x (inl cannot) = unsent x cannot
rests_send x (inr all) = let none : waiting x ≡ 0 = omega (arith, all) in ap (λ (n : ℕ). sends_up_to n x) none

rests_ticks : (now : ℕ) (x : Station) → x.phase ≡ Up → is_late now x ≡ false → HasNoPayloadToSend x → ticks now x ≡ sees now x
rests_ticks now x up timely rests =
    ap (λ (b : Bool). if b then x else sends_waiting (expires_if_due (sees now x))) (ap is_down up) ∙ ap sends_waiting (not_due now x timely) ∙ rests_send (sees now x) rests

pub none_late : (now : ℕ) (x : Station) → x.timer ≡ None → is_late now x ≡ false
none_late now x none = ap (λ (o : Option ℕ). is_due o (max x.moment now)) none

-- where T1 expires all is sent again, and each N(R) is V(R)
pub up_ticks : (c : Bool) (wd : ℕ) (w : List Frame) (now : ℕ) (x : Station) → w ≡ [] → x.said ≡ [] → x.phase ≡ Up → x.acked ≤ x.sent → Own c wd w x → HasNoPayloadToSend x → HasExpiryLeft now x
    → Shows (w ++ (ticks now x).said) (ticks now x)
up_ticks c wd w now x nw quiet up low own rests left = elim (cases_Bool (is_late now x)) [
  | inl late ↦
      let t : Station = ticks now x in
      let f = up_fires now x up quiet low (timed_up x c wd w up own) (inr (late, left late)) in
      subst (λ (l : List Frame). Shows (l ++ t.said) t) (sym nw) (f.1, f.2, f.3)
  | inr timely ↦
      subst (λ (t : Station). Shows (w ++ t.said) t) (sym (rests_ticks now x up timely rests))
      (subst (λ (l : List Frame). Shows (l ++ x.said) x) (sym nw) (subst (λ (l : List Frame). Shows l x) (sym quiet) (tt, tt, up)))
]

-- so all that it sent comes, whatever the other one sent
pub late_mends : (selective c : Bool) (k wd : ℕ) (w : List Frame) (now : ℕ) (x : Station) (l : List Frame) (y : Station) → w ≡ [] → x.said ≡ [] → IsStationPair selective k w x l y
    → Both selective k w (ticks now x) l y → Own c wd w x → x.phase ≡ Up → Shows l y → is_late now x ≡ true → x.expiries < x.n2
    → MendsSomeIn selective true false w (ticks now x) l y
late_mends selective c k wd w now x l y nw quiet p b own up shows late less =
    let t : Station = ticks now x in
    let before = way_bounds k x.handed x.acked x.sent y.taken (infos w) (receive_numbers_in_frames l) p.0.0 in
    let after_it = way_bounds k t.handed t.acked t.sent y.taken (infos (w ++ t.said)) (receive_numbers_in_frames l) b.0.0 in
    let low : x.acked ≤ x.sent = omega (arith, before.0, before.1) in
    let f = up_fires now x up quiet low (timed_up x c wd w up own) (inr (late, less)) in
    let all = fires_toward selective (infos t.said) (receive_numbers_in_frames l) t y after_it.0 after_it.1 f.0 shows.0 in
    subst (λ (v : List Frame). MendsSome selective true false (v ++ t.said) t l y) (sym nw)
    ((λ way. all, λ way. absurd (true≢false (sym way)), f.2, shows.1, f.3, shows.2), λ way owes none. absurd (true≢false (sym way)))

-- and what waits stays what it was where the other one ticks
pub ticks_some : (selective out back : Bool) (w : List Frame) (now : ℕ) (x : Station) (l : List Frame) (y : Station) → x.phase ≡ Up → x.acked ≤ x.sent → HasExpiryLeft now x
    → MendsSomeIn selective out back w x l y → MendsSomeIn selective out back w (ticks now x) l y
ticks_some selective out back w now x l y up low left h =
    let z : Station = sees now x in
    let v : Station = starts_timer (sends_again (counts_expiry z)) in
    elim (cases_Bool (is_late now x)) [
      | inl late ↦
          ticked now x (λ t. MendsSomeIn selective out back w t l y) (ap is_down up) (inr (late, left late)) (λ none. waiting_some selective out back w l y z h)
          (λ less.
          let e : expires_at x.phase z ≡ v = ap (λ (q : Phase). expires_at q z) up ∙ up_expires z less in
          subst (λ (t : Station). MendsSomeIn selective out back w (sends_waiting t) l y) (sym e)
          (waiting_some selective out back w l y v (sends_again_mends selective out back w l y (counts_expiry z) low h)))
      | inr timely ↦
          subst (λ (t : Station). MendsSomeIn selective out back w t l y)
          (sym (ap (λ (b : Bool). if b then x else sends_waiting (expires_if_due z)) (ap is_down up) ∙ ap sends_waiting (not_due now x timely)))
          (waiting_some selective out back w l y z h)
    ]

-- while the calling station is setting up, T1 of the called one doesn't run
pub early_stopped : (wd : ℕ) (w : List Frame) (y : Station) → (y.phase ≡ Idle) ⊎ (y.phase ≡ Up) → Own false wd w y → length y.taken ≡ 0 → y.timer ≡ None
early_stopped wd w y (inl idle) own none = (subst (λ (p : Phase). Timed p y.timer y.expiries y.acked y.sent) idle own.4).0
early_stopped wd w y (inr up) own none =
    let t = subst (λ (p : Phase). Timed p y.timer y.expiries y.acked y.sent) up own.4 in
    let unsent_yet : y.sent ≡ 0 = own.3 refl none in
    let low = t.2 in
    t.1 (omega (arith, unsent_yet, low))
