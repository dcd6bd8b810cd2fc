-- A loss-free line over a list of steps: the laws of delivery.
use Rattle.std.proofs.Common.{◌≡◌, ℕ, zero, suc, ◌+◌, ◌-◌, ◌*◌, ◌<◌, ◌≤◌, ◌⊎◌, inl, inr, max, Bool, true, false, not, ◌&&◌, ◌||◌, List, [], ◌∷◌, length, take, Option, Some, None, refl, sym, ◌∙◌, ap, subst, arith, lt-ltb, true≢false, take_all}
use Rattle.std.specs.Prelude.{nat_lt}
use Rattle.er_base.specs.declared.side.Side.{Side}
use Rattle.er_base.specs.declared.side.Side.TheVariants.{E, R}
use Rattle.hdlc_station_model.specs.declared.phase.Phase.{Phase}
use Rattle.hdlc_station_model.specs.declared.phase.Phase.TheVariants.{Up}
use Rattle.hdlc_station_model.specs.Frames.{Frame, SetUp, Ua}
use Rattle.hdlc_station_model.specs.Stations.{Station, is_up}
use Rattle.hdlc_station_model.specs.Sending.{can_send}
use Rattle.hdlc_station_model.specs.Events.{is_late}
use Rattle.hdlc_station_model.specs.Lines.{next_of}
use Rattle.pair_model.specs.Links.{frames_from}
use Rattle.pair_model.specs.Steps.{PairStep, NoFrameWaits, send, pass, tick_at, tick, is_overfull, pass_next, drained}
use Rattle.pair_model.specs.Walks.{all_send_any, runs_keep_free}
use Rattle.hdlc_pair_laws.specs.Links.{StationLink, station_kind, opened_station_link}
use Rattle.hdlc_pair_laws.specs.Laws.{StationLinkOpening, after, bound, Delivery, DeliveryBound}
use Rattle.hdlc_pair_laws.specs.Invariant.{IsStationPair, infos, receive_numbers_in_frames}
use Rattle.hdlc_pair_laws.specs.Flowing.{HasNoPayloadToSend, Shape}
use Rattle.hdlc_pair_laws.proofs.Ways.{way_bounds}
use Rattle.hdlc_pair_laws.proofs.Lines.{none_on_line}
use Rattle.hdlc_pair_laws.proofs.Acts.{Frames, at_moment, unmoved_keeps, sends}
use Rattle.hdlc_pair_laws.proofs.Opened.{span_of, opened_stands}
use Rattle.hdlc_pair_laws.proofs.Runs.{short_enough}
use Rattle.hdlc_pair_laws.proofs.Delivers.{Flows, Passed, e_sends, r_sends, e_ticks, r_ticks, e_pass, r_pass}

-- ---- a drain

-- behind a drain that began at l: nothing waits, or too many frames, or each pass was a delivery
pub record Emptied (selective : Bool) (l : StationLink) (most : ℕ) (d : StationLink) : Type 0 where
  pub flows : Flows selective d
  pub handed_e : d.e.station.handed ≡ l.e.station.handed
  pub handed_r : d.r.station.handed ≡ l.r.station.handed
  pub ends : NoFrameWaits d ⊎ (is_overfull d ≡ true) ⊎ (d.passes ≡ l.passes + most)

pub none_next : (selective : Bool) (most : ℕ) (l : StationLink) → next_of l.from_e l.from_r ≡ None → drained (station_kind selective) most l ≡ l
none_next selective zero l h = refl
none_next selective (suc most) l h =
    ap (λ (o : Option Side). drained (station_kind selective) most (pass_next (station_kind selective) o (is_overfull l) l)) h ∙ none_next selective most l h

full_stays : (selective : Bool) (side : Option Side) (l : StationLink) → pass_next (station_kind selective) side true l ≡ l
full_stays selective None l = refl
full_stays selective (Some side) l = refl

pub full_next : (selective : Bool) (most : ℕ) (l : StationLink) → is_overfull l ≡ true → drained (station_kind selective) most l ≡ l
full_next selective zero l h = refl
full_next selective (suc most) l h =
    ap (λ (t : StationLink). drained (station_kind selective) most t)
    (ap (λ (b : Bool). pass_next (station_kind selective) (next_of l.from_e l.from_r) b l) h ∙ full_stays selective (next_of l.from_e l.from_r) l) ∙ full_next selective most l h

-- which end is next, as the lines are
pub next_is : (from_e from_r : List (List ℕ)) → next_of from_e from_r ≡ None → (from_e ≡ []) × (from_r ≡ [])
next_is (f ∷ fs) from_r h = absurd cc
next_is [] (f ∷ fs) h = absurd cc
next_is [] [] h = (refl, refl)

module _ (laws : Frames) (selective : Bool) where
  -- the pass of the end that is next is a delivery
  e_delivers : (l : StationLink) (line : List (List ℕ)) (from_r : List (List ℕ)) → l.from_e ≡ line → next_of line from_r ≡ Some E → Flows selective l
      → Passed selective l (pass (station_kind selective) E line l)
  e_delivers l (f ∷ fs) from_r e h g = e_pass laws selective l g f fs e
  e_delivers l [] (f ∷ fs) e h g = absurd cc
  e_delivers l [] [] e h g = absurd cc

  r_delivers : (l : StationLink) (from_e line : List (List ℕ)) → l.from_r ≡ line → next_of from_e line ≡ Some R → Flows selective l
      → Passed selective l (pass (station_kind selective) R line l)
  r_delivers l (f ∷ fs) line e h g = absurd cc
  r_delivers l [] (f ∷ fs) e h g = r_pass laws selective l g f fs e
  r_delivers l [] [] e h g = absurd cc

  delivers : (side : Side) (l : StationLink) → next_of l.from_e l.from_r ≡ Some side → Flows selective l → Passed selective l (pass (station_kind selective) side (frames_from l side) l)
  delivers E l h g = e_delivers l l.from_e l.from_r refl h g
  delivers R l h g = r_delivers l l.from_e l.from_r refl h g

  more_passes : (l l' : StationLink) (most : ℕ) (d : StationLink) → Passed selective l l' → Emptied selective l' most d → Emptied selective l (suc most) d
  more_passes l l' most d p h =
      record {
        flows = h.flows;
        handed_e = h.handed_e ∙ p.handed_e;
        handed_r = h.handed_r ∙ p.handed_r;
        ends = elim h.ends [ inl none ↦ inl none | inr (inl full) ↦ inr (inl full) | inr (inr more) ↦ inr (inr (omega (arith, more, p.count))) ];
      }

  -- one round: what the rest of the drain does is an argument
  abbrev Rest : ℕ → Type 0
  Rest most = (l : StationLink) → Flows selective l → Emptied selective l most (drained (station_kind selective) most l)

  one_round : (most : ℕ) → Rest most → (l : StationLink) → Flows selective l → (o : Option Side) (b : Bool) → next_of l.from_e l.from_r ≡ o → is_overfull l ≡ b
      → Emptied selective l (suc most) (drained (station_kind selective) most (pass_next (station_kind selective) o b l))
  one_round most rest l g None b next full =
      subst (Emptied selective l (suc most)) (sym (none_next selective most l next)) (record { flows = g; handed_e = refl; handed_r = refl; ends = inl (next_is l.from_e l.from_r next) })
  one_round most rest l g (Some side) true next full =
      subst (Emptied selective l (suc most)) (sym (full_next selective most l full)) (record { flows = g; handed_e = refl; handed_r = refl; ends = inr (inl full) })
  one_round most rest l g (Some side) false next full =
      let p = delivers side l next g in
      let l' : StationLink = pass (station_kind selective) side (frames_from l side) l in
      more_passes l l' most (drained (station_kind selective) most l') p (rest l' p.flows)

  pub drained_empties : (most : ℕ) → Rest most
  drained_empties zero l g = record { flows = g; handed_e = refl; handed_r = refl; ends = inr (inr (omega arith)) }
  drained_empties (suc most) l g = one_round most (drained_empties most) l g (next_of l.from_e l.from_r) (is_overfull l) refl refl

  -- ---- the steps

  sent_flows : (side : Side) (p : List ℕ) (l : StationLink) → Flows selective l → Flows selective (send (station_kind selective) side p l)
  sent_flows E p l g = sends selective (Flows selective) E p l (λ may. e_sends selective l p (short_enough p l.e.station may) g) g
  sent_flows R p l g = sends selective (Flows selective) R p l (λ may. r_sends selective l p (short_enough p l.r.station may) g) g

  line_flows : (side : Side) (line : List (List ℕ)) (l : StationLink) → frames_from l side ≡ line → Flows selective l → Flows selective (pass (station_kind selective) side line l)
  line_flows side [] l e g = g
  line_flows E (octets ∷ rest) l e g = (e_pass laws selective l g octets rest e).flows
  line_flows R (octets ∷ rest) l e g = (r_pass laws selective l g octets rest e).flows

  ticked_flows : (now : ℕ) (l : StationLink) → is_late (max l.moment now) l.e.station ≡ false → is_late (max l.moment now) l.r.station ≡ false → Flows selective l
      → Flows selective (tick (station_kind selective) now l)
  ticked_flows now l timely_e timely_r g =
      let first : StationLink = at_moment (max l.moment now) l in
      r_ticks selective (tick_at (station_kind selective) E first) timely_r (e_ticks selective first timely_e (record { k = g.k; fe = g.fe; fr = g.fr; stands = g.stands; shape = g.shape }))

opened_flows : (s : StationLinkOpening) → Flows s.selective (opened_station_link s.selective s.extended s.window s.n2 s.t1 s.moment)
opened_flows s =
    record {
      k = span_of s.selective s.extended s.window;
      fe = SetUp ∷ [];
      fr = [];
      stands = opened_stands s;
      shape = inl (refl, refl, refl, refl, (refl, refl, refl, refl, refl, refl, s.some, refl), (refl, refl, refl, refl, refl, refl, s.some, refl), refl);
    }

pub after_flows : Frames → (s : StationLinkOpening) (steps : List PairStep) → (after s steps).loss_free ≡ true → Flows s.selective (after s steps)
after_flows laws s steps =
    let b : Bool = s.selective in
    runs_keep_free (station_kind b) (λ user. Unit {0}) (Flows b) (record {
      sent = λ side user l any. sent_flows laws b side user l;
      passed = λ side l. line_flows laws b side (frames_from l side) l refl;
      took = unmoved_keeps (Flows b);
      ticked = ticked_flows laws b;
    }) steps (opened_station_link b s.extended s.window s.n2 s.t1 s.moment) (all_send_any steps) (opened_flows s)

-- ---- the bound

pub bound_at : (selective : Bool) (k n : ℕ) (lx : List Frame) (x : Station) (ly : List Frame) (y : Station) → IsStationPair selective k lx x ly y → Shape n lx x ly y
    → n + (length lx + length ly) ≤ 2 + 2 * (length x.handed + length y.handed)
bound_at selective k n lx x ly y p shape =
    let bx = way_bounds k x.handed x.acked x.sent y.taken (infos lx) (receive_numbers_in_frames ly) p.0.0 in
    let by = way_bounds k y.handed y.acked y.sent x.taken (infos ly) (receive_numbers_in_frames lx) p.1.0 in
    let gx = p.0.0.given in
    let gy = p.1.0.given in
    elim shape [
      | inl a ↦ let ex : length lx ≡ 1 = ap length a.2 in let ey : length ly ≡ 0 = ap length a.3 in omega (arith, a.6)
      | inr (inl a) ↦ let ex : length lx ≡ 0 = ap length a.2 in let ey : length ly ≡ 1 = ap length a.3 in omega (arith, a.6)
      | inr (inr a) ↦ omega (arith, a.0.4)
    ]

pub bound_flows : (selective : Bool) (l : StationLink) (g : Flows selective l) → l.passes + (length g.fe + length g.fr) ≤ bound l
bound_flows selective l g = bound_at selective g.k l.passes g.fe l.e.station g.fr l.r.station g.stands.pair g.shape

pub delivery_bound : Frames → DeliveryBound
delivery_bound laws s steps e = omega (arith, bound_flows s.selective (after s steps) (after_flows laws s steps e))

-- ---- an empty line

-- a station that is up, has nothing unacknowledged and may begin has sent all
pub all_sent : (x : Station) (c : Bool) → x.phase ≡ Up → x.busy ≡ false → x.sent ≡ x.acked → 1 ≤ x.window → (x.calling || nat_lt 0 (length x.taken)) ≡ true → HasNoPayloadToSend x → x.sent ≡ length x.handed
all_sent x c up ready same some may (inr all) = all
all_sent x c up ready same some may (inl cannot) =
    let room : nat_lt (x.sent - x.acked) x.window ≡ true = lt-ltb (x.sent - x.acked) x.window (omega arith) in
    let can : can_send x ≡ true =
    ap (λ (p : Phase). is_up p && not x.busy && nat_lt (x.sent - x.acked) x.window && (x.calling || nat_lt 0 (length x.taken))) up
    ∙ ap (λ (b : Bool). not b && nat_lt (x.sent - x.acked) x.window && (x.calling || nat_lt 0 (length x.taken))) ready
    ∙ ap (λ (b : Bool). b && (x.calling || nat_lt 0 (length x.taken))) room ∙ may in
    absurd (true≢false (sym can ∙ cannot))

pub whole : (taken handed : List (List ℕ)) (s : ℕ) → taken ≡ take (length taken) handed → length taken ≡ s → s ≡ length handed → taken ≡ handed
whole taken handed s prefix same all = prefix ∙ take_all (length taken) handed (omega arith)

-- no frame waits
pub emptied_at : (selective : Bool) (k n : ℕ) (x : Station) (y : Station) → IsStationPair selective k [] x [] y → Shape n [] x [] y
    → (x.phase ≡ Up) × (y.phase ≡ Up) × (y.taken ≡ x.handed) × (1 ≤ length x.handed → x.taken ≡ y.handed)
emptied_at selective k n x y p (inl a) = absurd (let e : [] ≡ SetUp ∷ [] = a.2 in let u : ⊥ = cc in u)
emptied_at selective k n x y p (inr (inl a)) = absurd (let e : [] ≡ Ua true ∷ [] = a.3 in let u : ⊥ = cc in u)
emptied_at selective k n x y p (inr (inr a)) =
    let t = a.0 in
    let sent_x : x.sent ≡ x.acked = sym t.0.2 ∙ sym (t.0.3 a.2.0) in
    let sent_y : y.sent ≡ y.acked = sym t.1.2 ∙ sym (t.1.3 a.1.0) in
    let all_x : x.sent ≡ length x.handed = all_sent x true t.0.0 t.0.1 sent_x t.0.5 (ap (λ (c : Bool). c || nat_lt 0 (length x.taken)) t.0.4) a.1.1 in
    let took_x : y.taken ≡ x.handed = whole y.taken x.handed x.sent p.0.0.prefix t.0.2 all_x in (
      t.0.0,
      t.1.0,
      took_x,
      λ some.
          let took : 0 < length y.taken = omega (arith, t.0.2) in
          let may : (y.calling || nat_lt 0 (length y.taken)) ≡ true =
          ap (λ (c : Bool). c || nat_lt 0 (length y.taken)) t.1.4 ∙ lt-ltb 0 (length y.taken) took in
          let all_y : y.sent ≡ length y.handed = all_sent y false t.1.0 t.1.1 sent_y t.1.5 may a.2.1 in
          whole x.taken y.handed y.sent p.1.0.prefix t.1.2 all_y,
    )

pub delivery : Frames → Delivery
delivery laws s steps free empty =
    let l : StationLink = after s steps in
    let e : Station = l.e.station in
    let r : Station = l.r.station in
    let b : Bool = s.selective in
    let g = after_flows laws s steps free in
    let ne : g.fe ≡ [] = none_on_line e g.fe (sym empty.0 ∙ g.stands.lined_x) in
    let nr : g.fr ≡ [] = none_on_line r g.fr (sym empty.1 ∙ g.stands.lined_y) in
    emptied_at b g.k l.passes e r
    (subst (λ (t : List Frame). IsStationPair b g.k t e [] r) ne (subst (λ (t : List Frame). IsStationPair b g.k g.fe e t r) nr g.stands.pair))
    (subst (λ (t : List Frame). Shape l.passes t e [] r) ne (subst (λ (t : List Frame). Shape l.passes g.fe e t r) nr g.shape))
