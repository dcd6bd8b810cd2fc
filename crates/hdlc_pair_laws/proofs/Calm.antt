-- A line that lost nothing and repeated nothing: no station sees a gap, and none asks for a number. With the shape of what flows, beside what holds
-- of each station alone.
use Rattle.std.proofs.Common.{◌≡◌, ℕ, zero, suc, ◌+◌, ◌≤◌, inl, inr, max, Bool, true, false, List, [], ◌∷◌, ◌++◌, length, None, refl, sym, ◌∙◌, ap, subst, append-nil}
use Rattle.std.specs.Prelude.{nat_le}
use Rattle.std.specs.List.{filter}
use Rattle.std.proofs.lemmas.Bool.{cond_both}
use Rattle.er_base.specs.declared.side.Side.{Side}
use Rattle.er_base.specs.declared.side.Side.TheVariants.{E, R}
use Rattle.hdlc_frames.specs.Laws.{ControlReadsBack}
use Rattle.hdlc_station_model.specs.declared.phase.Phase.{Phase}
use Rattle.hdlc_station_model.specs.Frames.{Frame, Info, Rr, Rej, Srej, SetUp, Disc, Dm, Ua, shown}
use Rattle.hdlc_station_model.specs.Stations.{Station, is_up, is_down, sees, puts, settled}
use Rattle.hdlc_station_model.specs.Sending.{can_send, waiting, sends_next, sends_up_to, sends_waiting, settles, expires_if_due}
use Rattle.hdlc_station_model.specs.Receiving.{acknowledges, marks_busy, agrees, comes_up}
use Rattle.hdlc_station_model.specs.Selective.{receives_as}
use Rattle.hdlc_station_model.specs.Calls.{hands, finishes, ticks}
use Rattle.hdlc_station_model.specs.Events.{is_late}
use Rattle.pair_model.specs.Steps.{PairStep, send, tick_at, tick, pair_run}
use Rattle.pair_model.specs.Walks.{all_send_any, runs_keep_free}
use Rattle.hdlc_pair_laws.specs.Links.{StationLink, station_kind, opened_station_link}
use Rattle.hdlc_pair_laws.specs.Laws.{StationLinkOpening, after}
use Rattle.hdlc_pair_laws.specs.Invariant.{IsStationPair, Both}
use Rattle.hdlc_pair_laws.specs.Keeping.{found}
use Rattle.hdlc_pair_laws.specs.LossFree.{FlowKeeps}
use Rattle.hdlc_pair_laws.specs.Flowing.{Still, Asked, Agreed, Shape, Flushed, Midway}
use Rattle.hdlc_pair_laws.proofs.Events.{finishes_keeps, hands_keeps, ticks_keeps}
use Rattle.hdlc_pair_laws.proofs.Hearing.{row_as}
use Rattle.hdlc_pair_laws.proofs.Opened.{span_of, opened_stands}
use Rattle.hdlc_pair_laws.proofs.Acts.{Frames, at_moment, unmoved_keeps, sends, e_begun, r_begun}
use Rattle.hdlc_pair_laws.proofs.Runs.{short_enough}
use Rattle.hdlc_pair_laws.proofs.Telling.{phases_stay, ticks_tell}
use Rattle.hdlc_pair_laws.proofs.Flows.{still_swap, takes_next, heard_live, heard_row, info_is, rr_is, not_due}
use Rattle.hdlc_pair_laws.proofs.Delivers.{called_cannot, sets_up, agreed_row}
use Rattle.hdlc_pair_laws.proofs.LossFree.{unsent, flow_keeps}
use Rattle.hdlc_pair_laws.proofs.SoundCalls.{hands_leaves, ticks_leaves}
use Rattle.hdlc_pair_laws.proofs.Sounds.{Claim, Sounds, e_does, r_does, e_own, r_own, same, ToR, ToE, passed}
use Rattle.hdlc_pair_laws.proofs.SoundRuns.{wide_at}

-- ---- one station

-- its gap mark is clear, or with selective reject it asked for nothing
abbrev pub IsCalmAt : (selective gap : Bool) (asked : List ℕ) → Type 0
IsCalmAt true gap asked = asked ≡ []
IsCalmAt false gap asked = gap ≡ false

abbrev pub IsCalm : (selective : Bool) → Station → Type 0
IsCalm selective x = IsCalmAt selective x.gap x.asked

up_to_calm : (selective : Bool) (n : ℕ) (x : Station) → IsCalm selective x → IsCalm selective (sends_up_to n x)
up_to_calm selective zero x h = h
up_to_calm selective (suc n) x h = cond_both (can_send x) (sends_up_to n (sends_next x)) x (IsCalm selective) (λ can. up_to_calm selective n (sends_next x) h) (λ cannot. h)

waiting_calm : (selective : Bool) (x : Station) → IsCalm selective x → IsCalm selective (sends_waiting x)
waiting_calm selective x h = up_to_calm selective (waiting x) x h

finishes_calm : (selective : Bool) (x : Station) → IsCalm selective x → IsCalm selective (finishes x)
finishes_calm selective x h =
    cond_both (is_down x.phase) x (settles x) (IsCalm selective) (λ e. h)
    (λ e. cond_both x.owed (record (puts (Rr (length x.taken)) x) { owed = false }) x (IsCalm selective) (λ owes. h) (λ owes. h))

hands_calm : (selective : Bool) (now : ℕ) (p : List ℕ) (x : Station) → IsCalm selective x → IsCalm selective (hands now p x)
hands_calm selective now p x h =
    let z : Station = record (sees now x) { handed = x.handed ++ p ∷ [] } in
    cond_both (is_down x.phase) x (sends_waiting z) (IsCalm selective) (λ e. h) (λ e. waiting_calm selective z h)

ticks_calm : (selective : Bool) (now : ℕ) (x : Station) → is_late now x ≡ false → IsCalm selective x → IsCalm selective (ticks now x)
ticks_calm selective now x late h =
    cond_both (is_down x.phase) x (sends_waiting (expires_if_due (sees now x))) (IsCalm selective) (λ e. h)
    (λ e. subst (λ (t : Station). IsCalm selective (sends_waiting t)) (sym (not_due now x late)) (waiting_calm selective (sees now x) h))

taken_calm : (selective : Bool) (p : List ℕ) (x : Station) → IsCalm selective x → IsCalm selective (takes_next selective p x)
taken_calm true p x h = ap (filter (λ (n : ℕ). nat_le (length x.taken + 1 + 0) n)) h
taken_calm false p x h = refl

-- ---- a frame comes

up_calm : ControlReadsBack → (selective c : Bool) (k n : ℕ) (w : List Frame) (now : ℕ) (x : Station) (f : Frame) (fs : List Frame) (y : Station)
    → IsStationPair selective k (w ++ x.said) x (f ∷ fs) y → Flushed c n w x (f ∷ fs) y → IsCalm selective x → IsCalm selective (receives_as selective now (found y f) x)
up_calm law selective c k n w now x (Info m r p) fs y h s calm =
    let z : Station = sees now x in
    subst (IsCalm selective)
    (sym (heard_live selective now (found y (Info m r p)) x (ap is_down s.0.0.0)
    ∙ ap sends_waiting (info_is law selective k (w ++ x.said) z m r p fs y s.0.0.0 (sym s.0.1.2.0) s.0.0.6 h)))
    (waiting_calm selective (takes_next selective p (acknowledges r z)) (taken_calm selective p (acknowledges r z) calm))
up_calm law selective c k n w now x (Rr r) fs y h s calm =
    let z : Station = sees now x in
    subst (IsCalm selective) (sym (heard_live selective now (found y (Rr r)) x (ap is_down s.0.0.0) ∙ ap sends_waiting (rr_is law selective k (w ++ x.said) z r fs y s.0.0.0 h)))
    (waiting_calm selective (marks_busy false (acknowledges r z)) calm)
up_calm law selective c k n w now x (Rej r) fs y h s calm = absurd s.0.3.0
up_calm law selective c k n w now x (Srej r) fs y h s calm = absurd s.0.3.0
up_calm law selective c k n w now x SetUp fs y h s calm = absurd s.0.3.0
up_calm law selective c k n w now x Disc fs y h s calm = absurd s.0.3.0
up_calm law selective c k n w now x Dm fs y h s calm = absurd s.0.3.0
up_calm law selective c k n w now x (Ua final) fs y h s calm = absurd s.0.3.0

first_is : (f g : Frame) (fs gs : List Frame) → f ∷ fs ≡ g ∷ gs → (f ≡ g) × (fs ≡ gs)
first_is f g fs gs e = (cc, cc)

asked_calm : ControlReadsBack → (selective : Bool) (k n : ℕ) (w : List Frame) (now : ℕ) (x : Station) (f : Frame) (fs : List Frame) (y : Station)
    → IsStationPair selective k (w ++ x.said) x (f ∷ fs) y → Asked n (f ∷ fs) y (w ++ x.said) x → IsCalm selective x → IsCalm selective (receives_as selective now (found y f) x)
asked_calm law selective k n w now x f fs y h a calm =
    let first = first_is f SetUp fs [] a.2 in
    let q = subst (λ (z : Frame). IsStationPair selective k (w ++ x.said) x (z ∷ fs) y) first.0 h in
    let z : Station = agrees true (comes_up (sees now x)) in
    let e : receives_as selective now (found y f) x ≡ z =
    ap (λ (g : Frame). receives_as selective now (found y g) x) first.0 ∙ heard_live selective now (found y SetUp) x (ap is_down a.1)
    ∙ ap sends_waiting
    (heard_row law selective k (w ++ x.said) (sees now x) SetUp fs y q ∙ ap (λ (p : Phase). row_as selective p (sees now x) (shown x.extended SetUp) []) a.1 ∙ sets_up selective (sees now x))
    ∙ unsent z (called_cannot z a.5) in
    subst (IsCalm selective) (sym e) calm

agreed_calm : ControlReadsBack → (selective : Bool) (k n : ℕ) (w : List Frame) (now : ℕ) (x : Station) (f : Frame) (fs : List Frame) (y : Station)
    → IsStationPair selective k (w ++ x.said) x (f ∷ fs) y → Agreed n (w ++ x.said) x (f ∷ fs) y → IsCalm selective x → IsCalm selective (receives_as selective now (found y f) x)
agreed_calm law selective k n w now x f fs y h a calm =
    let first = first_is f (Ua true) fs [] a.3 in
    let q = subst (λ (z : Frame). IsStationPair selective k (w ++ x.said) x (z ∷ fs) y) first.0 h in
    let z : Station = comes_up (record (sees now x) { timer = None; expiries = 0 }) in
    let e : receives_as selective now (found y f) x ≡ sends_waiting z =
    ap (λ (g : Frame). receives_as selective now (found y g) x) first.0 ∙ heard_live selective now (found y (Ua true)) x (ap is_down a.0)
    ∙ ap sends_waiting
    (heard_row law selective k (w ++ x.said) (sees now x) (Ua true) fs y q ∙ ap (λ (p : Phase). row_as selective p (sees now x) (shown x.extended (Ua true)) []) a.0 ∙ agreed_row selective (sees now x)) in
    subst (IsCalm selective) (sym e) (waiting_calm selective z calm)

received_calm : ControlReadsBack → (selective c : Bool) (k n : ℕ) (w : List Frame) (now : ℕ) (x : Station) (f : Frame) (fs : List Frame) (y : Station)
    → Both selective k w x (f ∷ fs) y → Midway c n w x (f ∷ fs) y → IsCalm selective x → IsCalm selective (receives_as selective now (found y f) x)
received_calm law selective true k n w now x f fs y b (inl a) calm = absurd (let e : f ∷ fs ≡ [] = a.3 in let u : ⊥ = cc in u)
received_calm law selective true k n w now x f fs y b (inr (inl a)) calm = agreed_calm law selective k n w now x f fs y b a calm
received_calm law selective true k n w now x f fs y b (inr (inr a)) calm = up_calm law selective true k n w now x f fs y b a.0 calm
received_calm law selective false k n w now x f fs y b (inl a) calm = asked_calm law selective k n w now x f fs y b a calm
received_calm law selective false k n w now x f fs y b (inr (inl a)) calm = absurd (let e : f ∷ fs ≡ [] = a.2 in let u : ⊥ = cc in u)
received_calm law selective false k n w now x f fs y b (inr (inr a)) calm = up_calm law selective false k n w now x f fs y b a.0 calm

-- ---- both, between two calls

-- so it is of this end
abbrev pub CalmAt : (side : Side) (selective : Bool) → Station → Station → Type 0
CalmAt E selective e r = IsCalm selective e
CalmAt R selective e r = IsCalm selective r

e_calm : (side : Side) (selective : Bool) (e t r : Station) → (IsCalm selective e → IsCalm selective t) → CalmAt side selective e r → CalmAt side selective (settled t) r
e_calm E selective e t r keeps h = keeps h
e_calm R selective e t r keeps h = h

r_calm : (side : Side) (selective : Bool) (e r t : Station) → (IsCalm selective r → IsCalm selective t) → CalmAt side selective e r → CalmAt side selective e (settled t)
r_calm E selective e r t keeps h = h
r_calm R selective e r t keeps h = keeps h

-- this end takes what the other sends
abbrev pub Calm : (side : Side) → Claim
Calm side selective fe e fr r = (n : ℕ) × (Shape n fe e fr r × CalmAt side selective e r)

calling_begins : (n : ℕ) (lx : List Frame) (x : Station) (ly : List Frame) (y : Station) → x.said ≡ [] → x.sent ≤ length x.handed → Shape n lx x ly y → Midway true n lx x ly y
calling_begins n lx x ly y quiet given h =
    let e : lx ++ x.said ≡ lx = ap (λ (t : List Frame). lx ++ t) quiet ∙ append-nil lx in
    elim h [
      | inl a ↦ inl (a.0, a.1, e ∙ a.2, a.3, a.4, a.5, a.6)
      | inr (inl a) ↦ inr (inl (a.0, a.1, e ∙ a.2, a.3, a.4, a.5, a.6))
      | inr (inr a) ↦ inr (inr ((subst (λ (t : List Frame). Still true n t x ly y) (sym e) a.0, a.1.1, given), a.2))
    ]

called_begins : (n : ℕ) (lx : List Frame) (x : Station) (ly : List Frame) (y : Station) → y.said ≡ [] → y.sent ≤ length y.handed → Shape n lx x ly y → Midway false n ly y lx x
called_begins n lx x ly y quiet given h =
    let e : ly ++ y.said ≡ ly = ap (λ (t : List Frame). ly ++ t) quiet ∙ append-nil ly in
    elim h [
      | inl a ↦ inl (a.0, a.1, a.2, e ∙ a.3, a.4, a.5, a.6)
      | inr (inl a) ↦ inr (inl (a.0, a.1, a.2, e ∙ a.3, a.4, a.5, a.6))
      | inr (inr a) ↦ inr (inr ((subst (λ (t : List Frame). Still false n t y lx x) (sym e) (still_swap n lx x ly y a.0), a.2.1, given), a.1))
    ]

module _ (laws : Frames) (side : Side) (wd : ℕ) where
  keeps : FlowKeeps
  keeps = flow_keeps laws.back

  pub to_r : ToR wd (Calm side)
  to_r selective k now fr r f fs e wide quiet b own_r own_e rests_r rests_e q =
      let m = called_begins q.0 (f ∷ fs) e fr r quiet b.0.0.given q.1.0 in
      let t : Station = receives_as selective now (found e f) r in (
        q.0 + 1,
        (
          keeps.finished false (q.0 + 1) fr t fs e (keeps.received selective false k q.0 fr now r f fs e b m),
          r_calm side selective e r (finishes t) (λ calm. finishes_calm selective t (received_calm laws.back selective false k q.0 fr now r f fs e b m calm)) q.1.1,
        ),
      )

  pub to_e : ToE wd (Calm side)
  to_e selective k now fe e f fs r wide quiet b own_e own_r rests_e rests_r q =
      let m = calling_begins q.0 fe e (f ∷ fs) r quiet b.0.0.given q.1.0 in
      let t : Station = receives_as selective now (found r f) e in (
        q.0 + 1,
        (
          keeps.finished true (q.0 + 1) fe t fs r (keeps.received selective true k q.0 fe now e f fs r b m),
          e_calm side selective e (finishes t) r (λ calm. finishes_calm selective t (received_calm laws.back selective true k q.0 fe now e f fs r b m calm)) q.1.1,
        ),
      )

module _ (laws : Frames) (to : Side) (selective : Bool) (wd : ℕ) where
  flow : FlowKeeps
  flow = flow_keeps laws.back

  -- ---- the steps

  sent_calm : (side : Side) (p : List ℕ) (l : StationLink) → Sounds selective wd (Calm to) l → Sounds selective wd (Calm to) (send (station_kind selective) side p l)
  sent_calm E p l h =
      let q = h.claim in
      let e : Station = l.e.station in
      let r : Station = l.r.station in
      let t : Station = hands l.moment p e in
      sends selective (Sounds selective wd (Calm to)) E p l
      (λ may. e_does selective wd (Calm to) (Calm to) l h (finishes t)
      (finishes_keeps selective h.k h.fe t h.fr r (hands_keeps selective h.k h.fe l.moment e h.fr r p (short_enough p e may) (e_begun selective l h.stands)))
      (hands_leaves true wd h.fe l.moment p e h.stands.pair.0.0.given (e_own selective wd (Calm to) l h))
      (λ idle. ap is_up (phases_stay.finishes t ∙ phases_stay.hands l.moment p e) ∙ h.first idle) (
        q.0,
        (
          flow.finished true q.0 h.fe t h.fr r (flow.handed true q.0 h.fe l.moment p e h.fr r (calling_begins q.0 h.fe e h.fr r h.stands.quiet_x h.stands.pair.0.0.given q.1.0)),
          e_calm to selective e (finishes t) r (λ calm. finishes_calm selective t (hands_calm selective l.moment p e calm)) q.1.1,
        ),
      )) h
  sent_calm R p l h =
      let q = h.claim in
      let e : Station = l.e.station in
      let r : Station = l.r.station in
      let t : Station = hands l.moment p r in
      sends selective (Sounds selective wd (Calm to)) R p l
      (λ may. r_does selective wd (Calm to) (Calm to) l h (finishes t)
      (finishes_keeps selective h.k h.fr t h.fe e (hands_keeps selective h.k h.fr l.moment r h.fe e p (short_enough p r may) (r_begun selective l h.stands)))
      (hands_leaves false wd h.fr l.moment p r h.stands.pair.1.0.given (r_own selective wd (Calm to) l h)) (
        q.0,
        (
          flow.finished false q.0 h.fr t h.fe e (flow.handed false q.0 h.fr l.moment p r h.fe e (called_begins q.0 h.fe e h.fr r h.stands.quiet_y h.stands.pair.1.0.given q.1.0)),
          r_calm to selective e r (finishes t) (λ calm. finishes_calm selective t (hands_calm selective l.moment p r calm)) q.1.1,
        ),
      )) h

  e_ticked : (l : StationLink) → is_late l.moment l.e.station ≡ false → Sounds selective wd (Calm to) l → Sounds selective wd (Calm to) (tick_at (station_kind selective) E l)
  e_ticked l late h =
      let q = h.claim in
      let e : Station = l.e.station in
      let r : Station = l.r.station in
      let t : Station = ticks l.moment e in
      e_does selective wd (Calm to) (Calm to) l h (finishes t) (finishes_keeps selective h.k h.fe t h.fr r (ticks_keeps selective h.k h.fe l.moment e h.fr r (e_begun selective l h.stands)))
      (ticks_leaves true wd h.fe l.moment e h.stands.pair.0.0.given (e_own selective wd (Calm to) l h))
      (λ idle. ap is_up (phases_stay.finishes t) ∙ ticks_tell.asleep l.moment e (h.first idle)) (
        q.0,
        (
          flow.finished true q.0 h.fe t h.fr r (flow.ticked true q.0 h.fe l.moment e h.fr r late (calling_begins q.0 h.fe e h.fr r h.stands.quiet_x h.stands.pair.0.0.given q.1.0)),
          e_calm to selective e (finishes t) r (λ calm. finishes_calm selective t (ticks_calm selective l.moment e late calm)) q.1.1,
        ),
      )

  r_ticked : (l : StationLink) → is_late l.moment l.r.station ≡ false → Sounds selective wd (Calm to) l → Sounds selective wd (Calm to) (tick_at (station_kind selective) R l)
  r_ticked l late h =
      let q = h.claim in
      let e : Station = l.e.station in
      let r : Station = l.r.station in
      let t : Station = ticks l.moment r in
      r_does selective wd (Calm to) (Calm to) l h (finishes t) (finishes_keeps selective h.k h.fr t h.fe e (ticks_keeps selective h.k h.fr l.moment r h.fe e (r_begun selective l h.stands)))
      (ticks_leaves false wd h.fr l.moment r h.stands.pair.1.0.given (r_own selective wd (Calm to) l h)) (
        q.0,
        (
          flow.finished false q.0 h.fr t h.fe e (flow.ticked false q.0 h.fr l.moment r h.fe e late (called_begins q.0 h.fe e h.fr r h.stands.quiet_y h.stands.pair.1.0.given q.1.0)),
          r_calm to selective e r (finishes t) (λ calm. finishes_calm selective t (ticks_calm selective l.moment r late calm)) q.1.1,
        ),
      )

  ticked_calm : (now : ℕ) (l : StationLink) → is_late (max l.moment now) l.e.station ≡ false → is_late (max l.moment now) l.r.station ≡ false → Sounds selective wd (Calm to) l
      → Sounds selective wd (Calm to) (tick (station_kind selective) now l)
  ticked_calm now l timely_e timely_r h =
      let first : StationLink = at_moment (max l.moment now) l in
      r_ticked (tick_at (station_kind selective) E first) timely_r (e_ticked first timely_e (same selective wd (Calm to) l h _ l.passes l.order_kept _))

  -- from any moment on
  pub run_calm : (steps : List PairStep) (l : StationLink) → Sounds selective wd (Calm to) l → (pair_run (station_kind selective) l steps).loss_free ≡ true
      → Sounds selective wd (Calm to) (pair_run (station_kind selective) l steps)
  run_calm steps l =
      runs_keep_free (station_kind selective) (λ user. Unit {0}) (Sounds selective wd (Calm to)) (record {
        sent = λ side user l any. sent_calm side user l;
        passed = λ side l h. (passed selective wd (Calm to) laws (to_r laws to wd) (to_e laws to wd) side l h).0;
        took = unmoved_keeps (Sounds selective wd (Calm to));
        ticked = ticked_calm;
      }) steps l (all_send_any steps)

calm_where : (side : Side) (selective : Bool) (e r : Station) → e.gap ≡ false → e.asked ≡ [] → r.gap ≡ false → r.asked ≡ [] → CalmAt side selective e r
calm_where E true e r eg ea rg ra = ea
calm_where E false e r eg ea rg ra = eg
calm_where R true e r eg ea rg ra = ra
calm_where R false e r eg ea rg ra = rg

opened_calm : (side : Side) (s : StationLinkOpening) → Sounds s.selective s.window (Calm side) (opened_station_link s.selective s.extended s.window s.n2 s.t1 s.moment)
opened_calm side s =
    let l : StationLink = opened_station_link s.selective s.extended s.window s.n2 s.t1 s.moment in
    record {
      k = span_of s.selective s.extended s.window;
      fe = SetUp ∷ [];
      fr = [];
      stands = opened_stands s;
      own_e = (refl, refl, refl, λ called none. refl, λ none. absurd cc, refl, λ live. (tt, tt), λ idle. absurd cc);
      own_r = (refl, refl, refl, λ called none. refl, (refl, refl), refl, λ live. tt, λ idle. (refl, refl));
      rests_e = (inl refl, λ live. refl);
      rests_r = (inl refl, λ live. refl);
      first = λ idle. refl;
      wide = wide_at s.selective s.extended s.window;
      begun = λ idle. absurd cc;
      claim = (
        0,
        (inl (refl, refl, refl, refl, (refl, refl, refl, refl, refl, refl, s.some, refl), (refl, refl, refl, refl, refl, refl, s.some, refl), refl), calm_where side s.selective l.e.station l.r.station refl refl refl refl),
      );
    }

pub after_calm : Frames → (side : Side) (s : StationLinkOpening) (steps : List PairStep) → (after s steps).loss_free ≡ true → Sounds s.selective s.window (Calm side) (after s steps)
after_calm laws side s steps =
    let b : Bool = s.selective in
    let wd : ℕ = s.window in
    run_calm laws side b wd steps (opened_station_link b s.extended wd s.n2 s.t1 s.moment) (opened_calm side s)
